-- What a call has in mind of pairs of types. Assumes nothing.
use mathlib.Core.Path.{◌≡◌, refl, sym, ◌∙◌, ap, subst}
use mathlib.Core.Bool.{Bool, Bool-set, true, false, not, beq, ◌||◌, cond}
use mathlib.Core.Logic.{◌⊎◌, inl, inr, ⊎_elim, ∥∥₁_elim}
use Rattle.std.proofs.Common.{Option, Some, None, MatchOption}
use Rattle.std.specs.Option.{option_eq}
use Rattle.std.proofs.Math.Bridge.{le_prop}
use Rattle.std.proofs.Math.Logic.{∥∥₁_prop}
use mathlib.Core.List.{List}
use Prim.Native.Nat.{ℕ, ◌+◌, ◌*◌, ◌/◌, ◌%◌, ◌<◌}
use native.Mathlib.Omega.{arith}
use lib.Dec.{T, eqb, ltb}
use borrow.Author.Tests.{eqb-true, eqb-false, ltb-true, lt-ltb, not-true}
use Rattle.pages.proofs.Quant.{and_true}
use Rattle.pages.proofs.Bytes.{and_false}
use Rattle.kinds.specs.Kinds.{callback, is_array, is_tuple, is_map, is_union}
use Rattle.types.specs.Store.{types_max, Formed}
use Rattle.types.specs.Types.{types_in, kind_of, Held}
use Rattle.types.proofs.Types.{whole, held_by}
use Rattle.marks.specs.Marks.{is_marked, marking, Noted}
use Rattle.marks.proofs.Marks.{marked_more, marked_still}
use Rattle.matching.specs.declared.Checked.{Checked}
use Rattle.matching.specs.declared.Checked.TheVariants.{Known, Unknown, Function}
use Rattle.matching.specs.Matching.{both, is_kind, in_use, null_array_elision, null_map_elision, flat_matches, known_matches}
use Rattle.matching.specs.Memo.{type_number, fits, has_partner, found, column_of, keeps, Says, Found, refuting}
use Rattle.matching.proofs.Parts.{within_below, within_above}

-- a type in use has a row and a column
pub in_use_small : (page : List ℕ) → Formed page → (t : ℕ) → t < types_in page → t < types_max
in_use_small page f t u = omega (arith, (whole page f.names f.form).few)

pub stored_small : {page offsets : List ℕ} → ∥ Held page offsets ∥₁ → (t : ℕ) → t < types_in page → t < types_max
stored_small h t u = in_use_small _ (held_by h).sound t u

-- so two types in use have room in a table for all
number_small : (page : List ℕ) → Formed page → (c : Checked) → in_use page c ≡ true → type_number c < types_max
unfolding in_use type_number
number_small page f Unknown h = omega arith
number_small page f (Known t) h = in_use_small page f t (ltb-true t (types_in page) h)
number_small page f (Function t) h = in_use_small page f t (ltb-true t (types_in page) (and_true (ltb t (types_in page)) (is_kind callback page t) h).0)

pub all_fit : (page : List ℕ) → Formed page → (a b : Checked) → in_use page a ≡ true → in_use page b ≡ true → fits types_max a b ≡ true
unfolding fits
all_fit page f a b h k = rw (lt-ltb (type_number a) types_max (number_small page f a h), lt-ltb (type_number b) types_max (number_small page f b k)) refl

-- a column's type and answer
column_type : (b : ℕ) (answer : Bool) → column_of b answer / 2 ≡ b
unfolding column_of
column_type b true = omega arith
column_type b false = omega arith

column_answer : (b : ℕ) (answer : Bool) → eqb (column_of b answer % 2) 1 ≡ answer
unfolding column_of
column_answer b true = let e : (2 * b + 1) % 2 ≡ 1 = omega arith in rw e refl
column_answer b false = let e : (2 * b + 0) % 2 ≡ 0 = omega arith in rw e refl

-- a column is that of its type and its answer
column_back : (c : ℕ) → column_of (c / 2) (eqb (c % 2) 1) ≡ c
unfolding column_of
column_back c = go (eqb (c % 2) 1) refl
  where
    even : (r : ℕ) → r < 2 → (r ≡ 1 → ⊥) → r ≡ 0
    even r l ne = omega arith

    go : (r : Bool) → eqb (c % 2) 1 ≡ r → column_of (c / 2) r ≡ c
    go true e = let h = eqb-true (c % 2) 1 e in omega (arith, h)
    go false e = let h : c % 2 ≡ 0 = even (c % 2) (omega arith) (eqb-false (c % 2) 1 e) in omega (arith, h)

-- two columns with the same type and answer
column_same : (t : ℕ) (s : Bool) (b : ℕ) (answer : Bool) → column_of t s ≡ column_of b answer → (t ≡ b) × (s ≡ answer)
column_same t s b answer e = (
  sym (column_type t s) ∙ ap (λ (c : ℕ). c / 2) e ∙ column_type b answer,
  sym (column_answer t s) ∙ ap (λ (c : ℕ). eqb (c % 2) 1) e ∙ column_answer b answer,
)

-- an answer is kept in mind exactly if it is what is recalled
pub recalled_is : (memo : List ℕ) (a b : ℕ) (r : Option Bool) → MatchOption r ((keeps memo a b true ≡ false) × (keeps memo a b false ≡ false)) (λ answer. keeps memo a b answer ≡ true)
    → (answer : Bool) → option_eq beq r (Some answer) ≡ keeps memo a b answer
unfolding keeps
recalled_is memo a b None h true = sym h.0
recalled_is memo a b None h false = sym h.1
recalled_is memo a b (Some true) h true = sym h
recalled_is memo a b (Some true) h false =
    let d = and_true (is_marked memo a (column_of b true)) (not (is_marked memo a (column_of b false))) h in
    sym (not-true (is_marked memo a (column_of b false)) d.1)
recalled_is memo a b (Some false) h true = rw h (sym (and_false (is_marked memo a (column_of b true))))
recalled_is memo a b (Some false) h false = sym h

-- what the marks of a pair say, and that they say it of all pairs
module _ (page : List ℕ) where
  -- a mark of a pair in use
  abbrev At : List ℕ → ℕ → ℕ → Bool → Type 0
  At memo a b answer = (a < types_in page) × (b < types_in page) × Says page memo a b answer

  said_at : (memo : List ℕ) → Noted (Found page) memo → (a b : ℕ) (answer : Bool) → is_marked memo a (column_of b answer) ≡ true → At memo a b answer
  said_at memo n a b answer h = rw (column_type b answer, column_answer b answer) at (n.right a (column_of b answer) h)

  all_said : (memo : List ℕ) → ((a b : ℕ) (answer : Bool) → is_marked memo a (column_of b answer) ≡ true → At memo a b answer) → Noted (Found page) memo
  all_said memo f = record { right = λ a c h. f a (c / 2) (eqb (c % 2) 1) (rw (column_back c) h) }

  module _ (memo : List ℕ) (n : Noted (Found page) memo) (a b : ℕ) where
    -- what is recalled was found
    pub recalled : (answer r : Bool) → r ≡ keeps memo a b answer → r ≡ true → found page a b ≡ answer
    unfolding keeps
    recalled true r e t =
        let d = and_true (is_marked memo a (column_of b true)) (not (is_marked memo a (column_of b false))) (sym e ∙ t) in
        (said_at memo n a b true d.0).2 (not-true (is_marked memo a (column_of b false)) d.1)
    recalled false r e t = (said_at memo n a b false (sym e ∙ t)).2.0

    -- a pair of which both marks are set does not stand
    pub refuted_marks : is_marked memo a (column_of b false) ≡ true → is_marked memo a (column_of b true) ≡ true → known_matches page a b ≡ false
    refuted_marks h k = (said_at memo n a b false h).2.1 k

  -- one mark more of a pair
  module _ (memo : List ℕ) (n : Noted (Found page) memo) (a b : ℕ) (answer : Bool) where
    abbrev after : List ℕ
    after = marking memo a (column_of b answer)

    -- what is marked was marked now, or before
    more : (x t : ℕ) (s : Bool) → is_marked after x (column_of t s) ≡ true → ((x ≡ a) × (t ≡ b) × (s ≡ answer)) ⊎ (is_marked memo x (column_of t s) ≡ true)
    more x t s h = ⊎_elim (λ e. let d = column_same t s b answer e.1 in inl (e.0, d.0, d.1)) inr (marked_more memo a (column_of b answer) x (column_of t s) h)

    -- what is not marked was not
    less : (x c : ℕ) → is_marked after x c ≡ false → is_marked memo x c ≡ false
    less x c h = go (is_marked memo x c) refl
      where
        go : (r : Bool) → is_marked memo x c ≡ r → r ≡ false
        go true k = absurd (subst T (sym (marked_still memo a (column_of b answer) x c k) ∙ h) tt)
        go false k = refl

    -- a yes that was marked before still says so
    yes_still : (x t : ℕ) → is_marked memo x (column_of t true) ≡ true → At after x t true
    yes_still x t d = let o = said_at memo n x t true d in (o.0, o.1, λ k. o.2 (less x (column_of t false) k))

    module _ (u : a < types_in page) (v : b < types_in page) (e : answer ≡ found page a b) where
      no_new : (x t : ℕ) → x ≡ a → t ≡ b → false ≡ answer → is_marked after x (column_of t true) ≡ true → known_matches page x t ≡ false
      no_new x t p q w k = ⊎_elim (λ d. absurd (subst T (d.2 ∙ sym w) tt)) before (more x t true k)
        where
          before : is_marked memo x (column_of t true) ≡ true → known_matches page x t ≡ false
          before y = go (is_marked memo x (column_of t false)) refl
            where
              go : (r : Bool) → is_marked memo x (column_of t false) ≡ r → known_matches page x t ≡ false
              go true h = (said_at memo n x t false h).2.1 y
              go false h =
                  let is = (said_at memo n x t true y).2 h in
                  let no : found page x t ≡ false = rw (p, q) (sym (w ∙ e)) in
                  absurd (subst T (sym is ∙ no) tt)

      no_still : (x t : ℕ) → is_marked memo x (column_of t false) ≡ true → At after x t false
      no_still x t d =
          let o = said_at memo n x t false d in
          let contrary : (x ≡ a) × (t ≡ b) × (true ≡ answer) → known_matches page x t ≡ false = λ z.
          let is : found page x t ≡ true = rw (z.0, z.1) (sym (z.2 ∙ e)) in absurd (subst T (sym is ∙ o.2.0) tt) in
          (o.0, o.1, (o.2.0, λ k. ⊎_elim contrary o.2.1 (more x t true k)))

      -- one finding more
      pub noted_found : Noted (Found page) (marking memo a (column_of b answer))
      noted_found = all_said after say
        where
          say : (x t : ℕ) (s : Bool) → is_marked after x (column_of t s) ≡ true → At after x t s
          say x t true h = ⊎_elim (λ d. (rw d.0 u, rw d.1 v, λ k. rw (d.0, d.1) (sym (d.2 ∙ e)))) (yes_still x t) (more x t true h)
          say x t false h =
              ⊎_elim (λ d. (rw d.0 u, rw d.1 v, (rw (d.0, d.1) (sym (d.2 ∙ e)), no_new x t d.0 d.1 d.2))) (no_still x t) (more x t false h)

  -- the other mark of a pair that is found not to stand
  module _ (memo : List ℕ) (n : Noted (Found page) memo) (a b : ℕ) (m : is_marked memo a (column_of b false) ≡ true) (h : known_matches page a b ≡ false) where
    pub noted_both : Noted (Found page) (marking memo a (column_of b true))
    noted_both = all_said (after memo n a b true) say
      where
        say : (x t : ℕ) (s : Bool) → is_marked (after memo n a b true) x (column_of t s) ≡ true → At (after memo n a b true) x t s
        say x t true k =
            ⊎_elim (λ d. let o = said_at memo n a b false m in
            (rw d.0 o.0, rw d.1 o.1, λ l. let no : is_marked (after memo n a b true) a (column_of b false) ≡ false = rw (d.0, d.1) at l in absurd (subst T (sym (marked_still memo a (column_of b true) a (column_of b false) m) ∙ no) tt)))
            (yes_still memo n a b true x t) (more memo n a b true x t true k)
        say x t false k = ⊎_elim (λ d. absurd (subst T (sym d.2) tt)) old (more memo n a b true x t false k)
          where
            old : is_marked memo x (column_of t false) ≡ true → At (after memo n a b true) x t false
            old d =
                let o = said_at memo n x t false d in
                (o.0, o.1, (o.2.0, λ y. ⊎_elim (λ z. rw (z.0, z.1) h) o.2.1 (more memo n a b true x t true y)))

  -- that a union does not stand for another
  pub noted_refuting : (memo : List ℕ) → Noted (Found page) memo → (a b : ℕ) → a < types_in page → b < types_in page → false ≡ found page a b → known_matches page a b ≡ false
      → Noted (Found page) (refuting memo a b)
  unfolding refuting
  noted_refuting memo n a b u v e h = go (is_marked (marking memo a (column_of b false)) a (column_of b false)) refl
    where
      first : Noted (Found page) (marking memo a (column_of b false))
      first = noted_found memo n a b false u v e

      go : (r : Bool) → is_marked (marking memo a (column_of b false)) a (column_of b false) ≡ r
          → Noted (Found page) (cond r (marking (marking memo a (column_of b false)) a (column_of b true)) (marking memo a (column_of b false)))
      go true m = noted_both (marking memo a (column_of b false)) first a b m h
      go false m = first

-- what a mark says, and what all marks say, has one proof at most
says_by : (page memo : List ℕ) (a b : ℕ) (answer : Bool) → ∥ Says page memo a b answer ∥₁ → Says page memo a b answer
says_by page memo a b true t = λ h. ∥∥₁_elim t (Bool-set _ _) (λ s. s h)
says_by page memo a b false t = (∥∥₁_elim t (Bool-set _ _) (λ s. s.0), λ h. ∥∥₁_elim t (Bool-set _ _) (λ s. s.1 h))

pub noted_by : (page memo : List ℕ) → ∥ Noted (Found page) memo ∥₁ → Noted (Found page) memo
noted_by page memo t = record {
  right = λ a c h. (
    ∥∥₁_elim t le_prop (λ n. (n.right a c h).0),
    ∥∥₁_elim t le_prop (λ n. (n.right a c h).1),
    says_by page memo a (c / 2) (eqb (c % 2) 1) (∥∥₁_elim t ∥∥₁_prop (λ n. ∣ (n.right a c h).2 ∣₁)),
  );
}

-- ---- what is found, by the kinds

module _ (page : List ℕ) (a b : ℕ) where
  pub found_sequences : (both is_array page a b || both is_tuple page a b) ≡ true → found page a b ≡ null_array_elision page a b
  unfolding found
  found_sequences h = rw h refl

  -- two maps are no arrays and no tuples
  maps_alone : is_map (kind_of page b) ≡ true → (both is_array page a b || both is_tuple page a b) ≡ false
  maps_alone h =
      rw (within_below 25 26 19 20 (kind_of page b) (omega arith) h, within_above 25 26 27 28 (kind_of page b) (omega arith) h, and_false (is_array (kind_of page a)), and_false (is_tuple (kind_of page a))) refl

  pub found_maps : both is_map page a b ≡ true → found page a b ≡ null_map_elision page a b
  unfolding found
  found_maps h = rw (maps_alone (and_true (is_map (kind_of page a)) (is_map (kind_of page b)) h).1, h) refl

  -- nor is a union
  pub union_alone : is_union (kind_of page b) ≡ true → ((both is_array page a b || both is_tuple page a b) ≡ false) × (both is_map page a b ≡ false)
  union_alone h = (
    rw (within_below 29 30 19 20 (kind_of page b) (omega arith) h, within_below 29 30 27 28 (kind_of page b) (omega arith) h, and_false (is_array (kind_of page a)), and_false (is_tuple (kind_of page a))) refl,
    rw (within_below 29 30 25 26 (kind_of page b) (omega arith) h) (and_false (is_map (kind_of page a))),
  )

  pub found_union : is_union (kind_of page b) ≡ true → found page a b ≡ has_partner page a b
  unfolding found
  found_union h = let d = union_alone h in rw (d.0, d.1, h) refl

  pub found_flat : (both is_array page a b || both is_tuple page a b) ≡ false → both is_map page a b ≡ false → is_union (kind_of page b) ≡ false
      → found page a b ≡ flat_matches page a b
  unfolding found
  found_flat h k u = rw (h, k, u) refl
