-- `matches` and `any_matches`: the equation of matching, and one law for each return. Assumes nothing.
use mathlib.Core.Path.{◌≡◌, refl, sym, ◌∙◌, ap, ap₂, subst}
use mathlib.Core.Bool.{Bool, true, false, not, ◌&&◌, ◌||◌, cond}
use mathlib.Core.List.{List}
use mathlib.Core.Logic.{◌⊎◌, inl, inr, ⊎_elim}
use Prim.Native.Nat.{ℕ, zero, suc, ◌+◌, ◌*◌, ◌%◌, ◌≤◌, ◌<◌}
use native.Mathlib.Nat.{not-suc-le-zero}
use native.Mathlib.Omega.{arith}
use lib.Dec.{T, eqb, leb}
use borrow.Author.Tests.{ltb-true, lt-ltb, leb-true, le-leb, eqb-true, eq-eqb, ne_eqb, not-true}
use Rattle.pages.specs.Quant.{any_to, all_to, first_to}
use Rattle.pages.proofs.Quant.{and_true, any_cong, all_cong, any_found, all_failed, all_at, all_each, first_below, first_found}
use Rattle.pages.specs.Bytes.{within}
use Rattle.pages.proofs.Bytes.{and_false}
use Rattle.kinds.specs.Kinds.{null, generic, handle, handle_infer, is_array, is_tuple, is_map, is_set, is_record, is_enum, is_union, const_matches}
use Rattle.types.specs.Store.{Formed}
use Rattle.types.specs.Types.{types_in, kind_of, arity, child_of}
use Rattle.types.specs.Recur.{below, cov}
use Rattle.types.proofs.Recur.{below_lt, cov_eq}
use Rattle.types.proofs.Types.{kind_fixed, child_lower}
use Rattle.matching.specs.Matching.{both, is_kind, null_array_elision, null_map_elision, record_matches, enum_matches, set_matches, handle_matches, flat_matches, wild, plain_matches, any_rule, known_matches, any_matches, known_for_function, function_matches, matches, in_use}
use Rattle.marks.specs.Marks.{is_marked, marking, Noted}
use Rattle.matching.specs.Memo.{has_partner, found, is_free, column_of, keeps, Found, is_refuted, members_of, member_of}
use Rattle.matching.proofs.Parts.{within_below, within_above}
use Rattle.matching.proofs.Memo.{recalled, noted_both, refuted_marks, union_alone, found_sequences, found_maps, found_union, found_flat}
use Rattle.matching.proofs.Elision.{array_unlike, map_unlike}
use Rattle.matching.specs.declared.Checked.{Checked}
use Rattle.matching.specs.declared.Checked.TheVariants.{Known, Unknown, Function}
pub use Rattle.matching.proofs.Elision.{array_eq, map_eq}

-- one of two that are not both so
first_false : (x y : Bool) → (x && y) ≡ false → y ≡ true → x ≡ false
first_false true true h k = absurd (subst T h tt)
first_false true false h k = absurd (subst T (sym k) tt)
first_false false y h k = refl

-- ---- the rules that go by a name or an element

-- `record_matches`, `enum_matches`, `set_matches` and `handle_matches`
abbrev named : List ℕ → ℕ → ℕ → Bool
named page a b = record_matches page a b || (enum_matches page a b || (set_matches page a b || handle_matches page a b))

-- none of them speaks of an expected array, map, tuple or union
named_none : (page : List ℕ) (a b x y : ℕ) → handle_infer < x → y < 32 → is_set (kind_of page b) ≡ false → within x y (kind_of page b) ≡ true → named page a b ≡ false
unfolding record_matches enum_matches set_matches handle_matches
named_none page a b x y l m s h =
    let d = and_true (leb x (kind_of page b)) (leb (kind_of page b) y) h in
    let p = leb-true x (kind_of page b) d.0 in
    let q = leb-true (kind_of page b) y d.1 in
    rw (
      within_above x y 32 33 (kind_of page b) (omega arith) h,
      within_above x y 34 35 (kind_of page b) (omega arith) h,
      s,
      ne_eqb (kind_of page b) handle (omega arith),
      ne_eqb (kind_of page b) handle_infer (omega arith),
      and_false (is_record (kind_of page a)),
      and_false (is_enum (kind_of page a)),
      and_false (is_set (kind_of page a)),
      and_false (is_kind handle_infer page a),
    ) (go (is_kind handle page a))
  where
    go : (r : Bool) → cond r false false ≡ false
    go true = refl
    go false = refl

-- two arrays or two tuples are no maps, and none of them speaks of these
sequence_alone : (page : List ℕ) (a b : ℕ) → (both is_array page a b || both is_tuple page a b) ≡ true → (both is_map page a b ≡ false) × (named page a b ≡ false)
sequence_alone page a b h = go (both is_array page a b) refl h
  where
    go : (r : Bool) → both is_array page a b ≡ r → (r || both is_tuple page a b) ≡ true → (both is_map page a b ≡ false) × (named page a b ≡ false)
    go true e t =
        let k = (and_true (is_array (kind_of page a)) (is_array (kind_of page b)) e).1 in (
          rw (within_above 19 20 25 26 (kind_of page b) (omega arith) k) (and_false (is_map (kind_of page a))),
          named_none page a b 19 20 (omega arith) (omega arith) (within_above 19 20 21 22 (kind_of page b) (omega arith) k) k,
        )
    go false e t =
        let k = (and_true (is_tuple (kind_of page a)) (is_tuple (kind_of page b)) t).1 in (
          rw (within_below 27 28 25 26 (kind_of page b) (omega arith) k) (and_false (is_map (kind_of page a))),
          named_none page a b 27 28 (omega arith) (omega arith) (within_below 27 28 21 22 (kind_of page b) (omega arith) k) k,
        )

-- ---- `any_matches`

module _ (page : List ℕ) (a b : ℕ) where
  pub any_no : is_union (kind_of page b) ≡ false → false ≡ any_matches page a b
  unfolding any_matches any_rule
  any_no h = rw h

  module _ (ub : is_union (kind_of page b) ≡ true) where
    -- what is no union stands for one if it has a partner in it
    any_alone : is_union (kind_of page a) ≡ false → has_partner page a b ≡ any_matches page a b
    unfolding any_matches any_rule has_partner
    any_alone ua = rw (ub, ua)

    -- every member has a partner
    any_members : all_to (members_of page a) (λ i. has_partner page (member_of page a i) b) ≡ any_matches page a b
    unfolding any_matches any_rule has_partner members_of member_of all_to
    any_members = go (is_union (kind_of page a)) refl
      where
        go : (r : Bool) → is_union (kind_of page a) ≡ r → all_to (cond r (arity page a) 1) (λ i. has_partner page (cond r (child_of page a i) a) b) ≡ any_matches page a b
        go true ua = rw (ub, ua)
        go false ua = any_alone ua

    module _ (n : ℕ) (e : n ≡ members_of page a) where
      pub all_met : (i : ℕ) → i ≡ n → all_to i (λ i. has_partner page (member_of page a i) b) ≡ true → true ≡ any_matches page a b
      all_met i q h = sym (rw (q, e) at h) ∙ any_members

      pub one_alone : (i : ℕ) → i < n → has_partner page (member_of page a i) b ≡ false → false ≡ any_matches page a b
      one_alone i l h =
          let k : i < members_of page a = omega (arith, e) in
          sym (all_failed (λ i. has_partner page (member_of page a i) b) (members_of page a) i k h) ∙ any_members

-- ---- the equation of matching

module _ (page : List ℕ) (f : Formed page) (b : ℕ) (v : b < types_in page) (a : ℕ) where
  -- the answers for the expected members are those below, the expected type first
  any_lower : (rule : ℕ → ℕ → Bool) → any_rule page (λ m e. below (λ x. false) b rule e m) a b ≡ any_rule page (λ m e. rule e m) a b
  unfolding any_rule
  any_lower rule =
      ap (λ (r : Bool). is_union (kind_of page b) && r)
      (ap₂ (λ (r s : Bool). cond (is_union (kind_of page a)) r s)
      (all_cong _ _ (arity page a) (λ i l. any_cong _ _ (arity page b) (lower (child_of page a i))))
      (any_cong _ _ (arity page b) (lower a)))
    where
      lower : (m j : ℕ) → j < arity page b → below (λ x. false) b rule (child_of page b j) m ≡ rule (child_of page b j) m
      lower m j l = ap (λ (g : ℕ → Bool). g m) (below_lt (λ x. false) b rule (child_of page b j) (child_lower page f b v j l))

  pub known_eq : known_matches page a b ≡ (plain_matches page a b || any_matches page a b)
  unfolding known_matches any_matches
  known_eq =
      let step : ℕ → (ℕ → ℕ → Bool) → ℕ → Bool = λ y rule x. plain_matches page x y || any_rule page (λ m e. rule e m) x y in
      ap (λ (g : ℕ → Bool). g a) (cov_eq (λ x. false) step b)
      ∙ ap (λ (r : Bool). plain_matches page a b || r) (any_lower (cov (λ x. false) step))

  -- what is free of the children stands
  pub known_free : is_free page a b ≡ true → known_matches page a b ≡ true
  unfolding is_free plain_matches flat_matches
  known_free h = known_eq ∙ rw (go (eqb a b) (wild page a b) (null_array_elision page a b) (null_map_elision page a b) (const_matches (kind_of page a) (kind_of page b)) (named page a b) h) refl
    where
      go : (e w x y c r : Bool) → (e || (w || c)) ≡ true → (w || (e || (x || (y || (c || r))))) ≡ true
      go e true x y c r t = refl
      go true false x y c r t = refl
      go false false true y c r t = refl
      go false false false true c r t = refl
      go false false false false true r t = refl
      go false false false false false r t = absurd (subst T (sym t) tt)

  -- what is not, by elision, by the name or the element, or as a union
  known_bound : is_free page a b ≡ false
      → known_matches page a b ≡ ((null_array_elision page a b || (null_map_elision page a b || named page a b)) || any_matches page a b)
  unfolding is_free plain_matches flat_matches
  known_bound h = known_eq ∙ ap (λ (r : Bool). r || any_matches page a b) (go (eqb a b) (wild page a b) (null_array_elision page a b) (null_map_elision page a b) (const_matches (kind_of page a) (kind_of page b)) (named page a b) h)
    where
      go : (e w x y c r : Bool) → (e || (w || c)) ≡ false → (w || (e || (x || (y || (c || r))))) ≡ (x || (y || r))
      go true w x y c r t = absurd (subst T t tt)
      go false true x y c r t = absurd (subst T t tt)
      go false false x y true r t = absurd (subst T t tt)
      go false false x y false r t = refl

  module _ (u : a < types_in page) (h : is_free page a b ≡ false) where
    -- where a union is expected, as a union
    pub known_any : is_union (kind_of page b) ≡ true → known_matches page a b ≡ any_matches page a b
    known_any k =
        let d = union_alone page a b k in
        let r = named_none page a b 29 30 (omega arith) (omega arith) (within_below 29 30 21 22 (kind_of page b) (omega arith) k) k in
        known_bound h ∙ rw (← array_unlike page f a u b d.0, ← map_unlike page f a u b d.1, r) refl

    -- where none is, as it is found
    pub known_plain : is_union (kind_of page b) ≡ false → known_matches page a b ≡ found page a b
    unfolding is_free flat_matches
    known_plain k = known_bound h ∙ rw (← any_no page a b k) (go (both is_array page a b || both is_tuple page a b) (both is_map page a b) refl refl)
      where
        -- nothing but the one rule
        first : (x : Bool) → ((x || (false || false)) || false) ≡ x
        first true = refl
        first false = refl

        second : (x : Bool) → ((false || (x || false)) || false) ≡ x
        second true = refl
        second false = refl

        third : (e w c x : Bool) → (e || (w || c)) ≡ false → ((false || (false || x)) || false) ≡ (c || x)
        third true w c x t = absurd (subst T t tt)
        third false true c x t = absurd (subst T t tt)
        third false false true x t = absurd (subst T t tt)
        third false false false true t = refl
        third false false false false t = refl

        go : (x y : Bool) → (both is_array page a b || both is_tuple page a b) ≡ x → both is_map page a b ≡ y
            → ((null_array_elision page a b || (null_map_elision page a b || named page a b)) || false) ≡ found page a b
        go true y p q =
            let d = sequence_alone page a b p in
            rw (found_sequences page a b p, ← map_unlike page f a u b d.0, d.1) (first (null_array_elision page a b))
        go false true p q =
            let m = (and_true (is_map (kind_of page a)) (is_map (kind_of page b)) q).1 in
            let n = named_none page a b 25 26 (omega arith) (omega arith) (within_below 25 26 21 22 (kind_of page b) (omega arith) m) m in
            rw (found_maps page a b q, ← array_unlike page f a u b p, n) (second (null_map_elision page a b))
        go false false p q =
            rw (found_flat page a b p q k, ← array_unlike page f a u b p, ← map_unlike page f a u b q)
            (third (eqb a b) (wild page a b) (const_matches (kind_of page a) (kind_of page b)) (named page a b) h)

    -- what is found not to stand, not both of them unions, does not
    pub known_refuted : both is_union page a b ≡ false → found page a b ≡ false → known_matches page a b ≡ false
    known_refuted k e = go (is_union (kind_of page b)) refl
      where
        go : (r : Bool) → is_union (kind_of page b) ≡ r → known_matches page a b ≡ false
        go false t = known_plain t ∙ e
        go true t =
            let s : is_union (kind_of page a) ≡ false = first_false (is_union (kind_of page a)) (is_union (kind_of page b)) k t in
            known_any t ∙ sym (any_alone page a b t s) ∙ sym (found_union page a b t) ∙ e

-- a type stands for itself
pub known_same : (page : List ℕ) → Formed page → (a : ℕ) → a < types_in page → known_matches page a a ≡ true
unfolding is_free
known_same page f a u = known_free page f a u a (rw (eq-eqb a a refl) refl)

-- does type a stand for member j of type b
abbrev pub stands : List ℕ → ℕ → ℕ → ℕ → Bool
stands page a b j = known_matches page a (child_of page b j)

-- a partner was met at member j, or at none
pub partner_met : (page : List ℕ) (m b j : ℕ) → j < arity page b → stands page m b j ≡ true → has_partner page m b ≡ true
unfolding has_partner
partner_met page m b j l h = any_found (stands page m b) (arity page b) j l h

pub partner_missed : (page : List ℕ) (m b j : ℕ) → j ≡ arity page b → any_to j (stands page m b) ≡ false → has_partner page m b ≡ false
unfolding has_partner
partner_missed page m b j e h = rw e at h

-- what is marked as refuted does not stand
pub refuted_so : (page : List ℕ) → Formed page → (memo : List ℕ) → Noted (Found page) memo → (a : ℕ) → a < types_in page → (b : ℕ) → b < types_in page
    → is_refuted page memo a b ≡ true → known_matches page a b ≡ false
unfolding is_refuted keeps
refuted_so page f memo n a u b v h =
    let d = and_true (is_marked memo a (column_of b false)) (is_marked memo a (column_of b true) || (not (is_free page a b) && not (both is_union page a b))) h in
    go (is_marked memo a (column_of b true)) refl d.0 d.1
  where
    go : (r : Bool) → is_marked memo a (column_of b true) ≡ r → is_marked memo a (column_of b false) ≡ true
        → (r || (not (is_free page a b) && not (both is_union page a b))) ≡ true → known_matches page a b ≡ false
    go true y m t = refuted_marks page memo n a b m y
    go false y m t =
        let e = and_true (not (is_free page a b)) (not (both is_union page a b)) t in
        known_refuted page f b v a u (not-true (is_free page a b) e.0) (not-true (both is_union page a b) e.1) (recalled page memo n a b false true (sym m) refl)

-- where it follows from a no and from the kinds of the two, the other mark is right as well
pub noted_refuted : (page : List ℕ) → Formed page → (memo : List ℕ) → Noted (Found page) memo → (a : ℕ) → a < types_in page → (b : ℕ) → b < types_in page
    → is_marked memo a (column_of b false) ≡ true → is_free page a b ≡ false → both is_union page a b ≡ false → Noted (Found page) (marking memo a (column_of b true))
unfolding keeps
noted_refuted page f memo n a u b v m free k =
    noted_both page memo n a b m (known_refuted page f b v a u free k (recalled page memo n a b false true (sym m) refl))

-- ---- a member of a union stands for it, and so does what stands for a member

-- no const rule speaks of an actual union
union_not_const : (k m : ℕ) → is_union k ≡ true → const_matches k m ≡ false
unfolding const_matches
union_not_const k m h =
    rw (within_below 29 30 1 15 k (omega arith) h, within_below 29 30 19 27 k (omega arith) h, and_false (eqb (k % 2) 1)) (go (eqb k (m + 1)) refl)
  where
    go : (r : Bool) → eqb k (m + 1) ≡ r → (((eqb (m % 2) 1 && (within 1 15 m || within 19 27 m)) && r) || false) ≡ false
    go false e = rw (and_false (eqb (m % 2) 1 && (within 1 15 m || within 19 27 m))) refl
    go true e =
        let p = eqb-true k (m + 1) e in
        let d = and_true (leb 29 k) (leb k 30) h in
        let l = leb-true 29 k d.0 in
        let g = leb-true k 30 d.1 in
        let w : within 28 29 m ≡ true = rw (le-leb 28 m (omega arith), le-leb m 29 (omega arith)) refl in
        rw (within_below 28 29 1 15 m (omega arith) w, within_below 28 29 19 27 m (omega arith) w, and_false (eqb (m % 2) 1)) refl

-- where none is expected, none is found for it
union_found_none : (page : List ℕ) (a b : ℕ) → is_union (kind_of page a) ≡ true → is_union (kind_of page b) ≡ false → found page a b ≡ false
unfolding found flat_matches record_matches enum_matches set_matches handle_matches
union_found_none page a b h k =
    let d = and_true (leb 29 (kind_of page a)) (leb (kind_of page a) 30) h in
    let l = leb-true 29 (kind_of page a) d.0 in
    let g = leb-true (kind_of page a) 30 d.1 in
    rw (
      within_below 29 30 19 20 (kind_of page a) (omega arith) h,
      within_below 29 30 27 28 (kind_of page a) (omega arith) h,
      within_below 29 30 25 26 (kind_of page a) (omega arith) h,
      k,
      union_not_const (kind_of page a) (kind_of page b) h,
      within_above 29 30 32 33 (kind_of page a) (omega arith) h,
      within_above 29 30 34 35 (kind_of page a) (omega arith) h,
      within_below 29 30 21 22 (kind_of page a) (omega arith) h,
      ne_eqb (kind_of page a) handle (omega arith),
      ne_eqb (kind_of page a) handle_infer (omega arith),
    ) refl

-- a union stands freely only for itself and for a Generic
union_free : (page : List ℕ) (a b : ℕ) → is_union (kind_of page a) ≡ true → is_free page a b ≡ true → (a ≡ b) ⊎ (is_kind generic page b ≡ true)
unfolding is_free wild
union_free page a b h t = go (eqb a b) refl (is_kind generic page b) refl t
  where
    high : 29 ≤ kind_of page a
    high = leb-true 29 (kind_of page a) (and_true (leb 29 (kind_of page a)) (leb (kind_of page a) 30) h).0

    few : kind_of page a ≤ 30
    few = leb-true (kind_of page a) 30 (and_true (leb 29 (kind_of page a)) (leb (kind_of page a) 30) h).1

    not_null : a ≡ null → ⊥
    not_null x = absurd (omega (arith, x, high, kind_fixed page a (omega (arith, x))))

    go : (r : Bool) → eqb a b ≡ r → (s : Bool) → is_kind generic page b ≡ s
        → (r || ((eqb a null || (s || is_kind generic page a)) || const_matches (kind_of page a) (kind_of page b))) ≡ true → (a ≡ b) ⊎ (s ≡ true)
    go true e s w z = inl (eqb-true a b e)
    go false e true w z = inr refl
    go false e false w z =
        let none = rw (ne_eqb a null not_null, ne_eqb (kind_of page a) generic (omega (arith, few)), union_not_const (kind_of page a) (kind_of page b) h) at z in
        absurd (subst T (sym none) tt)

-- a Generic takes everything
generic_free : (page : List ℕ) (a b : ℕ) → is_kind generic page b ≡ true → is_free page a b ≡ true
unfolding is_free wild
generic_free page a b h = rw h (go (eqb a b) (eqb a null))
  where
    go : (r s : Bool) → (r || ((s || true) || const_matches (kind_of page a) (kind_of page b))) ≡ true
    go true s = refl
    go false true = refl
    go false false = refl

-- the members of a union one by one
module _ (page : List ℕ) (a b : ℕ) (ua : is_union (kind_of page a) ≡ true) where
  member_partner : all_to (members_of page a) (λ k. has_partner page (member_of page a k) b) ≡ true → (i : ℕ) → i < arity page a → has_partner page (child_of page a i) b ≡ true
  unfolding members_of member_of
  member_partner h i l =
      let k : all_to (arity page a) (λ k. has_partner page (child_of page a k) b) ≡ true = rw ua at h in
      all_at (λ k. has_partner page (child_of page a k) b) (arity page a) i k l

  all_partners : ((i : ℕ) → i < arity page a → has_partner page (child_of page a i) b ≡ true) → all_to (members_of page a) (λ k. has_partner page (member_of page a k) b) ≡ true
  unfolding members_of member_of
  all_partners h = rw ua (all_each (arity page a) (λ k. has_partner page (child_of page a k) b) h)

module _ (page : List ℕ) (f : Formed page) where
  module _ (a : ℕ) (u : a < types_in page)
      (ih : (c : ℕ) → c < a → (y : ℕ) → y < types_in page → is_union (kind_of page y) ≡ true → has_partner page c y ≡ true → known_matches page c y ≡ true) where
    -- what a union stands for, its members stand for
    module _ (ua : is_union (kind_of page a) ≡ true) (i : ℕ) (l : i < arity page a) where
      low : child_of page a i < a
      low = child_lower page f a u i l

      own : known_matches page (child_of page a i) a ≡ true
      own = ih (child_of page a i) low a u ua (partner_met page (child_of page a i) a i l (known_same page f (child_of page a i) (omega (arith, low))))

      member_stands : (e : ℕ) → e < types_in page → known_matches page a e ≡ true → (r s : Bool) → is_free page a e ≡ r → is_union (kind_of page e) ≡ s
          → known_matches page (child_of page a i) e ≡ true
      member_stands e w met true s p q =
          ⊎_elim (λ x. rw (← x) own) (λ x. known_free page f e w (child_of page a i) (generic_free page (child_of page a i) e x)) (union_free page a e ua p)
      member_stands e w met false true p q =
          let all = any_members page a e q ∙ sym (known_any page f e w a u p q) ∙ met in
          ih (child_of page a i) low e w q (member_partner page a e ua all i l)
      member_stands e w met false false p q = absurd (subst T (sym met ∙ known_plain page f e w a u p q ∙ union_found_none page a e ua q) tt)

    partner_step : (b : ℕ) → b < types_in page → is_union (kind_of page b) ≡ true → has_partner page a b ≡ true → known_matches page a b ≡ true
    unfolding has_partner
    partner_step b v ub h = free (is_free page a b) refl
      where
        j : ℕ
        j = first_to (arity page b) (stands page a b)

        j_low : j < arity page b
        j_low = first_below (stands page a b) (arity page b) h

        met : known_matches page a (child_of page b j) ≡ true
        met = (first_found (stands page a b) (arity page b) j_low).1

        each : is_union (kind_of page a) ≡ true → (i : ℕ) → i < arity page a → has_partner page (child_of page a i) b ≡ true
        each ua i l =
            partner_met page (child_of page a i) b j j_low
            (member_stands ua i l (child_of page b j) (omega (arith, child_lower page f b v j j_low)) met (is_free page a (child_of page b j)) (is_union (kind_of page (child_of page b j))) refl refl)

        any : (r : Bool) → is_union (kind_of page a) ≡ r → any_matches page a b ≡ true
        any true ua = sym (any_members page a b ub) ∙ all_partners page a b ua (each ua)
        any false ua = sym (any_alone page a b ub ua) ∙ h

        free : (r : Bool) → is_free page a b ≡ r → known_matches page a b ≡ true
        free true p = known_free page f b v a p
        free false p = known_any page f b v a u p ub ∙ any (is_union (kind_of page a)) refl

  partner_below : (n a : ℕ) → a < n → a < types_in page → (b : ℕ) → b < types_in page → is_union (kind_of page b) ≡ true → has_partner page a b ≡ true
      → known_matches page a b ≡ true
  partner_below zero a l u b v ub h = absurd (not-suc-le-zero l)
  partner_below (suc n) a l u b v ub h = partner_step a u (λ c k y w uy z. partner_below n c (omega arith) (omega arith) y w uy z) b v ub h

  -- what stands for a member of a union stands for the union; so what does not has none that it stands for
  pub none_partner : (a b : ℕ) → a < types_in page → b < types_in page → is_union (kind_of page b) ≡ true → known_matches page a b ≡ false → false ≡ found page a b
  none_partner a b u v ub h = go (has_partner page a b) refl ∙ sym (found_union page a b ub)
    where
      go : (r : Bool) → has_partner page a b ≡ r → false ≡ has_partner page a b
      go false e = sym e
      go true e = absurd (subst T (sym (partner_below (suc a) a (omega arith) u b v ub e) ∙ h) tt)

-- what a call on two Known types told
pub stands_so : (page : List ℕ) (x b j e : ℕ) (r v : Bool) → e ≡ child_of page b j → r ≡ matches page (Known x) (Known e) → r ≡ v → stands page x b j ≡ v
unfolding matches
stands_so page x b j e r v c h k = rw (← c) (sym h ∙ k)

-- ---- `matches`

pub known_in_use : (page : List ℕ) (t : ℕ) → in_use page (Known t) ≡ true → t < types_in page
unfolding in_use
known_in_use page t h = ltb-true t (types_in page) h

pub in_use_known : (page : List ℕ) (t : ℕ) → t < types_in page → in_use page (Known t) ≡ true
unfolding in_use
in_use_known page t h = lt-ltb t (types_in page) h

module _ (page : List ℕ) where
  pub to_unknown : (a : Checked) → true ≡ matches page a Unknown
  unfolding matches function_matches
  to_unknown (Known a) = refl
  to_unknown Unknown = refl
  to_unknown (Function f) = refl

  -- what is neither a Function nor Known is Unknown
  pub from_unknown : (a e : Checked) → ((f : ℕ) → a ≡ Function f → ⊥) → ((k : ℕ) → a ≡ Known k → ⊥) → true ≡ matches page a e
  unfolding matches
  from_unknown (Known a) e h k = absurd (k a refl)
  from_unknown Unknown e h k = refl
  from_unknown (Function f) e h k = absurd (h f refl)

  -- what is neither Unknown nor Known is a Function
  pub to_function : (a : ℕ) (e : Checked) → (e ≡ Unknown → ⊥) → ((k : ℕ) → e ≡ Known k → ⊥) → known_for_function page a ≡ matches page (Known a) e
  unfolding matches
  to_function a (Known b) h k = absurd (k b refl)
  to_function a Unknown h k = absurd (h refl)
  to_function a (Function g) h k = refl

  pub from_function : (f : ℕ) (e : Checked) → function_matches page f e ≡ matches page (Function f) e
  unfolding matches
  from_function f e = refl

  pub to_known : (a b : ℕ) → known_matches page a b ≡ matches page (Known a) (Known b)
  unfolding matches
  to_known a b = refl

-- what falls from call to call: twice the expected type's number, and one in `matches`
abbrev pub weight : Checked → ℕ
weight (Known b) = 2 * b + 1
weight Unknown = 0
weight (Function g) = 0
