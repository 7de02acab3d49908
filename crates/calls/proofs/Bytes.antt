-- Units that are read from bytes: where the bytes can be read, the calls on values judge them alike; where they cannot, which refusal it
-- is. Assumes nothing.
use Rattle.refusals.specs.declared.Refusal.{Refusal}
use Rattle.units.specs.declared.Unit.{Unit}
use Rattle.std.proofs.Common.{Err, Some, None, Ok, Result, Option}
use mathlib.Core.Path.{◌≡◌, refl, sym, ◌∙◌, ap}
use mathlib.Core.Bool.{Bool, true, false, ◌&&◌, ◌||◌, not, cond}
use mathlib.Core.List.{List, [], ◌∷◌}
use Prim.Native.Nat.{ℕ, zero, suc, ◌+◌, ◌≤◌}
use native.Mathlib.Omega.{arith}
use lib.Dec.{eqb, leb}
use lib.ListN.{length, get_or}
use borrow.Author.Tests.{leb-true, ne_eqb, not-false}
use Rattle.refusals.specs.Lowest.{Condition, ◌when◌, lowest, unless_refused, guarded, answer_of}
use Rattle.refusals.specs.declared.Refusal.TheVariants.{Undefined, Broken, Unused, BadUnit}
use Rattle.refusals.specs.Numbers.{Verdict}
use Rattle.refusals.proofs.Lowest.{first_holds, answer_of_ok, answer_of_err, passed_parts}
use Rattle.pages.specs.Bytes.{count_of}
use Rattle.pages.proofs.Quant.{and_true}
use Rattle.pages.proofs.Bytes.{and_false}
use Rattle.names.specs.Table.{names_max}
use Rattle.names.specs.Table as names
use Rattle.names.specs.Calls.{lent_broken, used_of}
use Rattle.types.specs.Calls.{store_broken}
use Rattle.types.specs.Calls as store
use Rattle.units.specs.Unit.{places_max, Term, formed, in_use}
use Rattle.units.specs.Calls.{terms_of, present, unit_of, form_verdict, product_answer, exponent_answer, unitless_answer}
use Rattle.units.proofs.Calls as units
use Rattle.std.specs.Option.{ok_or, option_zip}
use Rattle.std.specs.Result.{result_ok}
use lib.IntN.{ℤ}
use Rattle.units.proofs.Order.{or_both}
use Rattle.units.proofs.Held.{terms_unit}
use Rattle.units.proofs.Used.{present_all}
use Rattle.pairs.specs.Calls.{table_broken}
use Rattle.pairs.specs.Calls as tables
use Rattle.pairs.proofs.Calls.{unbroken, opened_ok, opened_err}
use Rattle.types.proofs.Calls as stores
use Rattle.sums.specs.Calls.{roots_in, or_empty, units_verdict, sums_answer, convert_answer}
use Rattle.text.specs.Calls.{text_verdict, text_answer}
use Rattle.values.specs.Value.{none_count, term_bytes, terms_at, is_none, is_some, readable, value_verdict, unit_in, symbols_used, value_in}
use Rattle.values.proofs.Used.{used_some, used_none}
use Rattle.operators.specs.Operators.{is_operator}
use Rattle.unary.specs.Unary.{check_unary}
use Rattle.indexing.specs.Indexing.{check_index}
use Rattle.answers.specs.Calls.{operand_conditions, concluded_by, store_after, binary_checked, binary_answer, unary_checked, unary_answer, unary_page, keyed, index_answer, index_page}
use Rattle.calls.specs.Types.{checked_of}
use Rattle.calls.specs.Codes.{broken_unit, or_broken, unit_or_broken, product_in, unit_formed_in, maybe_formed_in, text_verdict_in, text_in, units_verdict_in, group_sums_in, convertible_in, units_in, unitless_in}
use Rattle.calls.specs.Answers.{operand_of, operand_used_in, operands_in, operands_verdict_in, binary_verdict_in, binary_in, unary_verdict_in, unary_in, unary_page_in, index_in, index_page_in}

-- ---- choices

or_end : (a : Bool) → (a || true) ≡ true
or_end true = refl
or_end false = refl

or_none_lem : (a : Bool) → (a || false) ≡ a
or_none_lem true = refl
or_none_lem false = refl

-- ---- bytes that can be read

module _ (bytes : List ℕ) where
  pub value_ok : readable bytes ≡ true → value_in bytes ≡ Ok (unit_in bytes)
  unfolding value_verdict
  value_ok h = rw h refl

-- the places of a unit that was read are the terms in the bytes
module _ (bytes : List ℕ) (s : is_some bytes ≡ true) where
  few : get_or bytes 0 0 ≤ places_max
  few =
      let a = and_true (leb 1 (length bytes)) _ s in
      leb-true (get_or bytes 0 0) places_max (and_true (leb (get_or bytes 0 0) places_max) _ a.1).0

  not_none : is_none bytes ≡ false
  not_none = let f = few in rw (ne_eqb (get_or bytes 0 0) none_count (λ e. omega arith)) (and_false (eqb (length bytes) 1))

  read : List Term
  read = terms_at bytes (get_or bytes 0 0) 1

  read_length : length read ≤ places_max
  unfolding read
  read_length = rw (length_at (get_or bytes 0 0) 1) few
    where
      length_at : (k at : ℕ) → length (terms_at bytes k at) ≡ k
      length_at zero at = refl
      length_at (suc k) at = ap suc (length_at k (at + term_bytes))

  unit_is : unit_in bytes ≡ Some (unit_of read)
  unfolding unit_in read
  unit_is = rw s refl

  pub some_used : (n : ℕ) → symbols_used n bytes ≡ in_use n (present (or_empty (unit_in bytes)))
  some_used n =
      used_some n bytes s ∙ unfold read in (sym (ap (λ m. in_use n (present (or_empty m))) unit_is ∙ ap (in_use n) (present_all (unit_of read) read_length ∙ terms_unit read read_length)))

  pub some_formed : unit_formed_in bytes ≡ formed places_max names_max (terms_of (or_empty (unit_in bytes)))
  unfolding unit_formed_in
  some_formed = rw unit_is refl

-- a unit, or none
module _ (bytes : List ℕ) where
  no_unit_lem : is_some bytes ≡ false → unit_in bytes ≡ None
  unfolding unit_in
  no_unit_lem s = rw s

  some_if : (u : Unit) → unit_in bytes ≡ Some u → is_some bytes ≡ true
  unfolding unit_in
  some_if u e = go (is_some bytes) refl e
    where
      go : (b : Bool) → is_some bytes ≡ b → cond b (Some (unit_of (terms_at bytes (get_or bytes 0 0) 1))) None ≡ Some u → is_some bytes ≡ true
      go true s k = s
      go false s k = absurd (let z : ◌≡◌ {A = ℕ} 0 1 = cc in omega arith)

  module _ (h : readable bytes ≡ true) where
    pub used_in : (n : ℕ) → symbols_used n bytes ≡ in_use n (present (or_empty (unit_in bytes)))
    unfolding readable in_use
    used_in n = go (is_some bytes) refl
      where
        go : (b : Bool) → is_some bytes ≡ b → symbols_used n bytes ≡ in_use n (present (or_empty (unit_in bytes)))
        go true s = some_used bytes s n
        go false s = used_none n bytes (sym (or_none_lem (is_none bytes)) ∙ rw s at h) ∙ ap (λ u. in_use n (present (or_empty u))) (sym (no_unit_lem s))

    pub formed_in : maybe_formed_in bytes ≡ formed places_max names_max (terms_of (or_empty (unit_in bytes)))
    unfolding readable maybe_formed_in formed
    formed_in = go (is_some bytes) refl
      where
        go : (b : Bool) → is_some bytes ≡ b → (is_none bytes || unit_formed_in bytes) ≡ formed places_max names_max (terms_of (or_empty (unit_in bytes)))
        go true s = rw (not_none bytes s) (some_formed bytes s)
        go false s = rw (no_unit_lem s, sym (or_none_lem (is_none bytes)) ∙ rw s at h)

  -- ---- bytes that cannot

  unread_formed : readable bytes ≡ false → maybe_formed_in bytes ≡ false
  unfolding readable maybe_formed_in unit_formed_in unit_in
  unread_formed h = let a = or_both (is_none bytes) (is_some bytes) h in rw (a.0, a.1)

pub unread_both : (l r : List ℕ) → (readable l && readable r) ≡ false → (maybe_formed_in l && maybe_formed_in r) ≡ false
unread_both l r h = go (readable l) refl
  where
    go : (b : Bool) → readable l ≡ b → (maybe_formed_in l && maybe_formed_in r) ≡ false
    go true e = rw (unread_formed r (rw e at h)) (and_false (maybe_formed_in l))
    go false e = rw (unread_formed l e)

-- both can be read
pub read_both : (l r : List ℕ) → (readable l && readable r) ≡ true → (readable l ≡ true) × (readable r ≡ true)
read_both l r h = and_true (readable l) (readable r) h

-- ---- what reading answers

module _ (bytes : List ℕ) where
  pub value_some : (m : Option Unit) → value_in bytes ≡ Ok m → (readable bytes ≡ true) × (m ≡ unit_in bytes)
  unfolding value_verdict
  value_some m e =
      let z = answer_of_ok (value_verdict bytes) (unit_in bytes) m (sym e) in
      (not-false (readable bytes) (passed_parts BadUnit (not (readable bytes)) [] z.0).0, z.1)

  pub value_none : (r : Refusal) → value_in bytes ≡ Err r → (readable bytes ≡ false) × (unit_in bytes ≡ None)
  unfolding readable
  value_none r e = go (readable bytes) refl
    where
      go : (b : Bool) → readable bytes ≡ b → (readable bytes ≡ false) × (unit_in bytes ≡ None)
      go true h = absurd (let k : ◌≡◌ {A = Result (Option Unit) Refusal} (Ok (unit_in bytes)) (Err r) = sym (value_ok bytes h) ∙ e in let z : ◌≡◌ {A = ℕ} 0 1 = cc in omega arith)
      go false h = (h, no_unit_lem bytes (or_both (is_none bytes) (is_some bytes) h).1)

  -- unitless or not
  pub dimensionless_read : (m : Option Unit) → value_in bytes ≡ Ok m → unitless_answer m ≡ unitless_in bytes
  unfolding unitless_in
  dimensionless_read m e =
      let z = answer_of_ok (value_verdict bytes) (unit_in bytes) m (sym e) in
      rw (z.0, z.1) refl

  pub dimensionless_unread : (r : Refusal) → value_in bytes ≡ Err r → ◌≡◌ {A = Result Bool Refusal} (Err r) (unitless_in bytes)
  unfolding unitless_in
  dimensionless_unread r e = let z = answer_of_err (value_verdict bytes) (unit_in bytes) r (sym e) in rw z refl

-- ---- the unit that bytes must say

-- it, or 5
abbrev said : List ℕ → Result Unit Refusal
said bytes = ok_or (unit_in bytes) BadUnit

module _ (bytes : List ℕ) where
  pub read_given : (m : Option Unit) → value_in bytes ≡ Ok m → ok_or m BadUnit ≡ said bytes
  read_given m e = rw (value_some bytes m e).1

  pub unread_refused : (r : Refusal) → value_in bytes ≡ Err r → ◌≡◌ {A = Result Unit Refusal} (Err r) (said bytes)
  unfolding value_verdict
  unread_refused r e = rw ((value_none bytes r e).1, go (readable bytes) e) refl
    where
      go : (b : Bool) → ◌≡◌ {A = Result (Option Unit) Refusal} (answer_of (lowest ((BadUnit when not b) ∷ [])) (unit_in bytes)) (Err r) → r ≡ BadUnit
      go true k = absurd (let z : ◌≡◌ {A = ℕ} 0 1 = cc in omega arith)
      go false k = cc

  said_some : (u : Unit) → said bytes ≡ Ok u → unit_or_broken bytes ≡ u
  unfolding unit_or_broken
  said_some u = go (unit_in bytes)
    where
      go : (m : Option Unit) → ok_or m BadUnit ≡ Ok u → or_broken m ≡ u
      go (Some v) e = cc
      go None e = absurd (let z : ◌≡◌ {A = ℕ} 0 1 = cc in omega arith)

  said_none : (r : Refusal) → said bytes ≡ Err r → (unit_or_broken bytes ≡ broken_unit) × (r ≡ BadUnit)
  unfolding unit_or_broken
  said_none r = go (unit_in bytes)
    where
      go : (m : Option Unit) → ok_or m BadUnit ≡ Err r → (or_broken m ≡ broken_unit) × (r ≡ BadUnit)
      go (Some v) e = absurd (let z : ◌≡◌ {A = ℕ} 0 1 = cc in omega arith)
      go None e = (refl, cc)

  -- where there is none, the calls answer 5
  pub form_read : (u : Unit) → said bytes ≡ Ok u → form_verdict u ≡ form_verdict (unit_or_broken bytes)
  form_read u e = rw (said_some u e)

  pub form_unread : (r : Refusal) → said bytes ≡ Err r → ◌≡◌ {A = Verdict} (Err r) (form_verdict (unit_or_broken bytes))
  unfolding form_verdict formed
  form_unread r e = let z = said_none r e in rw (z.0, z.1) refl

  module _ (s : ℕ) where
    pub exponent_read : (u : Unit) → said bytes ≡ Ok u → exponent_answer u s ≡ exponent_answer (unit_or_broken bytes) s
    exponent_read u e = rw (said_some u e)

    pub exponent_unread : (r : Refusal) → said bytes ≡ Err r → ◌≡◌ {A = Result ℤ Refusal} (Err r) (exponent_answer (unit_or_broken bytes) s)
    unfolding exponent_answer form_verdict formed
    exponent_unread r e = let z = said_none r e in rw (z.0, z.1) refl

module _ (d : Bool) (a b : List ℕ) where
  pub product_read : (u v : Unit) → said a ≡ Ok u → said b ≡ Ok v → product_answer d u v ≡ product_in d a b
  product_read u v e f = rw (said_some a u e, said_some b v f)

  pub product_left : (r : Refusal) → said a ≡ Err r → ◌≡◌ {A = Result Unit Refusal} (Err r) (product_in d a b)
  unfolding formed
  product_left r e =
      let z = said_none a r e in
      rw (z.0, z.1) (units.product_left d broken_unit (unit_or_broken b) refl)

  pub product_right : (r : Refusal) → said b ≡ Err r → ◌≡◌ {A = Result Unit Refusal} (Err r) (product_in d a b)
  unfolding formed
  product_right r e = go (formed places_max names_max (terms_of (unit_or_broken a))) refl
    where
      go : (f : Bool) → formed places_max names_max (terms_of (unit_or_broken a)) ≡ f → ◌≡◌ {A = Result Unit Refusal} (Err r) (product_in d a b)
      go true f = let z = said_none b r e in rw (z.0, z.1) (units.product_right d (unit_or_broken a) broken_unit f refl)
      go false f = rw (said_none b r e).1 (units.product_left d (unit_or_broken a) (unit_or_broken b) f)

-- ---- the text of a unit

module _ (page bytes : List ℕ) where
  pub text_some : (u : Unit) → unit_in bytes ≡ Some u → text_answer page u ≡ text_in page bytes
  unfolding text_answer text_verdict text_verdict_in
  text_some u h = let s = some_if bytes u h in rw (some_used bytes s (count_of page), some_formed bytes s, h) refl

  pub text_broken : names.formed page ≡ false → Err Broken ≡ text_verdict_in page bytes
  unfolding text_verdict_in
  text_broken f = sym (rw f (first_holds Broken ((Unused when not (symbols_used (count_of page) bytes)) ∷ (BadUnit when not (unit_formed_in bytes)) ∷ []) refl))

  module _ (f : names.formed page ≡ true) (n : ℕ) (is : n ≡ count_of page) where
    pub text_unused : symbols_used n bytes ≡ false → Err Unused ≡ text_verdict_in page bytes
    unfolding text_verdict_in
    text_unused u = sym (rw (f, ← is, u) (first_holds Unused ((BadUnit when not (unit_formed_in bytes)) ∷ []) refl))

    pub text_bad : symbols_used n bytes ≡ true → unit_in bytes ≡ None → Err BadUnit ≡ text_verdict_in page bytes
    unfolding text_verdict_in unit_formed_in
    text_bad u h = rw (f, ← is, u, h) refl

-- ---- units over the pairs of a page

and_end : (a : Bool) → (a && true) ≡ a
and_end true = refl
and_end false = refl

and_self : (a : Bool) → (a && a) ≡ a
and_self true = refl
and_self false = refl

module _ (page : List ℕ) (names : Option (List ℕ)) where
  module _ (l r : List ℕ) (h : (readable l && readable r) ≡ true) where
    units_alike : units_verdict page names (or_empty (unit_in l) ∷ or_empty (unit_in r) ∷ []) ≡ units_verdict_in page names l r
    unfolding units_verdict units_verdict_in
    units_alike =
        let k = read_both l r h in
        let n = used_of names in
        rw (used_in l k.0 n, used_in r k.1 n, formed_in l k.0, formed_in r k.1, and_end (in_use n (present (or_empty (unit_in r)))), and_end (formed places_max names_max (terms_of (or_empty (unit_in r)))))

    pub convert_alike : convert_answer page names (unit_in l) (unit_in r) ≡ convertible_in page names l r
    unfolding convert_answer
    convert_alike = rw units_alike

  pub sums_alike : (b : List ℕ) → readable b ≡ true → sums_answer page names (or_empty (unit_in b)) ≡ group_sums_in page names b
  unfolding sums_answer units_verdict units_verdict_in
  sums_alike b k =
      let n = used_of names in
      rw (used_in b k n, formed_in b k, and_end (in_use n (present (or_empty (unit_in b)))), and_end (formed places_max names_max (terms_of (or_empty (unit_in b)))), and_self (in_use n (present (or_empty (unit_in b)))), and_self (formed places_max names_max (terms_of (or_empty (unit_in b)))))

  module _ (l r : List ℕ) where
    pub units_broken : table_broken page names ≡ true → Err Broken ≡ units_verdict_in page names l r
    unfolding units_verdict_in
    units_broken t =
        sym (rw t (first_holds Broken ((Unused when not (symbols_used (used_of names) l && symbols_used (used_of names) r)) ∷ (BadUnit when not (maybe_formed_in l && maybe_formed_in r)) ∷ []) refl))

    module _ (t : table_broken page names ≡ false) (n : ℕ) (is : n ≡ used_of names) where
      unused : (symbols_used n l && symbols_used n r) ≡ false → Err Unused ≡ units_verdict_in page names l r
      unfolding units_verdict_in
      unused u = sym (rw (t, ← is, u) (first_holds Unused ((BadUnit when not (maybe_formed_in l && maybe_formed_in r)) ∷ []) refl))

      pub left_unused : symbols_used n l ≡ false → Err Unused ≡ units_verdict_in page names l r
      left_unused u = unused (rw u)

      pub right_unused : symbols_used n r ≡ false → Err Unused ≡ units_verdict_in page names l r
      right_unused u = unused (rw u (and_false (symbols_used n l)))

      pub units_bad : symbols_used n l ≡ true → symbols_used n r ≡ true → (readable l && readable r) ≡ false → Err BadUnit ≡ units_verdict_in page names l r
      unfolding units_verdict_in
      units_bad a b h = rw (t, ← is, a, b, unread_both l r h)

-- ---- operands

-- the refusal of operands of which one cannot be read
module _ (page : List ℕ) (left : ℕ) (unit : List ℕ) (right : ℕ) (other : List ℕ) (h : (readable unit && readable other) ≡ false) (n : ℕ) where
  unused_operand : (operand_used_in page n left unit && operand_used_in page n right other) ≡ false → Err Unused ≡ lowest (operands_in page n left unit right other)
  unused_operand u = sym (rw u (first_holds Unused ((BadUnit when not (maybe_formed_in unit && maybe_formed_in other)) ∷ []) refl))

  pub left_operand : operand_used_in page n left unit ≡ false → Err Unused ≡ lowest (operands_in page n left unit right other)
  left_operand u = unused_operand (rw u)

  pub right_operand : operand_used_in page n right other ≡ false → Err Unused ≡ lowest (operands_in page n left unit right other)
  right_operand u = unused_operand (rw u (and_false (operand_used_in page n left unit)))

  pub operands_bad : operand_used_in page n left unit ≡ true → operand_used_in page n right other ≡ true → Err BadUnit ≡ lowest (operands_in page n left unit right other)
  operands_bad a b = rw (a, b, unread_both unit other h)

module _ (page : List ℕ) (names : Option (List ℕ)) (left : ℕ) (unit : List ℕ) (right : ℕ) (other : List ℕ) where
  abbrev conditions : ℕ → List Condition
  conditions n = operands_in page n left unit right other

  module _ (h : (readable unit && readable other) ≡ true) where
    operands_alike : (n : ℕ) → operand_conditions page n (operand_of left unit) (operand_of right other) ≡ operands_in page n left unit right other
    operands_alike n =
        let k = read_both unit other h in
        rw (used_in unit k.0 n, used_in other k.1 n, formed_in unit k.0, formed_in other k.1)

    pub binary_alike : (pairs : List ℕ) (op : ℕ)
        → binary_answer page names pairs op (operand_of left unit) (operand_of right other) ≡ binary_in page names pairs op left unit right other
    unfolding binary_answer binary_verdict_in
    binary_alike pairs op =
        ap (λ (cs : List Condition). guarded (lowest ((Undefined when not (is_operator op)) ∷ (Broken when (store_broken page names || table_broken pairs names)) ∷ cs))
        (binary_checked page (roots_in pairs) op (operand_of left unit) (operand_of right other))) (operands_alike (used_of names))

  -- store and names come before what is asked of the operands
  pub operands_broken : store_broken page names ≡ true → Err Broken ≡ operands_verdict_in page names left unit right other
  unfolding operands_verdict_in
  operands_broken t = sym (rw t (first_holds Broken (conditions (used_of names)) refl))

  pub operands_rest : store_broken page names ≡ false → (n : ℕ) → n ≡ used_of names → lowest (conditions n) ≡ operands_verdict_in page names left unit right other
  unfolding operands_verdict_in
  operands_rest t n is = rw (t, ← is)

  -- and 1 and the pairs too
  module _ (pairs : List ℕ) (op : ℕ) where
    pub binary_undefined : is_operator op ≡ false → Err Undefined ≡ binary_verdict_in page names pairs op left unit right other
    unfolding binary_verdict_in
    binary_undefined o =
        sym (rw o (first_holds Undefined ((Broken when (store_broken page names || table_broken pairs names)) ∷ conditions (used_of names)) refl))

    module _ (o : is_operator op ≡ true) where
      binary_broken : (store_broken page names || table_broken pairs names) ≡ true → Err Broken ≡ binary_verdict_in page names pairs op left unit right other
      unfolding binary_verdict_in
      binary_broken t = sym (rw (o, t) (first_holds Broken (conditions (used_of names)) refl))

      pub binary_unpaired : (r : Refusal) → Err r ≡ tables.opened_answer pairs names → Err Broken ≡ binary_verdict_in page names pairs op left unit right other
      binary_unpaired r e = binary_broken (rw (opened_err pairs names r e).0 (or_end (store_broken page names)))

      module _ (n : ℕ) (e : Ok n ≡ tables.opened_answer pairs names) where
        sound : (table_broken pairs names ≡ false) × (n ≡ used_of names)
        sound = opened_ok pairs names n e

        named : lent_broken names ≡ false
        named = (unbroken pairs names sound.0).0

        pub binary_unformed : (r : Refusal) → Err r ≡ store.form_verdict page n → Err r ≡ binary_verdict_in page names pairs op left unit right other
        binary_unformed r f =
            let s = stores.opened_err page names r (stores.opened_unformed page names named n sound.1 r f) in
            rw s.1 (binary_broken (rw s.0 refl))

        pub binary_rest : Ok tt ≡ store.form_verdict page n → lowest (conditions n) ≡ binary_verdict_in page names pairs op left unit right other
        unfolding binary_verdict_in
        binary_rest f = rw (o, (stores.opened_ok page names n (stores.opened_passed page names named n sound.1 f)).0, sound.0, ← sound.1)

module _ (page : List ℕ) (names : Option (List ℕ)) (op operand : ℕ) (unit : List ℕ) where
  pub unary_alike : readable unit ≡ true
      → (unary_answer page names op (operand_of operand unit) ≡ unary_in page names op operand unit)
      × (unary_page page names op (operand_of operand unit) ≡ unary_page_in page names op operand unit)
  unfolding unary_answer unary_page unary_verdict_in
  unary_alike h =
      let e = operands_alike page names operand unit operand unit (rw h refl) (used_of names) in
      let verdict : List Condition → Verdict = λ cs. lowest ((Undefined when not (is_operator op)) ∷ (Broken when store_broken page names) ∷ cs) in
      let q = check_unary page op (checked_of operand) in (
        ap (λ (cs : List Condition). guarded (verdict cs) (unary_checked q op (unit_in unit))) e,
        ap (λ (cs : List Condition). unless_refused (verdict cs) (store_after q page) page) e,
      )

  pub unary_undefined : is_operator op ≡ false → Err Undefined ≡ unary_verdict_in page names op operand unit
  unfolding unary_verdict_in
  unary_undefined o =
      sym (rw o (first_holds Undefined ((Broken when store_broken page names) ∷ operands_in page (used_of names) operand unit operand unit) refl))

  pub unary_rest : is_operator op ≡ true → operands_verdict_in page names operand unit operand unit ≡ unary_verdict_in page names op operand unit
  unfolding unary_verdict_in operands_verdict_in
  unary_rest o = rw o

-- a key, whose bytes say that it has no unit
pub index_alike : (page : List ℕ) (names : Option (List ℕ)) (target : ℕ) (unit : List ℕ) (key : ℕ) → readable unit ≡ true
    → (index_answer page names (operand_of target unit) (checked_of key) ≡ index_in page names target unit key)
    × (index_page page names (operand_of target unit) (checked_of key) ≡ index_page_in page names target unit key)
unfolding index_answer index_page operands_verdict_in
index_alike page names target unit key h =
    let none : operand_of key (none_count ∷ []) ≡ keyed (checked_of key) = unfold unit_in in refl in
    let e =
    ap (λ x. operand_conditions page (used_of names) (operand_of target unit) x) (sym none)
    ∙ operands_alike page names target unit key (none_count ∷ []) (unfold readable in rw h refl) (used_of names) in
    let verdict : List Condition → Verdict = λ cs. lowest ((Broken when store_broken page names) ∷ cs) in
    let q = check_index page (checked_of key) (checked_of target) in (
      ap (λ (cs : List Condition). guarded (verdict cs) (concluded_by q.conclusion (unit_in unit))) e,
      ap (λ (cs : List Condition). unless_refused (verdict cs) (store_after q page) page) e,
    )

-- ---- two units

module _ (l r : List ℕ) where
  -- what was read, where both can be
  pub units_read : (p : Option Unit × Option Unit) → units_in l r ≡ Some p → ((readable l && readable r) ≡ true) × (p ≡ (unit_in l, unit_in r))
  units_read p = go (readable l && readable r) refl
    where
      go : (b : Bool) → (readable l && readable r) ≡ b → cond {A = Option (Option Unit × Option Unit)} b (Some (unit_in l, unit_in r)) None ≡ Some p
          → ((readable l && readable r) ≡ true) × (p ≡ (unit_in l, unit_in r))
      go true h e = (h, cc)
      go false h e = absurd (let z : ◌≡◌ {A = ℕ} 0 1 = cc in omega arith)

  -- both, or nothing where one cannot be read
  pub both_read : option_zip (result_ok (value_in l)) (result_ok (value_in r)) ≡ units_in l r
  unfolding value_verdict
  both_read = go (readable l) (readable r) refl refl
    where
      go : (a b : Bool) → readable l ≡ a → readable r ≡ b → option_zip (result_ok (value_in l)) (result_ok (value_in r)) ≡ units_in l r
      go true true e f = rw (e, f) refl
      go true false e f = rw (e, f) refl
      go false b e f = rw e refl

-- the group sums of what was read
pub sums_read : (page : List ℕ) (names : Option (List ℕ)) (b : List ℕ) (m : Option Unit) (u : Unit) → value_in b ≡ Ok m → u ≡ or_empty m
    → sums_answer page names u ≡ group_sums_in page names b
sums_read page names b m u e o =
    let z = value_some b m e in
    ap (sums_answer page names) (o ∙ ap or_empty z.1) ∙ sums_alike page names b z.0
