-- What the calls on units come to, one law for each return. Assumes nothing.
use Rattle.std.proofs.Common.{Some, None, Ok, Err, IfOk, ◌==◌}
use Rattle.refusals.specs.Lowest.{answer_of}
use mathlib.Core.Path.{◌≡◌, refl, sym, ap, subst, ◌∙◌}
use mathlib.Core.Bool.{Bool, true, false, not, true≢false}
use mathlib.Core.List.{List, [], ◌∷◌}
use Prim.Native.Nat.{ℕ, zero, suc, ◌+◌, ◌≤◌, ◌<◌}
use native.Mathlib.Omega.{arith}
use lib.Dec.{ltb, eqb}
use lib.ListN.{length}
use lib.IntN.{ℤ, pos, ◌+ℤ◌, +ℤ_idl}
use borrow.Author.Tests.{lt-ltb, le-ltb, ltb-false, eq-eqb, not-false, not-true}
use Rattle.refusals.specs.Lowest.{◌when◌}
use Rattle.refusals.specs.declared.Refusal.{Refusal}
use Rattle.refusals.specs.declared.Refusal.TheVariants.{BadUnit, Exponent, Symbols}
use Rattle.refusals.specs.Numbers.{Verdict}
use Rattle.refusals.proofs.Lowest.{first_holds, passed_parts, verdict_err}
use Rattle.pages.specs.Quant.{any_to}
use Rattle.pages.proofs.Quant.{or_false}
use Rattle.names.specs.Table.{names_max}
use Rattle.units.specs.Unit.{places_max, Term, term, formed, exponent}
use Rattle.units.specs.Product.{any_outside, product_of, product_verdict}
use Rattle.units.specs.Merge.{turned, merge}
use Rattle.units.specs.Calls.{terms_of, unit_of, form_verdict, product_answer, exponent_answer, unitless, maybe_verdict, unitless_answer}
use Rattle.units.specs.declared.Unit.{Unit}
use Rattle.units.proofs.Form.{Places, sym_at, exp_at, terms_from, terms_in, length_terms, from_start, from_step, from_end, formed_count, formed_ordered}
use Rattle.units.proofs.Order.{Asc, turned_none, ordered_asc, tail_of, first, part_other}
use Rattle.units.proofs.Si.{merge_product}

-- ---- what the answer of `unit_form` says of the unit

module _ (u : Unit) where
  pub form_ok : Ok tt ≡ form_verdict u → formed places_max names_max (terms_of u) ≡ true
  unfolding form_verdict
  form_ok e = not-false (formed places_max names_max (terms_of u)) (passed_parts BadUnit (not (formed places_max names_max (terms_of u))) [] (sym e)).0

  pub form_err : (r : Refusal) → Err r ≡ form_verdict u → (formed places_max names_max (terms_of u) ≡ false) × (r ≡ BadUnit)
  unfolding form_verdict
  form_err r e = let v = verdict_err BadUnit (not (formed places_max names_max (terms_of u))) r e in (not-true (formed places_max names_max (terms_of u)) v.0, v.1)

-- ---- the verdict on a product, for any number of places p and of symbols n

module _ (p n : ℕ) (d : Bool) (xs ys : List Term) where
  left_broken : formed p n xs ≡ false → product_verdict p n d xs ys ≡ Err BadUnit
  unfolding product_verdict
  left_broken h =
      rw h (first_holds BadUnit
      ((BadUnit when not (formed p n ys)) ∷ (Exponent when any_outside (product_of n d xs ys)) ∷ (Symbols when ltb p (length (product_of n d xs ys))) ∷ []) refl)

  module _ (h : formed p n xs ≡ true) where
    right_broken : formed p n ys ≡ false → product_verdict p n d xs ys ≡ Err BadUnit
    unfolding product_verdict
    right_broken k =
        rw (h, k) (first_holds BadUnit ((Exponent when any_outside (product_of n d xs ys)) ∷ (Symbols when ltb p (length (product_of n d xs ys))) ∷ []) refl)

    module _ (k : formed p n ys ≡ true) where
      too_large : any_outside (product_of n d xs ys) ≡ true → product_verdict p n d xs ys ≡ Err Exponent
      unfolding product_verdict
      too_large w = rw (h, k, w) (first_holds Exponent ((Symbols when ltb p (length (product_of n d xs ys))) ∷ []) refl)

      module _ (w : any_outside (product_of n d xs ys) ≡ false) where
        too_many : p < length (product_of n d xs ys) → product_verdict p n d xs ys ≡ Err Symbols
        unfolding product_verdict
        too_many l = rw (h, k, w, lt-ltb p (length (product_of n d xs ys)) l)

        pub in_limits : length (product_of n d xs ys) ≤ p → product_verdict p n d xs ys ≡ Ok tt
        unfolding product_verdict
        in_limits l = rw (h, k, w, le-ltb p (length (product_of n d xs ys)) l)

-- ---- the answer

module _ (d : Bool) (a b : Unit) where
  refused_as : (r : Refusal) → product_verdict places_max names_max d (terms_of a) (terms_of b) ≡ Err r → Err r ≡ product_answer d a b
  unfolding product_answer
  refused_as r v = rw v

  pub product_left : formed places_max names_max (terms_of a) ≡ false → Err BadUnit ≡ product_answer d a b
  product_left h = refused_as BadUnit (left_broken places_max names_max d (terms_of a) (terms_of b) h)

  module _ (h : formed places_max names_max (terms_of a) ≡ true) where
    pub product_right : formed places_max names_max (terms_of b) ≡ false → Err BadUnit ≡ product_answer d a b
    product_right k = refused_as BadUnit (right_broken places_max names_max d (terms_of a) (terms_of b) h k)

    module _ (k : formed places_max names_max (terms_of b) ≡ true) where
      same : merge (terms_of a) (turned d (terms_of b)) ≡ product_of names_max d (terms_of a) (terms_of b)
      same =
          merge_product names_max d (terms_of a) (terms_of b)
          (formed_ordered places_max names_max (terms_of a) h) (formed_ordered places_max names_max (terms_of b) k)

      pub product_large : any_outside (merge (terms_of a) (turned d (terms_of b))) ≡ true → Err Exponent ≡ product_answer d a b
      product_large w = refused_as Exponent (too_large places_max names_max d (terms_of a) (terms_of b) h k (rw same at w))

      module _ (w : any_outside (merge (terms_of a) (turned d (terms_of b))) ≡ false) where
        pub product_many : places_max < length (merge (terms_of a) (turned d (terms_of b))) → Err Symbols ≡ product_answer d a b
        product_many l = refused_as Symbols (too_many places_max names_max d (terms_of a) (terms_of b) h k (rw same at w) (rw same at l))

        pub product_done : length (merge (terms_of a) (turned d (terms_of b))) ≤ places_max → Ok (unit_of (merge (terms_of a) (turned d (terms_of b)))) ≡ product_answer d a b
        unfolding product_answer
        product_done l = rw (in_limits places_max names_max d (terms_of a) (terms_of b) h k (rw same at w) (rw same at l)) (ap (λ l. Ok (unit_of l)) same)

-- ---- a result has no more symbols than places

verdict_few : (p n : ℕ) (d : Bool) (xs ys : List Term) → product_verdict p n d xs ys ≡ Ok tt → length (product_of n d xs ys) ≤ p
unfolding product_verdict
verdict_few p n d xs ys h =
    let m = product_of n d xs ys in
    let a = passed_parts BadUnit (not (formed p n xs)) ((BadUnit when not (formed p n ys)) ∷ (Exponent when any_outside m) ∷ (Symbols when ltb p (length m)) ∷ []) h in
    let b = passed_parts BadUnit (not (formed p n ys)) ((Exponent when any_outside m) ∷ (Symbols when ltb p (length m)) ∷ []) a.1 in
    let c = passed_parts Exponent (any_outside m) ((Symbols when ltb p (length m)) ∷ []) b.1 in
    ltb-false p (length m) (passed_parts Symbols (ltb p (length m)) [] c.1).0

pub result_few : (d : Bool) (a b : Unit) → IfOk (product_answer d a b) (λ u. u.count ≤ places_max)
unfolding product_answer
result_few d a b = go (product_verdict places_max names_max d (terms_of a) (terms_of b)) (verdict_few places_max names_max d (terms_of a) (terms_of b))
  where
    m : List Term
    m = product_of names_max d (terms_of a) (terms_of b)

    go : (v : Verdict) → (v ≡ Ok tt → length m ≤ places_max) → IfOk (answer_of v (unit_of m)) (λ u. u.count ≤ places_max)
    go (Ok _) h = h refl
    go (Err r) h = tt

-- ---- form, exponent, unitless

module _ (u : Unit) where
  pub form_passed : formed places_max names_max (terms_of u) ≡ true → form_verdict u ≡ Ok tt
  unfolding form_verdict
  form_passed h = rw h

  pub form_refused : formed places_max names_max (terms_of u) ≡ false → form_verdict u ≡ Err BadUnit
  unfolding form_verdict
  form_refused h = rw h

  pub exponent_refused : (s : ℕ) (r : Refusal) → Err r ≡ form_verdict u → Err r ≡ exponent_answer u s
  unfolding exponent_answer
  exponent_refused s r e = rw (← e)

  pub exponent_given : (s : ℕ) (e : ℤ) → formed places_max names_max (terms_of u) ≡ true → e ≡ exponent s (terms_of u) → Ok e ≡ exponent_answer u s
  unfolding exponent_answer
  exponent_given s e h q = rw (form_passed h, q)

-- Where the search for s stands: what is left has the exponent that the whole has.
pub record Seeking (n : ℕ) (u : Places) (s i : ℕ) : Type 0 where
  pub i_in : i ≤ u.count
  pub u_in : u.count ≤ n
  pub lo : ℕ
  pub asc : Asc lo (terms_from u i)
  pub whole : exponent s (terms_from u i) ≡ exponent s (terms_in u)

pub seeking_start : (n m : ℕ) (u : Places) (s : ℕ) → formed n m (terms_in u) ≡ true → Seeking n u s 0
seeking_start n m u s h = record {
  i_in = omega arith;
  u_in = formed_count n m u h;
  lo = 0;
  asc = subst (Asc 0) (turned_none (terms_in u) ∙ sym (from_start u)) (ordered_asc false m 0 (terms_in u) (formed_ordered n m (terms_in u) h));
  whole = ap (exponent s) (from_start u);
}

module _ (n : ℕ) (u : Places) (s i : ℕ) (k : Seeking n u s i) where
  pub sought_absent : u.count ≤ i → pos 0 ≡ exponent s (terms_in u)
  sought_absent h = sym (ap (exponent s) (from_end u i h)) ∙ k.whole

  module _ (h : i < u.count) where
    here : Asc k.lo (term (sym_at u i) (exp_at u i) ∷ terms_from u (i + 1))
    here = subst (Asc k.lo) (from_step u i h) k.asc

    pub sought_found : sym_at u i ≡ s → exp_at u i ≡ exponent s (terms_in u)
    sought_found e =
        sym (first k.lo (term (sym_at u i) (exp_at u i)) (terms_from u (i + 1)) here) ∙ ap (exponent (sym_at u i)) (sym (from_step u i h)) ∙ ap (λ t. exponent t (terms_from u i)) e ∙ k.whole

    pub seeking_next : (sym_at u i ≡ s → ⊥) → Seeking n u s (i + 1)
    seeking_next other = record {
      i_in = omega arith;
      u_in = k.u_in;
      lo = suc (sym_at u i);
      asc = tail_of here;
      whole = sym (ap (exponent s) (from_step u i h) ∙ ap (λ z. z +ℤ exponent s (terms_from u (i + 1))) (part_other s (term (sym_at u i) (exp_at u i)) (λ e. other (sym e))) ∙ +ℤ_idl (exponent s (terms_from u (i + 1)))) ∙ k.whole;
    }

-- the search may stand at place i, where the places before it do not have s
pub seeking_to : (n : ℕ) (u : Places) (s i : ℕ) → Seeking n u s 0 → i ≤ u.count → any_to i (λ j. eqb (sym_at u j) s) ≡ false → Seeking n u s i
unfolding any_to
seeking_to n u s zero k h e = k
seeking_to n u s (suc i) k h e =
    let z = or_false (any_to i (λ j. eqb (sym_at u j) s)) (eqb (sym_at u i) s) e in
    let e : suc i ≡ i + 1 = omega arith in
    subst (Seeking n u s) (sym e) (seeking_next n u s i (seeking_to n u s i k (omega (arith, h)) z.0) h (λ is. true≢false (sym (eq-eqb (sym_at u i) s is) ∙ z.1)))

pub none_unitless : Ok true ≡ unitless_answer None
unfolding unitless_answer maybe_verdict unitless
none_unitless = refl

module _ (u : Unit) where
  pub broken_refused : formed places_max names_max (terms_of u) ≡ false → Err BadUnit ≡ unitless_answer (Some u)
  unfolding unitless_answer maybe_verdict unitless
  broken_refused f = rw (form_refused u f)

  pub some_unitless : formed places_max names_max (terms_of u) ≡ true → Ok (u.count == 0) ≡ unitless_answer (Some u)
  unfolding unitless_answer maybe_verdict unitless
  some_unitless f = rw (form_passed u f, length_terms u.count 0 u.symbols u.exponents)
