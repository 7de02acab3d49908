-- A product or quotient that is answered is a unit in form (`answer_formed`), whose symbols are symbols of the two units and so in use
-- where those are (`answer_used`). Assumes nothing.
use Rattle.std.proofs.Common.{Ok, Err, IfOk}
use mathlib.Core.Path.{◌≡◌, refl, sym, ap₂, subst, ◌∙◌}
use mathlib.Core.Bool.{Bool, true, false, not}
use mathlib.Core.List.{List, [], ◌∷◌, ◌++◌}
use Prim.Native.Nat.{ℕ, zero, suc, ◌≤◌}
use lib.Dec.{T, ltb}
use lib.ListN.{length}
use lib.IntN.{ℤ, pos, ◌+ℤ◌}
use Rattle.refusals.specs.Lowest.{◌when◌, answer_of}
use Rattle.refusals.specs.declared.Refusal.TheVariants.{BadUnit, Exponent, Symbols}
use Rattle.refusals.specs.Numbers.{Verdict}
use Rattle.refusals.proofs.Lowest.{passed_parts}
use Rattle.names.specs.Table.{names_max}
use Rattle.names.specs.Calls.{is_used}
use Rattle.units.specs.Unit.{places_max, Term, is_zero, formed, exponent, in_use}
use Rattle.units.specs.Product.{combine, exponents, power, written, any_outside, product_of, product_verdict}
use Rattle.units.specs.Calls.{terms_of, unit_of, product_answer}
use Rattle.units.specs.declared.Unit.{Unit}
use Rattle.units.proofs.Order.{part_other}
use Rattle.units.proofs.Si.{turn_zero, product_formed}
use Rattle.units.proofs.Held.{terms_unit}
use Rattle.units.proofs.Used.{in_use_head, in_use_tail, in_use_more}
use Rattle.units.proofs.Calls.{result_few}

-- ---- symbols in use, of n numbers

module _ (n : ℕ) where
  -- a symbol that is not in use has no exponent in a unit whose symbols are
  unused_zero : (s : ℕ) (xs : List Term) → in_use n xs ≡ true → is_used n s ≡ false → exponent s xs ≡ pos 0
  unused_zero s [] h u = refl
  unused_zero s (x ∷ xs) h u =
      ap₂ ◌+ℤ◌ (part_other s x (λ e. subst T (sym (in_use_head n x xs h) ∙ rw e at u) tt)) (unused_zero s xs (in_use_tail n x xs h) u)

  append_used : (xs ys : List Term) → in_use n xs ≡ true → in_use n ys ≡ true → in_use n (xs ++ ys) ≡ true
  append_used [] ys h k = k
  append_used (x ∷ xs) ys h k =
      in_use_more n x (xs ++ ys) (in_use_head n x xs h) (append_used xs ys (in_use_tail n x xs h) k)

  power_used : (s : ℕ) (e : ℤ) → (is_used n s ≡ false → e ≡ pos 0) → in_use n (power s e) ≡ true
  unfolding in_use
  power_used s e h = go (is_used n s) refl (is_zero e) refl
    where
      go : (a : Bool) → is_used n s ≡ a → (b : Bool) → is_zero e ≡ b → in_use n (power s e) ≡ true
      go a u true z = rw z refl
      go true u false z = rw (z, u) refl
      go false u false z = rw (h u) refl

  -- exponents written down, where every symbol that is not in use has none
  written_used : (m : ℕ) (f : ℕ → ℤ) → ((s : ℕ) → is_used n s ≡ false → f s ≡ pos 0) → in_use n (written m f) ≡ true
  unfolding in_use
  written_used zero f h = refl
  written_used (suc m) f h = append_used (written m f) (power m (f m)) (written_used m f h) (power_used m (f m) (h m))

  -- the symbols of a product or quotient are in use where those of the two units are
  pub product_used : (m : ℕ) (quotient : Bool) (xs ys : List Term) → in_use n xs ≡ true → in_use n ys ≡ true
      → in_use n (product_of m quotient xs ys) ≡ true
  unfolding product_of
  product_used m quotient xs ys h k =
      written_used m (exponents quotient xs ys)
      (λ s u. ap₂ (combine quotient) (unused_zero s xs h u) (unused_zero s ys k u) ∙ turn_zero quotient)

-- ---- what is answered

-- a product that passes is within the limits
passed_inside : (p n : ℕ) (d : Bool) (xs ys : List Term) → product_verdict p n d xs ys ≡ Ok tt → any_outside (product_of n d xs ys) ≡ false
unfolding product_verdict
passed_inside p n d xs ys h =
    let m = product_of n d xs ys in
    let a = passed_parts BadUnit (not (formed p n xs)) ((BadUnit when not (formed p n ys)) ∷ (Exponent when any_outside m) ∷ (Symbols when ltb p (length m)) ∷ []) h in
    let b = passed_parts BadUnit (not (formed p n ys)) ((Exponent when any_outside m) ∷ (Symbols when ltb p (length m)) ∷ []) a.1 in
    (passed_parts Exponent (any_outside m) ((Symbols when ltb p (length m)) ∷ []) b.1).0

module _ (d : Bool) (a b : Unit) where
  abbrev product : List Term
  product = product_of names_max d (terms_of a) (terms_of b)

  -- what holds of a product within the limits holds of the terms of an answer
  answer_holds : (P : List Term → Type 0)
      → (any_outside product ≡ false → length product ≤ places_max → P product)
      → IfOk (product_answer d a b) (λ u. P (terms_of u))
  unfolding product_answer
  answer_holds P some = go (product_verdict places_max names_max d (terms_of a) (terms_of b)) refl (result_few d a b)
    where
      go : (v : Verdict) → product_verdict places_max names_max d (terms_of a) (terms_of b) ≡ v
          → IfOk (answer_of (product_verdict places_max names_max d (terms_of a) (terms_of b)) (unit_of product)) (λ u. u.count ≤ places_max)
          → IfOk (answer_of v (unit_of product)) (λ u. P (terms_of u))
      go (Err r) e l = tt
      go (Ok _) e l =
          let few : length product ≤ places_max = rw e at l in
          rw (terms_unit product few) (some (passed_inside places_max names_max d (terms_of a) (terms_of b) e) few)

  -- the unit that is answered is in form
  pub answer_formed : IfOk (product_answer d a b) (λ u. formed places_max names_max (terms_of u) ≡ true)
  unfolding formed
  answer_formed =
      answer_holds (λ l. formed places_max names_max l ≡ true)
      (λ w l. product_formed places_max names_max d (terms_of a) (terms_of b) w l)

  -- and has only symbols in use, of n numbers, where the two units have
  pub answer_used : (n : ℕ) → in_use n (terms_of a) ≡ true → in_use n (terms_of b) ≡ true → IfOk (product_answer d a b) (λ u. in_use n (terms_of u) ≡ true)
  unfolding in_use
  answer_used n h k =
      answer_holds (λ l. in_use n l ≡ true) (λ w l. product_used n names_max d (terms_of a) (terms_of b) h k)
