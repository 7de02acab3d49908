-- The sums of a route's terms: a product's routes add up (`sum_append`), a divisor's count against them (`sum_negated`), and their
-- symbols stay in use (`append_used`, `negated_used`); a unitless side has no terms (`unitless_terms`). Assumes nothing.
use Rattle.std.proofs.Common.{Option, Some, None}
use mathlib.Core.Path.{◌≡◌, refl, sym, ap, ap₂, ◌∙◌}
use mathlib.Core.Bool.{Bool, true, false, cond}
use mathlib.Core.List.{List, [], ◌∷◌, ◌++◌}
use Prim.Native.Nat.{ℕ}
use lib.Dec.{eqb}
use lib.ListN.{length}
use lib.IntN.{ℤ, pos, neg_ℤ, ◌+ℤ◌, +ℤ_idl, +ℤ_assoc, neg_ℤ-+ℤ}
use native.Mathlib.Omega.{arith}
use borrow.Author.Tests.{eqb-true}
use Rattle.units.specs.Unit.{Term, term, part, in_use}
use Rattle.units.specs.Calls.{terms_of, unitless}
use Rattle.units.proofs.Used.{in_use_head, in_use_tail, in_use_more}
use Rattle.sums.specs.Sums.{sum_at}
use Rattle.routes.specs.Routes.{negated, value_terms}

-- ---- the sum in a group

module _ (root : ℕ → ℕ) (g : ℕ) where
  -- of two routes' terms it is the sum of their sums
  pub sum_append : (xs ys : List Term) → sum_at root g (xs ++ ys) ≡ sum_at root g xs +ℤ sum_at root g ys
  sum_append [] ys = sym (+ℤ_idl (sum_at root g ys))
  sum_append (x ∷ xs) ys =
      let p = part g (term (root x.symbol) x.exp) in
      ap (λ z. p +ℤ z) (sum_append xs ys) ∙ sym (+ℤ_assoc p (sum_at root g xs) (sum_at root g ys))

  part_negated : (b : Bool) (e : ℤ) → cond b (neg_ℤ e) (pos 0) ≡ neg_ℤ (cond b e (pos 0))
  part_negated true e = refl
  part_negated false e = refl

  -- of negated terms it is the negated sum
  pub sum_negated : (ys : List Term) → sum_at root g (negated ys) ≡ neg_ℤ (sum_at root g ys)
  sum_negated [] = refl
  sum_negated (y ∷ ys) =
      ap₂ ◌+ℤ◌ (part_negated (eqb g (root y.symbol)) y.exp) (sum_negated ys)
      ∙ sym (neg_ℤ-+ℤ (part g (term (root y.symbol) y.exp)) (sum_at root g ys))

-- ---- symbols in use

module _ (n : ℕ) where
  pub append_used : (xs ys : List Term) → in_use n xs ≡ true → in_use n ys ≡ true → in_use n (xs ++ ys) ≡ true
  append_used [] ys h k = k
  append_used (x ∷ xs) ys h k = in_use_more n x (xs ++ ys) (in_use_head n x xs h) (append_used xs ys (in_use_tail n x xs h) k)

  pub negated_used : (ys : List Term) → in_use n ys ≡ true → in_use n (negated ys) ≡ true
  negated_used [] h = h
  negated_used (y ∷ ys) h = in_use_more n (term y.symbol (neg_ℤ y.exp)) (negated ys) (in_use_head n y ys h) (negated_used ys (in_use_tail n y ys h))

-- ---- unitless sides

no_terms : (xs : List Term) → eqb (length xs) 0 ≡ true → xs ≡ []
no_terms [] h = refl
no_terms (x ∷ xs) h = let e = eqb-true (length (x ∷ xs)) 0 h in absurd (omega (arith, e))

-- a unitless side has no terms
pub unitless_terms : (u : Option _) → unitless u ≡ true → value_terms u ≡ []
unfolding unitless
unitless_terms None h = refl
unitless_terms (Some u) h = no_terms (terms_of u) h
