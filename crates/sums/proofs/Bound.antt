-- How large sums are: those of k exponents, each at most 1,000 either way, are at most 1,000 k, and a unit in form has at most
-- eight (`sums_bound`). Assumes nothing.
use mathlib.Core.Path.{◌≡◌, refl, ap, ◌∙◌}
use mathlib.Core.Bool.{Bool, true, false, cond, ◌||◌}
use mathlib.Core.List.{List, [], ◌∷◌}
use Prim.Native.Nat.{ℕ, suc, ◌+◌, ◌*◌, ◌-◌, ◌≤◌}
use native.Mathlib.Omega.{arith}
use lib.Dec.{ltb, eqb}
use lib.ListN.{length}
use lib.IntN.{ℤ, pos, negsuc, nat_abs, sub_ℕ, ◌+ℤ◌}
use lib.Signed.{mag}
use mir.Syntax.{w16}
use mir.Val.{SFits}
use borrow.Author.Tests.{ltb-true}
use Rattle.units.specs.Unit.{exponent_max, places_max, Term, outside, formed, part, exponent}
use Rattle.units.specs.Product.{any_outside}
use Rattle.units.proofs.Signed.{small}
use Rattle.units.proofs.Form.{formed_length, formed_ordered}
use Rattle.units.proofs.Order.{or_both, ordered_inside}
use Rattle.sums.specs.Sums.{rooted, sum_at, group_sums}
use Rattle.sums.proofs.Written.{written_few}

abs_sub : (a b : ℕ) → nat_abs (sub_ℕ a b) ≤ a + b
abs_sub a b = go (ltb a b) refl
  where
    go : (t : Bool) → ltb a b ≡ t → nat_abs (cond t (negsuc (b - suc a)) (pos (a - b))) ≤ a + b
    go true h = omega (arith, ltb-true a b h)
    go false h = omega arith

pub abs_sum : (y z : ℤ) → nat_abs (y +ℤ z) ≤ nat_abs y + nat_abs z
abs_sum (pos a) (pos b) = omega arith
abs_sum (pos a) (negsuc b) = abs_sub a (suc b)
abs_sum (negsuc a) (pos b) = omega (arith, abs_sub b (suc a))
abs_sum (negsuc a) (negsuc b) = omega arith

mag_abs : (z : ℤ) → mag z ≤ nat_abs z
mag_abs (pos n) = omega arith
mag_abs (negsuc n) = omega arith

-- such a sum fits an `i16`
pub abs_fits : (z : ℤ) → nat_abs z ≤ places_max * exponent_max → SFits w16 z
abs_fits z h = record { sfits = omega (arith, mag_abs z) }

abs_part : (s : ℕ) (x : Term) → outside x.exp ≡ false → nat_abs (part s x) ≤ exponent_max
abs_part s x h = go (eqb s x.symbol)
  where
    go : (b : Bool) → nat_abs (cond b x.exp (pos 0)) ≤ exponent_max
    go true = small x.exp h
    go false = omega arith

-- the exponents of k terms sum to 1,000 k at most, either way
pub exponent_bound : (s : ℕ) (xs : List Term) → any_outside xs ≡ false → nat_abs (exponent s xs) ≤ exponent_max * length xs
exponent_bound s [] h = omega arith
exponent_bound s (x ∷ xs) h =
    let v = or_both (outside x.exp) (any_outside xs) h in
    omega (arith, abs_sum (part s x) (exponent s xs), abs_part s x v.0, exponent_bound s xs v.1)

-- ---- a unit in form

pub length_rooted : (root : ℕ → ℕ) (xs : List Term) → length (rooted root xs) ≡ length xs
length_rooted root [] = refl
length_rooted root (x ∷ xs) = ap suc (length_rooted root xs)

rooted_outside : (root : ℕ → ℕ) (xs : List Term) → any_outside (rooted root xs) ≡ any_outside xs
rooted_outside root [] = refl
rooted_outside root (x ∷ xs) = ap (λ b. outside x.exp || b) (rooted_outside root xs)

module _ (p n : ℕ) (root : ℕ → ℕ) (xs : List Term) (h : formed p n xs ≡ true) where
  -- no exponent is outside its limits, whatever symbols take the place of its own
  pub rooted_inside : any_outside (rooted root xs) ≡ false
  rooted_inside = rooted_outside root xs ∙ ordered_inside n 0 xs (formed_ordered p n xs h)

  -- of a unit of at most p symbols, a group sum is at most 1,000 p either way ("may reach ±8,000"), and there are at most p
  pub sums_bound : ((g : ℕ) → nat_abs (sum_at root g xs) ≤ p * exponent_max) × (length (group_sums n root xs) ≤ p)
  unfolding group_sums
  sums_bound =
      let l = formed_length p n xs h in
      let e = length_rooted root xs in
      (λ g. omega (arith, exponent_bound g (rooted root xs) rooted_inside), omega (arith, written_few n (rooted root xs)))
