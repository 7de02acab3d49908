-- Exponents within their limits: their sum, difference and negation fit an `i16`. Assumes nothing.
use mathlib.Core.Path.{◌≡◌, refl, sym, ap, ◌∙◌}
use mathlib.Core.Bool.{Bool, true, false, cond, ◌||◌}
use Prim.Native.Nat.{ℕ, zero, suc, ◌-◌, ◌^◌, ◌≤◌, ◌<◌}
use native.Mathlib.Omega.{arith}
use lib.Dec.{ltb, eqb, leb-suc-suc}
use lib.IntN.{ℤ, pos, negsuc, neg_ℤ, nat_abs, sub_ℕ, ◌+ℤ◌}
use lib.Signed.{mag, lt_z}
use mir.Syntax.{w16}
use mir.Val.{SFits, to_z, of_z}
use mir.Facts.{to_z-of_z}
use borrow.Author.Tests.{ltb-false, ne_eqb, eqb-true}
use Rattle.units.specs.Unit.{exponent_max, is_zero, outside}
use Rattle.units.specs.Merge.{turn}

-- a number that was written as bits is read again
pub back : (z : ℤ) → mag z < 2 ^ 15 → to_z w16 (of_z w16 z) ≡ z
back z h = to_z-of_z {w = w16} {z = z} (record { sfits = h })

pub small : (z : ℤ) → outside z ≡ false → nat_abs z ≤ exponent_max
small z h = ltb-false exponent_max (nat_abs z) h

-- so is one within the limits
pub inside_back : (z : ℤ) → outside z ≡ false → to_z w16 (of_z w16 z) ≡ z
inside_back (pos n) h = back (pos n) (let k = small (pos n) h in omega arith)
inside_back (negsuc n) h = back (negsuc n) (let k = small (negsuc n) h in omega arith)

mag_sub : (a b k : ℕ) → a ≤ k → b ≤ k → mag (sub_ℕ a b) ≤ k
mag_sub a b k ha hb = go (ltb a b)
  where
    go : (t : Bool) → mag (cond t (negsuc (b - suc a)) (pos (a - b))) ≤ k
    go true = omega arith
    go false = omega arith

mag_sum : (y z : ℤ) → nat_abs y ≤ exponent_max → nat_abs z ≤ exponent_max → mag (y +ℤ z) ≤ 2000
mag_sum (pos a) (pos b) ha hb = omega arith
mag_sum (pos a) (negsuc b) ha hb = let k = mag_sub a (suc b) exponent_max ha hb in omega arith
mag_sum (negsuc a) (pos b) ha hb = let k = mag_sub b (suc a) exponent_max hb ha in omega arith
mag_sum (negsuc a) (negsuc b) ha hb = omega arith

pub sum_fits : (y z : ℤ) → nat_abs y ≤ exponent_max → nat_abs z ≤ exponent_max → SFits w16 (y +ℤ z)
sum_fits y z ha hb = let k = mag_sum y z ha hb in record { sfits = omega arith }

abs_neg : (z : ℤ) → nat_abs (neg_ℤ z) ≡ nat_abs z
abs_neg (pos zero) = refl
abs_neg (pos (suc n)) = refl
abs_neg (negsuc n) = refl

-- turned, it is as large as it was
pub abs_turn : (d : Bool) (z : ℤ) → nat_abs (turn d z) ≡ nat_abs z
abs_turn true z = abs_neg z
abs_turn false z = refl

pub neg_fits : (z : ℤ) → nat_abs z ≤ exponent_max → SFits w16 (neg_ℤ z)
neg_fits (pos zero) h = record { sfits = omega arith }
neg_fits (pos (suc n)) h = record { sfits = omega arith }
neg_fits (negsuc n) h = record { sfits = omega arith }

pub bits_zero : (z : ℤ) → SFits w16 z → eqb (of_z w16 z) 0 ≡ is_zero z
bits_zero (pos n) h = refl
bits_zero (negsuc n) h = let k = h.sfits in ne_eqb (2 ^ 16 - suc n) 0 (omega arith) ∙ rw (ne_eqb (suc n) 0 (λ e. omega arith))

pub zero_is : (e : ℤ) → is_zero e ≡ true → e ≡ pos 0
zero_is (pos n) h = ap pos (eqb-true n 0 h)
zero_is (negsuc n) h = let k = eqb-true (suc n) 0 h in absurd (omega arith)

-- below the lowest or above the highest is outside
pub outside_is : (z : ℤ) → (lt_z z (negsuc 999) || lt_z (pos 1000) z) ≡ outside z
outside_is (pos n) = refl
outside_is (negsuc n) = go (ltb 999 n) ∙ sym (leb-suc-suc 1000 n)
  where
    go : (b : Bool) → (b || false) ≡ b
    go true = refl
    go false = refl
