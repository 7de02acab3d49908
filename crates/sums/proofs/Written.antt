-- Numbers written down as terms: zeros are left out, and sums of terms are no more than the terms. For any
-- number of symbols. Assumes nothing.
use mathlib.Core.Path.{◌≡◌, refl, ap, ap₂, ◌∙◌}
use mathlib.Core.Logic.{◌⊎◌, inl, inr}
use mathlib.Core.Bool.{Bool, true, false, cond}
use mathlib.Core.List.{List, [], ◌∷◌, ◌++◌, append-nil}
use Prim.Native.Nat.{ℕ, zero, suc, ◌+◌, ◌-◌, ◌≤◌, ◌<◌}
use native.Mathlib.Nat.{add-zero, add-suc}
use native.Mathlib.Decide.{ℕ_discrete}
use native.Mathlib.Omega.{arith}
use lib.Dec.{ltb}
use lib.ListN.{length, length-append}
use lib.IntN.{ℤ, pos, ◌+ℤ◌}
use borrow.Author.Tests.{lt-ltb, le-ltb, ltb-true}
use Rattle.units.specs.Unit.{Term, term, is_zero, exponent}
use Rattle.units.specs.Product.{power, written}
use Rattle.units.proofs.Order.{part_other}

-- numbers that agree below n are written down alike
pub written_agree : (n : ℕ) (f h : ℕ → ℤ) → ((s : ℕ) → s < n → f s ≡ h s) → written n f ≡ written n h
written_agree zero f h e = refl
written_agree (suc n) f h e = ap₂ ◌++◌ (written_agree n f h (λ s l. e s (omega arith))) (ap (power n) (e n (omega arith)))

-- ---- zeros are left out

skip : (f : ℕ → ℤ) (lo k : ℕ) → ((s : ℕ) → lo ≤ s → s < lo + k → f s ≡ pos 0) → written (lo + k) f ≡ written lo f
skip f lo zero h = rw add-zero
skip f lo (suc k) h =
    let z : f (lo + k) ≡ pos 0 = h (lo + k) (omega arith) (omega arith) in
    rw (add-suc, z) (append-nil (written (lo + k) f) ∙ skip f lo k (λ s l m. h s l (omega arith)))

pub written_skip : (f : ℕ → ℤ) (lo g : ℕ) → lo ≤ g → ((s : ℕ) → lo ≤ s → s < g → f s ≡ pos 0) → written g f ≡ written lo f
written_skip f lo g l h =
    let e : g ≡ lo + (g - lo) = omega arith in
    ap (λ (m : ℕ). written m f) e ∙ skip f lo (g - lo) (λ s a b. h s a (omega arith))

-- ---- how many are written

-- 1 for a symbol below n
abbrev low : ℕ → ℕ → ℕ
low n s = cond (ltb s n) 1 0

-- how many terms have a symbol below n
abbrev lows : ℕ → List Term → ℕ
lows n [] = 0
lows n (x ∷ xs) = low n x.symbol + lows n xs

low_one : (n s : ℕ) → low n s ≤ 1
low_one n s = go (ltb s n)
  where
    go : (b : Bool) → cond {A = ℕ} b 1 0 ≤ 1
    go true = omega arith
    go false = omega arith

low_next : (n s : ℕ) → low n s ≤ low (suc n) s
low_next n s = go (ltb s n) refl
  where
    go : (b : Bool) → ltb s n ≡ b → cond {A = ℕ} b 1 0 ≤ low (suc n) s
    go true h = let l = ltb-true s n h in rw (lt-ltb s (suc n) (omega arith)) (omega arith)
    go false h = omega arith

lows_length : (n : ℕ) (xs : List Term) → lows n xs ≤ length xs
lows_length n [] = omega arith
lows_length n (x ∷ xs) = omega (arith, low_one n x.symbol, lows_length n xs)

lows_next : (n : ℕ) (xs : List Term) → lows n xs ≤ lows (suc n) xs
lows_next n [] = omega arith
lows_next n (x ∷ xs) = omega (arith, low_next n x.symbol, lows_next n xs)

-- a symbol whose exponent is not zero is among the terms
lows_more : (n : ℕ) (xs : List Term) → (exponent n xs ≡ pos 0) ⊎ (lows n xs < lows (suc n) xs)
lows_more n [] = inl refl
lows_more n (x ∷ xs) = go (ℕ_discrete n x.symbol) (lows_more n xs)
  where
    go : Dec (n ≡ x.symbol) → (exponent n xs ≡ pos 0) ⊎ (lows n xs < lows (suc n) xs) → (exponent n (x ∷ xs) ≡ pos 0) ⊎ (lows n (x ∷ xs) < lows (suc n) (x ∷ xs))
    go (yes e) ih = inr (rw (le-ltb x.symbol n (omega arith), lt-ltb x.symbol (suc n) (omega arith)) (omega (arith, lows_next n xs)))
    go (no ne) (inl z) = inl (ap₂ ◌+ℤ◌ (part_other n x ne) z)
    go (no ne) (inr l) = inr (omega (arith, low_next n x.symbol))

power_one : (n : ℕ) (e : ℤ) → length (power n e) ≤ 1
power_one n e = go (is_zero e)
  where
    go : (b : Bool) → length (cond b [] (term n e ∷ [])) ≤ 1
    go true = omega arith
    go false = omega arith

few : (n : ℕ) (xs : List Term) → length (written n (λ s. exponent s xs)) ≤ lows n xs
few zero xs = omega arith
few (suc n) xs = go (lows_more n xs) (few n xs)
  where
    go : (exponent n xs ≡ pos 0) ⊎ (lows n xs < lows (suc n) xs) → length (written n (λ s. exponent s xs)) ≤ lows n xs
        → length (written n (λ s. exponent s xs) ++ power n (exponent n xs)) ≤ lows (suc n) xs
    go (inl z) ih = rw (z, append-nil (written n (λ s. exponent s xs))) (omega (arith, lows_next n xs))
    go (inr l) ih = rw (length-append (written n (λ s. exponent s xs)) (power n (exponent n xs))) (omega (arith, power_one n (exponent n xs)))

-- the exponents of terms, written down, are no more than the terms
pub written_few : (n : ℕ) (xs : List Term) → length (written n (λ s. exponent s xs)) ≤ length xs
written_few n xs = omega (arith, few n xs, lows_length n xs)
