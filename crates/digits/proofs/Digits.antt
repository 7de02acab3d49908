-- A number in decimal, by how many digits it has: one law for each return of `decimal`. Assumes nothing.
use mathlib.Core.Path.{◌≡◌, sym, ◌∙◌}
use mathlib.Core.List.{[], ◌∷◌, ◌++◌}
use Prim.Native.Nat.{ℕ, suc, ◌/◌, ◌%◌, ◌<◌, ◌≤◌}
use native.Mathlib.Decide.{dec_lt}
use native.Mathlib.Omega.{arith}
use lib.ListN.{length}
use borrow.Author.Tests.{lt-ltb, le-ltb}
use Rattle.digits.specs.Decimal.{decimal_max, digit_of, digits, decimal_of}

-- ---- by how many digits there is room for

one_digit : (k n : ℕ) → n < 10 → digits (suc k) n ≡ digit_of n ∷ []
unfolding digits
one_digit k n h = rw (lt-ltb n 10 h)

more_digits : (k n : ℕ) → 10 ≤ n → digits (suc k) n ≡ digits k (n / 10) ++ (digit_of (n % 10) ∷ [])
unfolding digits
more_digits k n h = rw (le-ltb n 10 h)

two_digits : (k n : ℕ) → 10 ≤ n → n < 100 → digits (suc (suc k)) n ≡ digit_of (n / 10) ∷ digit_of (n % 10) ∷ []
two_digits k n a h = more_digits (suc k) n a ∙ rw (one_digit k (n / 10) (omega arith))

three_digits : (k n : ℕ) → 100 ≤ n → n < 1000 → digits (suc (suc (suc k))) n ≡ digit_of (n / 100) ∷ digit_of (n / 10 % 10) ∷ digit_of (n % 10) ∷ []
three_digits k n a h =
    let e : n / 10 / 10 ≡ n / 100 = omega arith in
    more_digits (suc (suc k)) n (omega arith) ∙ rw (two_digits k (n / 10) (omega arith) (omega arith), e)

four_digits : (k n : ℕ) → 1000 ≤ n → n < 10000 → digits (suc (suc (suc (suc k)))) n ≡ digit_of (n / 1000) ∷ digit_of (n / 100 % 10) ∷ digit_of (n / 10 % 10) ∷ digit_of (n % 10) ∷ []
four_digits k n a h =
    let e : n / 10 / 100 ≡ n / 1000 = omega arith in
    let f : n / 10 / 10 ≡ n / 100 = omega arith in
    more_digits (suc (suc (suc k))) n (omega arith) ∙ rw (three_digits k (n / 10) (omega arith) (omega arith), e, f)

-- ---- a number

module _ (n : ℕ) where
  pub decimal_1 : n < 10 → digit_of n ∷ [] ≡ decimal_of n
  unfolding decimal_of
  decimal_1 h = sym (one_digit 4 n h)

  pub decimal_2 : 10 ≤ n → n < 100 → digit_of (n / 10) ∷ digit_of (n % 10) ∷ [] ≡ decimal_of n
  unfolding decimal_of
  decimal_2 a h = sym (two_digits 3 n a h)

  pub decimal_3 : 100 ≤ n → n < 1000 → digit_of (n / 100) ∷ digit_of (n / 10 % 10) ∷ digit_of (n % 10) ∷ [] ≡ decimal_of n
  unfolding decimal_of
  decimal_3 a h = sym (three_digits 2 n a h)

  pub decimal_4 : 1000 ≤ n → n < 10000 → digit_of (n / 1000) ∷ digit_of (n / 100 % 10) ∷ digit_of (n / 10 % 10) ∷ digit_of (n % 10) ∷ [] ≡ decimal_of n
  unfolding decimal_of
  decimal_4 a h = sym (four_digits 1 n a h)

  pub decimal_5 : 10000 ≤ n → n < decimal_max → digit_of (n / 10000) ∷ digit_of (n / 1000 % 10) ∷ digit_of (n / 100 % 10) ∷ digit_of (n / 10 % 10) ∷ digit_of (n % 10) ∷ [] ≡ decimal_of n
  unfolding decimal_of
  decimal_5 a h =
      let e : n / 10 / 1000 ≡ n / 10000 = omega arith in
      let f : n / 10 / 100 ≡ n / 1000 = omega arith in
      let g : n / 10 / 10 ≡ n / 100 = omega arith in
      sym (more_digits 4 n (omega arith) ∙ rw (four_digits 0 (n / 10) (omega arith) (omega arith), e, f, g))

  -- an exponent has four digits at most
  pub decimal_short : n < 10000 → length (decimal_of n) ≤ 4
  decimal_short h =
      elim (dec_lt n 10) [
        | yes a ↦ rw (← decimal_1 a) (omega arith)
        | no a ↦ elim (dec_lt n 100) [
          | yes b ↦ rw (← decimal_2 (omega arith) b) (omega arith)
          | no b ↦ elim (dec_lt n 1000) [
            | yes d ↦ rw (← decimal_3 (omega arith) d) (omega arith)
            | no d ↦ rw (← decimal_4 (omega arith) h) (omega arith)
          ]
        ]
      ]
