-- Bytes compared and tested from an index on, one step at a time. Assumes nothing.
use mathlib.Core.Path.{◌≡◌, refl, sym, ◌∙◌, ap}
pub use mathlib.Core.Bool.{and-false as and_false}
use mathlib.Core.Bool.{true, ◌&&◌, and-true, and_assoc}
use mathlib.Core.Logic.{⊎_elim}
use mathlib.Core.List.{List, [], ◌∷◌, ◌++◌}
use Prim.Native.Nat.{ℕ, zero, suc, ◌+◌, ◌-◌, ◌*◌, ◌/◌, ◌%◌, ◌^◌, ◌<◌, ◌≤◌}
use native.Mathlib.Nat.{add-zero, pow-suc, div-one, div-eq_of_lt, div-div-eq-div-mul, sub-zero, not-suc-le-zero, le_of_suc-le-suc, eq-or-lt_of_le}
use native.Mathlib.Omega.{arith}
use lib.ListN.{length, get_or, drop, replicate}
use lib.Bits.{bit_or, or_zero_l, or_add_and, and_le_r}
use lib.Dec.{eqb}
use lib.Pointwise.{pointwise, bytes_decides}
use Rattle.std.specs.List.{fold}
use borrow.Author.Tests.{ne_eqb, eqb-true}
use Rattle.pages.specs.Bytes.{eqs, zeros, word_at, big_endian, number_at}
use Rattle.pages.proofs.Quant.{and_true}

-- what `==` answers at slices of numbers
pub eqs_is : (l m : List ℕ) → pointwise eqb l m ≡ eqs l m
unfolding eqs
eqs_is [] [] = refl
eqs_is [] (y ∷ m) = refl
eqs_is (x ∷ l) [] = refl
eqs_is (x ∷ l) (y ∷ m) = rw (eqs_is l m) refl

-- an OR is 0 where both numbers are
bits_zero : (a b : ℕ) → eqb (bit_or a b) 0 ≡ (eqb a 0 && eqb b 0)
bits_zero zero b = rw (or_zero_l b)
bits_zero (suc a) b =
    let more : bit_or (suc a) b ≡ 0 → ⊥ = λ e. omega (arith, or_add_and (suc a) b, and_le_r (suc a) b) in
    rw (ne_eqb (bit_or (suc a) b) 0 more, ne_eqb (suc a) 0 (λ e. omega arith))

-- the bits of all bytes together
bits_more_of : (a : ℕ) (l : List ℕ) → eqb (fold bit_or a l) 0 ≡ (eqb a 0 && zeros l)
unfolding zeros
bits_more_of a [] = sym (and-true (eqb a 0))
bits_more_of a (x ∷ l) = bits_more_of (bit_or a x) l ∙ rw (bits_zero a x) (and_assoc (eqb a 0) (eqb x 0) (zeros l))

pub bits_of_all : (l : List ℕ) → eqb (fold bit_or 0 l) 0 ≡ zeros l
bits_of_all = bits_more_of 0

pub zeros_append : (l m : List ℕ) → zeros (l ++ m) ≡ (zeros l && zeros m)
unfolding zeros
zeros_append [] m = refl
zeros_append (x ∷ l) m = rw (zeros_append l m) (sym (and_assoc (eqb x 0) (zeros l) (zeros m)))

-- lists that are equal byte for byte are equal
pub eqs_true : (l m : List ℕ) → eqs l m ≡ true → l ≡ m
eqs_true l m e = (bytes_decides l m).0 (eqs_is l m ∙ e)

pub eqs_refl : (l : List ℕ) → eqs l l ≡ true
eqs_refl l = sym (eqs_is l l) ∙ (bytes_decides l l).1 refl

-- a page of zeros
pub zeros_made : (n : ℕ) → zeros (replicate n 0) ≡ true
unfolding zeros
zeros_made zero = refl
zeros_made (suc n) = zeros_made n

pub made_at : (n i : ℕ) → get_or {A = ℕ} (replicate n 0) i 0 ≡ 0
made_at zero i = refl
made_at (suc n) zero = refl
made_at (suc n) (suc i) = made_at n i

-- a list is zeros where each byte is 0
pub zeros_each : (l : List ℕ) → ((i : ℕ) → i < length l → get_or l i 0 ≡ 0) → zeros l ≡ true
unfolding zeros
zeros_each [] h = refl
zeros_each (x ∷ l) h = rw (h 0 (omega arith)) (zeros_each l (λ i k. h (suc i) (omega arith)))

pub zeros_get : (l : List ℕ) (i : ℕ) → zeros l ≡ true → get_or l i 0 ≡ 0
unfolding zeros
zeros_get [] i h = refl
zeros_get (x ∷ l) zero h = eqb-true x 0 (and_true (eqb x 0) (zeros l) h).0
zeros_get (x ∷ l) (suc i) h = zeros_get l i (and_true (eqb x 0) (zeros l) h).1

-- zeros stay zeros from a later index on
pub zeros_drop : (l : List ℕ) (k : ℕ) → zeros l ≡ true → zeros (drop k l) ≡ true
unfolding zeros
zeros_drop l zero h = h
zeros_drop [] (suc k) h = refl
zeros_drop (x ∷ l) (suc k) h = zeros_drop l k (and_true (eqb x 0) (zeros l) h).1

-- ---- numbers in bytes

-- a quotient, and the byte after it
next_byte : (n d : ℕ) → n / (d * 256) * 256 + n / d % 256 ≡ n / d
next_byte n d = rw (← div-div-eq-div-mul n d 256) (omega arith)

get_d_big : (k n i : ℕ) → i < k → get_or (big_endian k n) i 0 ≡ n / 256 ^ (k - 1 - i) % 256
get_d_big zero n i l = absurd (not-suc-le-zero l)
get_d_big (suc k) n zero l = let e : suc k - 1 - 0 ≡ k = omega arith in rw e
get_d_big (suc k) n (suc i) l =
    let e : suc k - 1 - suc i ≡ k - 1 - i = omega arith in
    rw e (get_d_big k n i (le_of_suc-le-suc l))

-- the first k of w bytes that say a number
front : (bytes : List ℕ) (at n w : ℕ) → n < 256 ^ w
    → ((i : ℕ) → i < w → get_or bytes (at + i) 0 ≡ get_or (big_endian w n) i 0) → (k : ℕ) → k ≤ w → number_at bytes at k ≡ n / 256 ^ (w - k)
front bytes at n w h e zero l = sym (rw sub-zero (div-eq_of_lt h))
front bytes at n w h e (suc k) l =
    let m : w - k ≡ suc (w - 1 - k) = omega arith in
    let o : w - suc k ≡ w - 1 - k = omega arith in
    rw (e k l, get_d_big w n k l, front bytes at n w h e k (omega arith), m, pow-suc, o) (next_byte n (256 ^ (w - 1 - k)))

-- the bytes of a number are as many as were asked for
pub big_length : (k n : ℕ) → length (big_endian k n) ≡ k
big_length zero n = refl
big_length (suc k) n = ap suc (big_length k n)

-- equal bytes say equal numbers
pub number_alike : (l m : List ℕ) (a b w : ℕ) → ((i : ℕ) → i < w → get_or l (a + i) 0 ≡ get_or m (b + i) 0) → number_at l a w ≡ number_at m b w
number_alike l m a b zero h = refl
number_alike l m a b (suc w) h = rw (h w (omega arith), number_alike l m a b w (λ i k. h i (omega arith))) refl

-- and equal numbers are said by equal bytes
pub number_same : (l : List ℕ) → ((i : ℕ) → get_or l i 0 < 256) → (a b w : ℕ) → number_at l a w ≡ number_at l b w
    → (i : ℕ) → i < w → get_or l (a + i) 0 ≡ get_or l (b + i) 0
number_same l bytes a b zero e i h = absurd (not-suc-le-zero h)
number_same l bytes a b (suc w) e i h =
    let x = bytes (a + w) in
    let y = bytes (b + w) in
    let front : number_at l a w ≡ number_at l b w = omega arith in
    ⊎_elim (λ (k : i ≡ w). rw k (omega arith)) (λ (k : i < w). number_same l bytes a b w front i k) (eq-or-lt_of_le (le_of_suc-le-suc h))

-- the bytes of a number, read from an index on, say it again
pub number_back : (bytes : List ℕ) (at n w : ℕ) → n < 256 ^ w → ((i : ℕ) → i < w → get_or bytes (at + i) 0 ≡ get_or (big_endian w n) i 0) → number_at bytes at w ≡ n
number_back bytes at n w h e =
    let z : w - w ≡ 0 = omega arith in
    front bytes at n w h e w (omega arith) ∙ rw z (div-one n)

-- one byte is itself, two are a word
pub number_one : (bytes : List ℕ) (at : ℕ) → number_at bytes at 1 ≡ get_or bytes at 0
number_one bytes at = rw add-zero (omega arith)

pub number_two : (bytes : List ℕ) (at : ℕ) → number_at bytes at 2 ≡ word_at bytes at
number_two bytes at = rw add-zero (omega arith)

pub big_one : (n : ℕ) → big_endian 1 n ≡ n % 256 ∷ []
big_one n = rw (div-one n) refl
