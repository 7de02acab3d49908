-- A print, byte by byte. Assumes nothing.
use Rattle.std.proofs.Common.{◌≡◌, refl, List, [], ◌∷◌, ℕ, ◌+◌, ◌*◌, ◌/◌, ◌%◌, ◌<◌, ◌≤◌, length, get_or, drop, drop_of_length-le, drop-cons, add-one, fold}
use Rattle.chains.specs.Prints.{prints_max, sums_max, spread, mixed, print_of}

-- a sum with one byte more mixed in
abbrev pub mix : ℕ → ℕ → ℕ
mix sum b = (sum + b) * spread % sums_max

pub mixed_is : (sum : ℕ) (l : List ℕ) → mixed sum l ≡ fold mix sum l
unfolding mixed
mixed_is sum [] = refl
mixed_is sum (b ∷ l) = mixed_is (mix sum b) l

pub print_is : (l : List ℕ) (h : ℕ) → mixed 0 l ≡ h → h / (sums_max / prints_max) ≡ print_of l
unfolding print_of
print_is l h e = rw e

-- ---- from an index on

pub mixed_on : (h : ℕ) (l : List ℕ) (i : ℕ) → i < length l → mixed h (drop i l) ≡ mixed ((h + get_or l i 0) * spread % sums_max) (drop (i + 1) l)
unfolding mixed
mixed_on h l i k = rw (drop-cons l i 0 k, add-one i)

pub mixed_end : (h : ℕ) (l : List ℕ) (i : ℕ) → length l ≤ i → mixed h (drop i l) ≡ h
unfolding mixed
mixed_end h l i k = rw (drop_of_length-le l k)
