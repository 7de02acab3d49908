-- Numbers as their lowest bytes. Assumes nothing.
use mathlib.Core.Path.{◌≡◌, refl, ap, ap₂}
use mathlib.Core.List.{List, [], ◌∷◌}
use Prim.Native.Nat.{ℕ, zero, suc, ◌%◌, ◌<◌}
use native.Mathlib.Nat.{mod-eq_of_lt, not-suc-le-zero, le_of_suc-le-suc}
use native.Mathlib.Omega.{arith}
use lib.ListN.{length, get_or}
use Rattle.pages.specs.Bytes.{low_bytes}

pub low_length : (ns : List ℕ) → length (low_bytes ns) ≡ length ns
unfolding low_bytes
low_length [] = refl
low_length (n ∷ ns) = ap suc (low_length ns)

pub low_at : (ns : List ℕ) (i : ℕ) → i < length ns → get_or (low_bytes ns) i 0 ≡ get_or ns i 0 % 256
unfolding low_bytes
low_at [] i h = absurd (not-suc-le-zero h)
low_at (n ∷ ns) zero h = refl
low_at (n ∷ ns) (suc i) h = low_at ns i (le_of_suc-le-suc h)

-- bytes are their own lowest bytes
pub low_same : (ns : List ℕ) → ((i : ℕ) → i < length ns → get_or ns i 0 < 256) → low_bytes ns ≡ ns
unfolding low_bytes
low_same [] h = refl
low_same (n ∷ ns) h = ap₂ (λ (x : ℕ) (xs : List ℕ). x ∷ xs) (mod-eq_of_lt (h 0 (omega arith))) (low_same ns (λ i l. h (suc i) (omega arith)))
