-- A list in an array of n places: how it grows, and how bytes put into zeros make one. Assumes nothing.
use mathlib.Core.Path.{◌≡◌, refl, sym, ◌∙◌, ap}
use mathlib.Core.List.{List, [], ◌∷◌, ◌++◌}
use Prim.Native.Nat.{ℕ, zero, suc, ◌≤◌, ◌<◌}
use native.Mathlib.Nat.{le_of_suc-le-suc, not-suc-le-zero, zero-add}
use native.Mathlib.Omega.{arith}
use lib.ListN.{length, get_or, set, take, drop, replicate, length-take}
use lib.Seq.{take-length, get_or-take, ext_get_or}
use Rattle.pages.specs.Bytes.{put}
use Rattle.pages.specs.Pad.{pad}

-- an element more, at the place after the last
pub pad_more : {A : Type 0} (n : ℕ) (d : A) (xs : List A) (v : A) → length xs < n → set (pad n d xs) (length xs) v ≡ pad n d (xs ++ (v ∷ []))
unfolding pad
pad_more zero d xs v h = absurd (not-suc-le-zero h)
pad_more (suc n) d [] v h = refl
pad_more (suc n) d (x ∷ xs) v h = ap (λ l. x ∷ l) (pad_more n d xs v (le_of_suc-le-suc h))

-- no place is left
pub pad_full : {A : Type 0} (n : ℕ) (d : A) (xs ys : List A) → n ≤ length xs → pad n d xs ≡ pad n d (xs ++ ys)
unfolding pad
pad_full zero d xs ys h = refl
pad_full (suc n) d [] ys h = absurd (not-suc-le-zero h)
pad_full (suc n) d (x ∷ xs) ys h = ap (λ l. x ∷ l) (pad_full n d xs ys (le_of_suc-le-suc h))

pub length_pad : {A : Type 0} (n : ℕ) (d : A) (xs : List A) → length (pad n d xs) ≡ n
unfolding pad
length_pad zero d xs = refl
length_pad (suc n) d [] = ap suc (length_pad n d [])
length_pad (suc n) d (x ∷ xs) = ap suc (length_pad n d xs)

pub get_d_pad : {A : Type 0} (n : ℕ) (d : A) (xs : List A) (k : ℕ) → k < n → get_or (pad n d xs) k d ≡ get_or xs k d
unfolding pad
get_d_pad zero d xs k h = absurd (not-suc-le-zero h)
get_d_pad (suc n) d [] zero h = refl
get_d_pad (suc n) d [] (suc k) h = get_d_pad n d [] k (le_of_suc-le-suc h)
get_d_pad (suc n) d (x ∷ xs) zero h = refl
get_d_pad (suc n) d (x ∷ xs) (suc k) h = get_d_pad n d xs k (le_of_suc-le-suc h)

pub pad_none : (n : ℕ) → pad {A = ℕ} n 0 [] ≡ replicate n 0
unfolding pad
pad_none zero = refl
pad_none (suc n) = ap (λ l. 0 ∷ l) (pad_none n)

behind : (n : ℕ) (xs : List ℕ) → length xs ≤ n → xs ++ drop (length xs) (replicate n 0) ≡ pad n 0 xs
unfolding pad
behind zero [] h = refl
behind zero (x ∷ xs) h = absurd (not-suc-le-zero h)
behind (suc n) [] h = ap (λ l. 0 ∷ l) (sym (pad_none n))
behind (suc n) (x ∷ xs) h = ap (λ l. x ∷ l) (behind n xs (le_of_suc-le-suc h))

-- bytes put at the front of zeros
pub put_pad : (n : ℕ) (xs : List ℕ) → length xs ≤ n → put (replicate n 0) 0 xs ≡ pad n 0 xs
put_pad n xs h = rw (take-length xs, zero-add) (behind n xs h)

-- as many places as the list has elements hold the list
pub pad_front : (n : ℕ) (xs : List ℕ) (k : ℕ) → length xs ≡ k → k ≤ n → take k (pad n 0 xs) ≡ xs
pad_front n xs k e h =
    let l : length (take k (pad n 0 xs)) ≡ length xs = simp (length-take, length_pad) (omega arith) in
    ext_get_or 0 (take k (pad n 0 xs)) xs l (λ i b. get_or-take k (pad n 0 xs) i 0 (omega (arith, l)) ∙ get_d_pad n 0 xs i (omega (arith, l)))
