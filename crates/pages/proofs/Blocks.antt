-- A list tested for zeros a block at a time. Assumes nothing.
use Rattle.std.proofs.Common.{◌≡◌, refl, sym, ap, ◌∙◌, ℕ, zero, suc, ◌+◌, ◌*◌, ◌&&◌, List, take, drop, [], ◌<◌, length, get_or, take-append-drop, drop-drop, arith}
use Rattle.std.proofs.lemmas.List.{take-take, drop-take, get_or-take, get_or-drop}
use mathlib.Core.Bool.{and_assoc}
use Rattle.std.specs.List.{list_all}
use Rattle.std.specs.Simd.{first_chunks}
use Rattle.pages.specs.Bytes.{zeros}
use Rattle.pages.proofs.Bytes.{zeros_append}

zeros_split : (l : List ℕ) (i : ℕ) → (zeros (take i l) && zeros (drop i l)) ≡ zeros l
zeros_split l i = sym (zeros_append (take i l) (drop i l)) ∙ ap zeros (take-append-drop i l)

-- k blocks of n bytes, and what is after them
zeros_blocks : (n k : ℕ) (l : List ℕ) → (list_all zeros (first_chunks n k l) && zeros (drop (k * n) l)) ≡ zeros l
zeros_blocks n zero l = let e : zero * n ≡ 0 = omega arith in rw e refl
zeros_blocks n (suc k) l =
    let e : suc k * n ≡ n + k * n = omega arith in
    and_assoc (zeros (take n l)) (list_all zeros (first_chunks n k (drop n l))) (zeros (drop (suc k * n) l))
    ∙ rw (e, ← drop-drop (k * n) n l, zeros_blocks n k (drop n l)) (zeros_split l n)

-- a list cut into blocks and a rest
pub zeros_cut : (l : List ℕ) (blocks : List (List ℕ)) (rest : List ℕ) (k : ℕ) → blocks ≡ first_chunks 256 k l → rest ≡ drop (k * 256) l → (list_all zeros blocks && zeros rest) ≡ zeros l
zeros_cut l blocks rest k b r = rw (b, r) (zeros_blocks 256 k l)

-- ---- what stands in the blocks

-- there are k of them
pub length_blocks : (n k : ℕ) (l : List ℕ) → length (first_chunks n k l) ≡ k
length_blocks n zero l = refl
length_blocks n (suc k) l = ap suc (length_blocks n k (drop n l))

-- they lie within the first n * k bytes
pub blocks_taken : (n k : ℕ) (l : List ℕ) → first_chunks n k (take (n * k) l) ≡ first_chunks n k l
blocks_taken n zero l = refl
blocks_taken n (suc k) l =
    let e : n * suc k ≡ n + n * k = omega arith in
    rw (e, take-take n (n + n * k) l (omega arith), drop-take n (n * k) l, blocks_taken n k (drop n l)) refl

-- byte j of block i
pub block_at : (n k i j : ℕ) (l : List ℕ) → i < k → j < n → get_or (get_or (first_chunks n k l) i []) j 0 ≡ get_or l (n * i + j) 0
block_at n zero i j l h m = absurd (omega (arith, h))
block_at n (suc k) zero j l h m = get_or-take n l j 0 m ∙ ap (λ (p : ℕ). get_or l p 0) (omega arith)
block_at n (suc k) (suc i) j l h m = block_at n k i j (drop n l) (omega (arith, h)) m ∙ get_or-drop n l (n * i + j) 0 ∙ ap (λ (p : ℕ). get_or l p 0) (omega arith)
