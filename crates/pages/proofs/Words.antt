-- Numbers of two bytes each, written one after another and read again. Assumes nothing.
use mathlib.Core.Path.{◌≡◌, refl, sym, ◌∙◌, ap}
use mathlib.Core.Bool.{Bool, true, false}
use mathlib.Core.List.{List, [], ◌∷◌, ◌++◌}
use Prim.Native.Nat.{ℕ, zero, suc, ◌+◌, ◌-◌, ◌*◌, ◌<◌, ◌≤◌}
use native.Mathlib.Nat.{not-suc-le-zero, le_of_suc-le-suc, div-add-mod'}
use native.Mathlib.Numerals.{add-one}
use native.Mathlib.Omega.{arith}
use lib.Dec.{ltb}
use lib.ListN.{length, get_or, take}
use lib.Seq.{take-suc, length-take-le, ext_get_or}
use borrow.Author.Tests.{ltb-true, ltb-false}
use Rattle.pages.specs.Bytes.{word_bytes, word_at, bytes_of, words, words_at, put}
use Rattle.pages.proofs.Bytes.{number_same, number_two}
use Rattle.pages.proofs.Put.{put_none, put_append, put_in}

-- ---- in bytes

pub words_length : (ns : List ℕ) → length (words ns) ≡ word_bytes * length ns
unfolding words
words_length [] = refl
words_length (n ∷ ns) = rw (words_length ns) (omega arith)

words_append : (ms ns : List ℕ) → words (ms ++ ns) ≡ words ms ++ words ns
unfolding words
words_append [] ns = refl
words_append (m ∷ ms) ns = rw (words_append ms ns) refl

pub words_at_lem : (ns : List ℕ) (i : ℕ) → i < length ns → word_at (words ns) (word_bytes * i) ≡ get_or ns i 0
unfolding words
words_at_lem [] i h = absurd (not-suc-le-zero h)
words_at_lem (n ∷ ns) zero h = div-add-mod' n 256
words_at_lem (n ∷ ns) (suc i) h =
    let a : word_bytes * suc i ≡ suc (suc (word_bytes * i)) = omega arith in
    let b : suc (suc (word_bytes * i)) + 1 ≡ suc (suc (word_bytes * i + 1)) = omega arith in
    rw (a, b) (words_at_lem ns i (le_of_suc-le-suc h))

-- words that are equal have equal bytes
word_same : (l : List ℕ) → ((i : ℕ) → get_or l i 0 < 256) → (a b : ℕ) → word_at l a ≡ word_at l b → (i : ℕ) → i < word_bytes → get_or l (a + i) 0 ≡ get_or l (b + i) 0
word_same l bytes a b w = number_same l bytes a b word_bytes (number_two l a ∙ w ∙ sym (number_two l b))

pub words_same : (l : List ℕ) → ((i : ℕ) → get_or l i 0 < 256) → (a b n : ℕ)
    → ((j : ℕ) → j < n → word_at l (a + word_bytes * j) ≡ word_at l (b + word_bytes * j)) → (i : ℕ) → i < word_bytes * n → get_or l (a + i) 0 ≡ get_or l (b + i) 0
words_same l bytes a b zero h i k = absurd (omega arith)
words_same l bytes a b (suc n) h i k =
    go (ltb i (word_bytes * n)) refl (words_same l bytes a b n (λ j m. h j (omega arith)) i)
  where
    go : (x : Bool) → ltb i (word_bytes * n) ≡ x → (i < word_bytes * n → get_or l (a + i) 0 ≡ get_or l (b + i) 0) → get_or l (a + i) 0 ≡ get_or l (b + i) 0
    go true e before = before (ltb-true i (word_bytes * n) e)
    go false e before =
        let m = ltb-false i (word_bytes * n) e in
        let p : a + word_bytes * n + (i - word_bytes * n) ≡ a + i = omega arith in
        let q : b + word_bytes * n + (i - word_bytes * n) ≡ b + i = omega arith in
        rw (p, q) at (word_same l bytes (a + word_bytes * n) (b + word_bytes * n) (h n (omega arith)) (i - word_bytes * n) (omega arith))

-- ---- written one after another from an index on

module _ (l : List ℕ) (at : ℕ) (ns : List ℕ) (room : at + word_bytes * length ns ≤ length l) where
  pub words_none : l ≡ put l at (words (take 0 ns))
  unfolding words
  words_none = sym (put_none l at)

  pub words_more : (i : ℕ) → i < length ns
      → put (put l at (words (take i ns))) (at + word_bytes * i) (bytes_of (get_or ns i 0)) ≡ put l at (words (take (i + 1) ns))
  unfolding words
  words_more i h =
      let k : length (words (take i ns)) ≡ word_bytes * i = words_length (take i ns) ∙ ap (λ (x : ℕ). word_bytes * x) (length-take-le i ns (omega arith)) in
      let e : take (i + 1) ns ≡ take i ns ++ (get_or ns i 0 ∷ []) = rw add-one (take-suc ns i 0 h) in
      let f : words (take (i + 1) ns) ≡ words (take i ns) ++ bytes_of (get_or ns i 0) = ap words e ∙ words_append (take i ns) (get_or ns i 0 ∷ []) in
      rw (f, ← k) (put_append l at (words (take i ns)) (bytes_of (get_or ns i 0)) (omega (arith, k)))

-- ---- read from an index on

pub read_length : (l : List ℕ) (at n : ℕ) → length (words_at l at n) ≡ n
unfolding words_at
read_length l at zero = refl
read_length l at (suc n) = ap suc (read_length l (at + word_bytes) n)

pub read_each : (l : List ℕ) (at n i : ℕ) → i < n → get_or (words_at l at n) i 0 ≡ word_at l (at + word_bytes * i)
unfolding words_at
read_each l at zero i h = absurd (not-suc-le-zero h)
read_each l at (suc n) zero h = let e : at + word_bytes * 0 ≡ at = omega arith in rw e refl
read_each l at (suc n) (suc i) h =
    let e : at + word_bytes * suc i ≡ at + word_bytes + word_bytes * i = omega arith in
    rw e (read_each l (at + word_bytes) n i (le_of_suc-le-suc h))

-- numbers that were written are read again

pub words_back : (l : List ℕ) (at : ℕ) (ns : List ℕ) → at + word_bytes * length ns ≤ length l → words_at (put l at (words ns)) at (length ns) ≡ ns
words_back l at ns room = ext_get_or 0 (words_at page at (length ns)) ns k (λ i h. each i (omega (arith, k, h)))
  where
    page : List ℕ
    page = put l at (words ns)

    k : length (words_at page at (length ns)) ≡ length ns
    k = read_length page at (length ns)

    w : length (words ns) ≡ word_bytes * length ns
    w = words_length ns

    each : (i : ℕ) → i < length ns → get_or (words_at page at (length ns)) i 0 ≡ get_or ns i 0
    each i h =
        let e : at + word_bytes * i + 1 ≡ at + (word_bytes * i + 1) = omega arith in
        let a : get_or page (at + word_bytes * i) 0 ≡ get_or (words ns) (word_bytes * i) 0 = put_in l at (words ns) (omega (arith, w)) (word_bytes * i) (omega (arith, w)) in
        let b : get_or page (at + (word_bytes * i + 1)) 0 ≡ get_or (words ns) (word_bytes * i + 1) 0 =
        put_in l at (words ns) (omega (arith, w)) (word_bytes * i + 1) (omega (arith, w)) in
        read_each page at (length ns) i h ∙ rw (e, a, b) (words_at_lem ns i h)
