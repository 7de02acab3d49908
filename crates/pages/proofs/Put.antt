-- Bytes put into a page: what stands there then, and that every other byte is as before.
-- Assumes nothing.
use mathlib.Core.Path.{◌≡◌, sym, ◌∙◌, ap}
use mathlib.Core.List.{List, [], ◌∷◌, ◌++◌, append_assoc, append-nil}
use Prim.Native.Nat.{ℕ, ◌+◌, ◌-◌, ◌<◌, ◌≤◌}
use native.Mathlib.Omega.{arith}
use native.Mathlib.Nat.{le_refl}
use native.Mathlib.Numerals.{add-one}
use lib.ListN.{length, get_or, take, drop, set, length-append, get_or-append, drop_of_length-le}
use lib.Seq.{take-length, length-take-le, length-paste, take-paste, drop-paste, drop-drop, drop_at, take_at, get_or-take, get_or-drop, take-suc, append_snoc, set_at, paste-zero}
use Rattle.pages.specs.Bytes.{put}

module _ (l : List ℕ) (at : ℕ) (bs : List ℕ) (fits : at + length bs ≤ length l) where
  pub put_length : length (put l at bs) ≡ length l
  put_length = length-paste l at bs (length bs) fits (le_refl (length bs))

  -- the three parts
  split : put l at bs ≡ take at l ++ (bs ++ drop (at + length bs) l)
  split = rw (take-length bs, append_assoc)

  front : length (take at l) ≡ at
  front = length-take-le at l (omega arith)

  pub put_before : (i : ℕ) → i < at → get_or (put l at bs) i 0 ≡ get_or l i 0
  put_before i h = rw split (get_or-append (take at l) (bs ++ drop (at + length bs) l) 0 i (rw front h) ∙ get_or-take at l i 0 h)

  pub put_at : drop at (put l at bs) ≡ bs ++ drop (at + length bs) l
  put_at = rw split (drop_at (take at l) (bs ++ drop (at + length bs) l) at front)

  pub put_part : (k : ℕ) → length bs ≡ k → take k (drop at (put l at bs)) ≡ bs
  put_part k e = rw put_at (take_at bs (drop (at + length bs) l) k e)

  -- the front of the page as far as the bytes go
  pub put_front : take (at + length bs) (put l at bs) ≡ take at l ++ bs
  put_front =
      let e : length (take at l ++ bs) ≡ at + length bs = length-append (take at l) bs ∙ rw front in
      ap (take (at + length bs)) (split ∙ sym (append_assoc (take at l) bs (drop (at + length bs) l))) ∙ take_at (take at l ++ bs) (drop (at + length bs) l) (at + length bs) e

  pub put_in : (i : ℕ) → i < length bs → get_or (put l at bs) (at + i) 0 ≡ get_or bs i 0
  put_in i h = sym (get_or-drop at (put l at bs) i 0) ∙ rw put_at (get_or-append bs (drop (at + length bs) l) 0 i h)

  pub put_drop : (m : ℕ) → at + length bs ≤ m → drop m (put l at bs) ≡ drop m l
  put_drop m h =
      let k = m - (at + length bs) in
      let e : m ≡ at + length bs + k = omega arith in
      rw e (sym (drop-drop k (at + length bs) (put l at bs)) ∙ ap (drop k) (drop-paste l at bs (length bs) (omega arith) (le_refl (length bs))) ∙ drop-drop k (at + length bs) l)

  pub put_after : (i : ℕ) → at + length bs ≤ i → get_or (put l at bs) i 0 ≡ get_or l i 0
  put_after i h =
      let k = i - (at + length bs) in
      let e : i ≡ at + length bs + k = omega arith in
      rw e (sym (get_or-drop (at + length bs) (put l at bs) k 0) ∙ ap (λ (r : List ℕ). get_or r k 0) (put_drop (at + length bs) (le_refl (at + length bs))) ∙ get_or-drop (at + length bs) l k 0)

-- ---- a store just before the bytes

pub put_cons : (l : List ℕ) (at x : ℕ) (bs : List ℕ) → at + 1 + length bs ≤ length l → set (put l (at + 1) bs) at x ≡ put l at (x ∷ bs)
put_cons l at x bs h =
    let rest = bs ++ drop (at + 1 + length bs) l in
    let e : at + length (x ∷ bs) ≡ at + 1 + length bs = omega arith in
    let f : length (take at l) ≡ at = length-take-le at l (omega arith) in
    let t : take (at + 1) l ≡ take at l ++ (get_or l at 0 ∷ []) = rw add-one (take-suc l at 0 (omega arith)) in
    ap (λ (r : List ℕ). set r at x) (split l (at + 1) bs h ∙ ap (λ (r : List ℕ). r ++ rest) t ∙ append_snoc (take at l) (get_or l at 0) rest)
    ∙ set_at (take at l) (get_or l at 0) rest x at f
    ∙ sym (split l at (x ∷ bs) (omega arith) ∙ rw e)

-- ---- one text after another

pub put_none : (l : List ℕ) (at : ℕ) → put l at [] ≡ l
put_none l at = sym (paste-zero l at [])

pub put_append : (l : List ℕ) (at : ℕ) (cs bs : List ℕ) → at + length cs + length bs ≤ length l → put (put l at cs) (at + length cs) bs ≡ put l at (cs ++ bs)
put_append l at cs bs h =
    let r = at + length cs in
    let fits : r ≤ length l = omega arith in
    let e : r + length bs ≡ at + length (cs ++ bs) = rw (length-append cs bs) (omega arith) in
    let t : take r (put l at cs) ≡ take at l ++ cs = take-paste l at cs (length cs) (omega arith) (le_refl (length cs)) ∙ rw (take-length cs) in
    let d : drop (r + length bs) (put l at cs) ≡ drop (r + length bs) l = put_drop l at cs fits (r + length bs) (omega arith) in
    let m : take r (put l at cs) ++ (bs ++ drop (r + length bs) (put l at cs)) ≡ take at l ++ ((cs ++ bs) ++ drop (at + length (cs ++ bs)) l) = rw (t, d, ← e) (simp append_assoc) in
    split (put l at cs) r bs (rw (put_length l at cs fits) h) ∙ m ∙ sym (split l at (cs ++ bs) (rw (← e) h))

-- bytes put over the whole page
pub put_whole : (l bs : List ℕ) → length bs ≡ length l → put l 0 bs ≡ bs
put_whole l bs e =
    let d : drop (0 + length bs) l ≡ [] = let h : length l ≤ 0 + length bs = omega arith in drop_of_length-le l h in
    put_at l 0 bs (omega arith) ∙ rw (d, append-nil)
