-- Taking entries back: what a store was before it grew. Assumes nothing.
use mathlib.Core.Path.{◌≡◌, refl, sym, ◌∙◌, ap}
use mathlib.Core.List.{List, [], ◌∷◌, ◌++◌, append-nil}
use mathlib.Core.Bool.{Bool, true, false}
use Prim.Native.Nat.{ℕ, zero, suc, ◌+◌, ◌-◌, ◌<◌, ◌≤◌}
use native.Mathlib.Nat.{le_refl}
use native.Mathlib.Omega.{arith}
use lib.ListN.{length, get_or, take, drop, replicate, drop_of_length-le, length-append, length-replicate, get_or-append}
use lib.Dec.{eqb, ltb}
use lib.Seq.{ext_get_or, length-take-le, get_or-take, get_or-drop, get_or-append-add}
use borrow.Author.Tests.{eqb-true, ltb-true, ltb-false}
use Rattle.pages.specs.Bytes.{zeros, count_bytes, count_of, put}
use Rattle.pages.proofs.Quant.{and_true}
use Rattle.pages.proofs.Bytes.{made_at}
use Rattle.pages.proofs.Put.{put_length, put_in, put_after}
use Rattle.types.specs.Store.{offset, Formed}
use Rattle.types.specs.Making.{taken_back, Grows}
use Rattle.types.proofs.Placing.{offset_start, offset_le}
use Rattle.types.proofs.Types.{whole, end_inside}
use borrow.Rule.Slice.PartMut.{mid_of, put_mid, mid_len, Post-is}

-- the end of a page, cleared
pub end_cleared : (page r : List ℕ) (end : ℕ) → end ≤ length page → r ≡ replicate (length (mid_of end (length page - end) page)) 0
    → put_mid end (length page - end) page r ≡ take end page ++ replicate (length page - end) 0
end_cleared page r end h e =
    ap (λ (x : List ℕ). take end page ++ x)
    (rw (Post-is end (length page) page h, drop_of_length-le page (le_refl (length page)), append-nil, e, mid_len end (length page) page (le_refl (length page))) refl)

-- zeros are zeros
zeros_at : (l : List ℕ) → zeros l ≡ true → (j : ℕ) → get_or l j 0 ≡ 0
unfolding zeros
zeros_at [] h j = refl
zeros_at (x ∷ l) h zero = eqb-true x 0 (and_true (eqb x 0) (zeros l) h).0
zeros_at (x ∷ l) h (suc j) = zeros_at l (and_true (eqb x 0) (zeros l) h).1 j

-- what grew is what it was
module _ (p q : List ℕ) (f : Formed p) (g : Grows p q) where
  body : List ℕ
  body = take (offset p (count_of p)) q ++ replicate (length q - offset p (count_of p)) 0

  front : List ℕ
  front = get_or p 0 0 ∷ get_or p 1 0 ∷ []

  two : count_bytes ≤ offset p (count_of p)
  two = omega (arith, offset_start p, offset_le p 0 (count_of p) (omega arith))

  cut : length (take (offset p (count_of p)) q) ≡ offset p (count_of p)
  cut = length-take-le (offset p (count_of p)) q (omega (arith, g.size, end_inside p f))

  body_length : length body ≡ length p
  unfolding body
  body_length =
      length-append (take (offset p (count_of p)) q) (replicate (length q - offset p (count_of p)) 0)
      ∙ omega (arith, cut, length-replicate {A = ℕ} (length q - offset p (count_of p)) 0, end_inside p f, g.size)

  body_old : (i : ℕ) → count_bytes ≤ i → i < offset p (count_of p) → get_or body i 0 ≡ get_or p i 0
  unfolding body
  body_old i l h =
      get_or-append (take (offset p (count_of p)) q) (replicate (length q - offset p (count_of p)) 0) 0 i (omega (arith, cut))
      ∙ get_or-take (offset p (count_of p)) q i 0 h ∙ g.same i l h

  body_new : (i : ℕ) → offset p (count_of p) ≤ i → get_or body i 0 ≡ get_or p i 0
  unfolding body
  body_new i h =
      let a : length (take (offset p (count_of p)) q) + (i - offset p (count_of p)) ≡ i = omega (arith, cut) in
      let b : offset p (count_of p) + (i - offset p (count_of p)) ≡ i = omega arith in
      rw a at (get_or-append-add (take (offset p (count_of p)) q) (replicate (length q - offset p (count_of p)) 0) (i - offset p (count_of p)) 0)
      ∙ made_at (length q - offset p (count_of p)) (i - offset p (count_of p))
      ∙ sym (rw b at (sym (get_or-drop (offset p (count_of p)) p (i - offset p (count_of p)) 0)
      ∙ zeros_at (drop (offset p (count_of p)) p) (whole p f.names f.form).clear (i - offset p (count_of p))))

  pub back : taken_back q (get_or p 0 0 ∷ get_or p 1 0 ∷ []) (offset p (count_of p)) ≡ p
  unfolding taken_back body front
  back =
      ext_get_or 0 (put body 0 front) p (put_length body 0 front room ∙ body_length) at_each
    where
      room : 0 + length front ≤ length body
      room = omega (arith, body_length, two, end_inside p f)

      at_each : (i : ℕ) → i < length (put body 0 front) → get_or (put body 0 front) i 0 ≡ get_or p i 0
      at_each zero l = put_in body 0 front room 0 (omega arith)
      at_each (suc zero) l = put_in body 0 front room 1 (omega arith)
      at_each (suc (suc i)) l = put_after body 0 front room (suc (suc i)) (omega arith) ∙ go (ltb (suc (suc i)) (offset p (count_of p))) refl
        where
          go : (x : Bool) → ltb (suc (suc i)) (offset p (count_of p)) ≡ x → get_or body (suc (suc i)) 0 ≡ get_or p (suc (suc i)) 0
          go true e = body_old (suc (suc i)) (omega arith) (ltb-true (suc (suc i)) (offset p (count_of p)) e)
          go false e = body_new (suc (suc i)) (ltb-false (suc (suc i)) (offset p (count_of p)) e)
