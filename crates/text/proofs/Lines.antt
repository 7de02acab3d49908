-- Both sides of the line: that they fit a text, and one law for each return of `write_line`. Assumes nothing.
use mathlib.Core.Path.{◌≡◌, refl, ◌∙◌}
use mathlib.Core.Logic.{∥∥₁_elim}
use mathlib.Core.Bool.{Bool, true, false, cond, not}
use mathlib.Core.List.{List, [], ◌∷◌, ◌++◌}
use Prim.Native.Nat.{ℕ, suc, ◌+◌, ◌*◌, ◌≤◌}
use native.Mathlib.Omega.{arith}
use native.Mathlib.Nat.{zero-add}
use lib.ListN.{length, length-append}
use lib.Signed.{non_neg}
use Rattle.std.proofs.Props.{props}
use Rattle.pages.specs.Bytes.{put}
use Rattle.units.specs.Unit.{places_max, Term}
use Rattle.units.specs.Calls.{terms_of}
use Rattle.units.specs.declared.Unit.{Unit}
use Rattle.units.proofs.Form.{length_terms}
use Rattle.digits.proofs.Wrote.{Wrote, spelled, wrote_both}
use Rattle.names.specs.Table.{formed}
use Rattle.text.specs.Text.{side, or_one, line_of}
use Rattle.text.specs.Calls.{power_max, text_max, count_on, Writable}
use Rattle.text.proofs.Sides.{Sound, side_short}

-- what a line keeps of its unit, taken out
pub writable_by : {page : List ℕ} {v : Unit} → ∥ Writable page v ∥₁ → Writable page v
writable_by t = record {
  few = ∥∥₁_elim t (hlevel props) (λ w. w.few);
  used = ∥∥₁_elim t (hlevel props) (λ w. w.used);
  inside = ∥∥₁_elim t (hlevel props) (λ w. w.inside);
}

-- every term stands on one side
count_both : (xs : List Term) → count_on true xs + count_on false xs ≡ length xs
count_both [] = refl
count_both (x ∷ xs) = go (non_neg x.exp) (count_both xs)
  where
    go : (b : Bool) → count_on true xs + count_on false xs ≡ length xs → (cond b 1 0 + count_on true xs) + (cond (not b) 1 0 + count_on false xs) ≡ suc (length xs)
    go true h = omega arith
    go false h = omega arith

-- ---- `1` where nothing stands above the line

empty : (t : List ℕ) → length t ≡ 0 → t ≡ []
empty [] h = refl
empty (x ∷ t) h = absurd (omega arith)

some : (t : List ℕ) → (length t ≡ 0 → ⊥) → or_one t ≡ t
some [] h = absurd (h refl)
some (x ∷ t) h = refl

or_one_short : (t : List ℕ) → length (or_one t) ≤ 1 + length t
or_one_short [] = omega arith
or_one_short (x ∷ t) = omega arith

module _ (page : List ℕ) (v : Unit) (form : formed page ≡ true) (w : Writable page v) where
  sound : Sound page (terms_of v)
  sound = record { used = w.used; inside = w.inside }

  few : count_on true (terms_of v) + count_on false (terms_of v) ≤ places_max
  few = omega (arith, count_both (terms_of v), length_terms v.count 0 v.symbols v.exponents, w.few)

  above_short : length (side page true (terms_of v)) ≤ power_max * count_on true (terms_of v)
  above_short = side_short page true form (terms_of v) sound

  below_short : length (side page false (terms_of v)) ≤ power_max * count_on false (terms_of v)
  below_short = side_short page false form (terms_of v) sound

  -- ---- there is room for each part

  module _ (n : ℕ) (h : text_max ≤ n) where
    pub room_above : 0 + power_max * count_on true (terms_of v) ≤ n
    room_above = omega (arith, few)

    pub room_one : (b : ℕ) → b ≡ 1 → b + power_max * count_on false (terms_of v) ≤ n
    room_one b e = omega (arith, few)

    pub room_below : (a : ℕ) → a ≡ 0 + length (side page true (terms_of v)) → a + power_max * count_on false (terms_of v) ≤ n
    room_below a e = omega (arith, few, above_short)

  pub line_short : length (line_of page (terms_of v)) ≤ text_max
  unfolding line_of
  line_short =
      omega
      (arith, few, above_short, below_short, or_one_short (side page true (terms_of v)), length-append (or_one (side page true (terms_of v))) (side page false (terms_of v)))

  -- ---- the line

  module _ (o : List ℕ) (h : text_max ≤ length o) (a : ℕ) (p : List ℕ) (x : Wrote o 0 (side page true (terms_of v)) a p) where
    line_is : (r : ℕ) (z : List ℕ) → Wrote o 0 (or_one (side page true (terms_of v)) ++ side page false (terms_of v)) r z → (r ≡ length (line_of page (terms_of v))) × (z ≡ put o 0 (line_of page (terms_of v)))
    unfolding line_of
    line_is r z k = (k.0 ∙ zero-add _, k.1)

    pub line_one : (b : ℕ) (q : List ℕ) (r : ℕ) (z : List ℕ) → a ≡ 0 → Wrote p a (49 ∷ []) b q → Wrote q b (side page false (terms_of v)) r z → (r ≡ length (line_of page (terms_of v))) × (z ≡ put o 0 (line_of page (terms_of v)))
    line_one b q r z n y k =
        let e : side page true (terms_of v) ≡ [] = empty (side page true (terms_of v)) (omega (arith, x.0)) in
        let x1 : Wrote o 0 [] a p = spelled o 0 (side page true (terms_of v)) [] a p e x in
        let y1 : Wrote o 0 (49 ∷ []) b q = wrote_both o 0 [] a p (49 ∷ []) b q (omega arith) x1 y in
        let k1 : Wrote o 0 ((49 ∷ []) ++ side page false (terms_of v)) r z = wrote_both o 0 (49 ∷ []) b q (side page false (terms_of v)) r z (omega (arith, few, below_short)) y1 k in
        line_is r z (spelled o 0 ((49 ∷ []) ++ side page false (terms_of v)) (or_one (side page true (terms_of v)) ++ side page false (terms_of v)) r z (rw e) k1)

    pub line_more : (r : ℕ) (z : List ℕ) → (a ≡ 0 → ⊥) → Wrote p a (side page false (terms_of v)) r z → (r ≡ length (line_of page (terms_of v))) × (z ≡ put o 0 (line_of page (terms_of v)))
    line_more r z n k =
        let e : or_one (side page true (terms_of v)) ≡ side page true (terms_of v) = some (side page true (terms_of v)) (λ l. n (omega (arith, x.0))) in
        let k1 : Wrote o 0 (side page true (terms_of v) ++ side page false (terms_of v)) r z = wrote_both o 0 (side page true (terms_of v)) a p (side page false (terms_of v)) r z (omega (arith, few, above_short, below_short)) x k in
        line_is r z (spelled o 0 (side page true (terms_of v) ++ side page false (terms_of v)) (or_one (side page true (terms_of v)) ++ side page false (terms_of v)) r z (rw e) k1)
