-- SI Brochure 2.3.3: the exponent of each symbol in a product is the sum of its exponents in the two units, and in a quotient
-- the difference (`si`); the computed merge is that product (`merge_product`); and a product within the limits is a unit in form
-- (`product_formed`). For any number of places, and of symbols. Assumes nothing.
use mathlib.Core.Path.{◌≡◌, refl, sym, ap, ap₂, subst, ◌∙◌}
use mathlib.Core.Logic.{⊎_elim}
use mathlib.Core.Bool.{Bool, true, false}
use mathlib.Core.List.{List, [], ◌∷◌, ◌++◌}
use Prim.Native.Nat.{ℕ, zero, suc, ◌≤◌, ◌<◌}
use native.Mathlib.Decide.{dec_lt}
use native.Mathlib.Nat.{not-suc-le-zero, le_of_suc-le-suc, eq-or-lt_of_le}
use native.Mathlib.Omega.{arith}
use lib.Dec.{eqb}
use lib.ListN.{length}
use lib.IntN.{ℤ, pos, ◌+ℤ◌, +ℤ_idl, +ℤ_idr, +ℤ_assoc}
use borrow.Author.Tests.{le-leb}
use Rattle.units.specs.Unit.{Term, term, formed, ordered, part, exponent}
use Rattle.units.specs.Product.{combine, exponents, power, written, any_outside, product_of}
use Rattle.units.specs.Merge.{turned, joined, merge}
use Rattle.units.proofs.Tested.{exponent_by, joined_sum, merged_sum}
use Rattle.units.proofs.Order.{Asc, asc_none, asc_more, head_low, head_nonzero, tail_of, joined_asc, merge_asc, turned_none, ordered_asc, asc_ordered, unique, part_same, part_other, Within, within_more, written_within, ordered_within}

-- ---- the merge adds exponents

joined_exponent : (s t : ℕ) (e : ℤ) (l : List Term) → exponent s (joined t e l) ≡ part s (term t e) +ℤ exponent s l
joined_exponent s t e l =
    exponent_by s (joined t e l) ∙ joined_sum (eqb s) t e l ∙ ap (λ z. part s (term t e) +ℤ z) (sym (exponent_by s l))

merged_exponent : (d : Bool) (s : ℕ) (xs ys : List Term) → exponent s (merge xs (turned d ys)) ≡ exponents d xs ys s
merged_exponent d s xs ys =
    exponent_by s (merge xs (turned d ys)) ∙ merged_sum (eqb s) d xs ys ∙ ap₂ (combine d) (sym (exponent_by s xs)) (sym (exponent_by s ys))

-- ---- exponents written down

append_exponent : (s : ℕ) (xs ys : List Term) → exponent s (xs ++ ys) ≡ exponent s xs +ℤ exponent s ys
append_exponent s [] ys = sym (+ℤ_idl (exponent s ys))
append_exponent s (x ∷ xs) ys = ap (λ z. part s x +ℤ z) (append_exponent s xs ys) ∙ sym (+ℤ_assoc (part s x) (exponent s xs) (exponent s ys))

power_exponent : (s t : ℕ) (e : ℤ) → exponent s (power t e) ≡ part s (term t e)
power_exponent s t e = joined_exponent s t e [] ∙ +ℤ_idr (part s (term t e))

-- a symbol below n has the exponent that was written, any other none
written_above : (s n : ℕ) (f : ℕ → ℤ) → n ≤ s → exponent s (written n f) ≡ pos 0
written_above s zero f h = refl
written_above s (suc n) f h =
    append_exponent s (written n f) (power n (f n))
    ∙ ap₂ ◌+ℤ◌ (written_above s n f (omega arith)) (power_exponent s n (f n) ∙ part_other s (term n (f n)) (λ e. omega arith))

pub written_exponent : (s n : ℕ) (f : ℕ → ℤ) → s < n → exponent s (written n f) ≡ f s
written_exponent s zero f h = absurd (not-suc-le-zero h)
written_exponent s (suc n) f h =
    append_exponent s (written n f) (power n (f n))
    ∙ ⊎_elim
    (λ (e : s ≡ n).
    ap₂ ◌+ℤ◌ (written_above s n f (omega arith)) (power_exponent s n (f n) ∙ part_same s (term n (f n)) e ∙ ap f (sym e)) ∙ +ℤ_idl (f s))
    (λ (l : s < n).
    ap₂ ◌+ℤ◌ (written_exponent s n f l) (power_exponent s n (f n) ∙ part_other s (term n (f n)) (λ e. omega arith)) ∙ +ℤ_idr (f s))
    (eq-or-lt_of_le (le_of_suc-le-suc h))

-- terms in order, all below n, with one more at n
append_asc : (lo n : ℕ) (e : ℤ) (xs : List Term) → Asc lo xs → Within n xs → lo ≤ n → Asc lo (xs ++ power n e)
append_asc lo n e [] a b h = joined_asc lo n e [] h asc_none
append_asc lo n e (x ∷ xs) a (within_more l b) h =
    asc_more (head_low a) (head_nonzero a) (append_asc (suc x.symbol) n e xs (tail_of a) b l)

written_asc : (n : ℕ) (f : ℕ → ℤ) → Asc 0 (written n f)
written_asc zero f = asc_none
written_asc (suc n) f = append_asc 0 n (f n) (written n f) (written_asc n f) (written_within n f) (omega arith)

-- ---- the product

within_exponent : (s n : ℕ) (xs : List Term) → Within n xs → n ≤ s → exponent s xs ≡ pos 0
within_exponent s n [] b h = refl
within_exponent s n (x ∷ xs) (within_more l b) h = ap₂ ◌+ℤ◌ (part_other s x (λ e. omega arith)) (within_exponent s n xs b h)

-- no power and no power together are none
pub turn_zero : (d : Bool) → combine d (pos 0) (pos 0) ≡ pos 0
turn_zero true = refl
turn_zero false = refl

module _ (n : ℕ) (d : Bool) (xs ys : List Term) (ox : ordered n 0 xs ≡ true) (oy : ordered n 0 ys ≡ true) where
  wx : Within n xs
  wx = ordered_within n 0 xs ox

  wy : Within n ys
  wy = ordered_within n 0 ys oy

  -- the law of the brochure, of every symbol there is
  pub si : (s : ℕ) → exponent s (product_of n d xs ys) ≡ combine d (exponent s xs) (exponent s ys)
  unfolding product_of
  si s =
      elim (dec_lt s n) [
        | yes h ↦ written_exponent s n (exponents d xs ys) h
        | no h ↦ written_above s n (exponents d xs ys) (omega arith)
            ∙ sym (ap₂ (combine d) (within_exponent s n xs wx (omega arith)) (within_exponent s n ys wy (omega arith)) ∙ turn_zero d)
      ]

  merged_asc : Asc 0 (merge xs (turned d ys))
  merged_asc = merge_asc 0 xs (turned d ys) (subst (Asc 0) (turned_none xs) (ordered_asc false n 0 xs ox)) (ordered_asc d n 0 ys oy)

  -- what is computed is the product
  pub merge_product : merge xs (turned d ys) ≡ product_of n d xs ys
  unfolding product_of
  merge_product =
      unique 0 (merge xs (turned d ys)) (product_of n d xs ys) merged_asc (written_asc n (exponents d xs ys))
      (λ s. merged_exponent d s xs ys ∙ sym (si s))

-- a product within the limits is a unit in form, of at most p symbols
pub product_formed : (p n : ℕ) (d : Bool) (xs ys : List Term) → any_outside (product_of n d xs ys) ≡ false → length (product_of n d xs ys) ≤ p → formed p n (product_of n d xs ys) ≡ true
unfolding product_of formed
product_formed p n d xs ys w h = rw (le-leb (length (product_of n d xs ys)) p h) (asc_ordered (written_asc n (exponents d xs ys)) (written_within n (exponents d xs ys)) w)
