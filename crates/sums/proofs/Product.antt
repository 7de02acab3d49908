-- The group law: the sum of a product's exponents in a group is the sum of its units' sums there, and of a quotient's the difference.
-- Assumes nothing.
use mathlib.Core.Path.{◌≡◌, refl, sym, ap, ap₂, ◌∙◌}
use mathlib.Core.Bool.{Bool, true}
use mathlib.Core.List.{List, [], ◌∷◌}
use Prim.Native.Nat.{ℕ}
use lib.Dec.{eqb}
use lib.IntN.{◌+ℤ◌}
use Rattle.units.specs.Unit.{Term, ordered}
use Rattle.units.specs.Product.{combine, product_of}
use Rattle.units.specs.Merge.{turned, merge}
use Rattle.units.proofs.Tested.{counted, sum_by, merged_sum}
use Rattle.units.proofs.Si.{merge_product}
use Rattle.sums.specs.Sums.{sum_at}

-- a group's sum is the sum at the test that a symbol's root is the group's
pub sum_by_lem : (root : ℕ → ℕ) (g : ℕ) (xs : List Term) → sum_at root g xs ≡ sum_by (λ s. eqb g (root s)) xs
sum_by_lem root g [] = refl
sum_by_lem root g (x ∷ xs) = ap (λ z. counted (eqb g (root x.symbol)) x.exp +ℤ z) (sum_by_lem root g xs)

-- the sum in a group of the product or, with true, the quotient of two units whose symbols ascend
pub product_sum : (n : ℕ) (d : Bool) (xs ys : List Term) → ordered n 0 xs ≡ true → ordered n 0 ys ≡ true → (root : ℕ → ℕ) (g : ℕ)
    → sum_at root g (product_of n d xs ys) ≡ combine d (sum_at root g xs) (sum_at root g ys)
product_sum n d xs ys ox oy root g =
    ap (sum_at root g) (sym (merge_product n d xs ys ox oy))
    ∙ sum_by_lem root g (merge xs (turned d ys))
    ∙ merged_sum (λ s. eqb g (root s)) d xs ys
    ∙ ap₂ (combine d) (sym (sum_by_lem root g xs)) (sym (sum_by_lem root g ys))
