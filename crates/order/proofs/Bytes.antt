-- The order of names is the library's order of slices. Assumes nothing.
use Rattle.std.proofs.Common.{◌≡◌, refl, List, ℕ, arith, nat_cmp, is_lt, Ordering}
use Rattle.std.proofs.lemmas.Bool.Decides.{nat_tests}
use Rattle.std.proofs.lemmas.Cmp.{same_from_slice_cmp}
use Rattle.std.specs.Cmp.Lexicographic.{slice_cmp}
use Rattle.order.specs.Order.{comes}

-- what `cmp` answers at slices of numbers
pub comes_is : (a b : List ℕ) (o : Ordering) → o ≡ slice_cmp nat_cmp a b → is_lt o ≡ comes a b
unfolding comes
comes_is = same_from_slice_cmp nat_cmp is_lt comes refl (λ _ _. refl) (λ _ _. refl) (λ x y xs ys o h. grind (arith, nat_tests))
