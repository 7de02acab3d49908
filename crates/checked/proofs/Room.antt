-- Tables with room for every type. Assumes nothing.
use mathlib.Core.Path.{◌≡◌, refl}
use mathlib.Core.Bool.{true}
use mathlib.Core.List.{List}
use Prim.Native.Nat.{ℕ, ◌<◌}
use native.Mathlib.Omega.{arith}
use lib.ListN.{get_or}
use lib.Dec.{ltb}
use borrow.Author.Tests.{lt-ltb}
use Rattle.pages.proofs.Quant.{all_each}
use Rattle.types.specs.Store.{types_max, Formed}
use Rattle.types.specs.Types.{types_in}
use Rattle.types.proofs.Types.{types_few}
use Rattle.matching.specs.Matching.{in_use}
use Rattle.matching.specs.declared.Checked.{Checked}
use Rattle.matching.specs.declared.Checked.TheVariants.{Known}
use Rattle.matching.proofs.Matching.{in_use_known}
use Rattle.matching.proofs.Memo.{all_fit}
use Rattle.bindings.specs.Bindings.{types_below, Usable}
use Rattle.bindings.specs.declared.Bindings.{Bindings}
use Rattle.checked.specs.Calls.{fits_bound}

-- the types of an argument and a parameter in use, and those that names are bound to, have room there
module _ (page : List ℕ) (f : Formed page) (b : Bindings) (usable : Usable b (types_in page)) where
  bound_small : types_below b types_max ≡ true
  unfolding types_below
  bound_small =
      all_each b.count (λ i. ltb (get_or b.types i 0) types_max) (λ i l. lt-ltb (get_or b.types i 0) types_max (omega (arith, usable.used i l, types_few page f)))

  pub all_fit_bound : (e : ℕ) → e < types_in page → (actual : Checked) → in_use page actual ≡ true → fits_bound types_max b e actual ≡ true
  unfolding fits_bound
  all_fit_bound e l actual h = rw (all_fit page f (Known e) actual (in_use_known page e l) h, bound_small) refl
