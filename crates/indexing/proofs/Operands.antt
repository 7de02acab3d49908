-- The target of an index: where a type is answered it is a Known type (`target_known`), and where its kind is no union the store stays as
-- it was (`target_store`). Assumes nothing.
use Rattle.std.proofs.Common.{Ok}
use mathlib.Core.Path.{◌≡◌, refl, ap, sym}
use mathlib.Core.Bool.{false}
use mathlib.Core.List.{List}
use Prim.Native.Nat.{ℕ}
use Rattle.kinds.specs.Kinds.{is_union}
use Rattle.types.specs.Types.{kind_of}
use Rattle.matching.specs.declared.Checked.{Checked}
use Rattle.matching.specs.declared.Checked.TheVariants.{Known, Unknown, Function}
use Rattle.operators.specs.Outcome.{no_error, one_error, outcome}
use Rattle.operators.specs.declared.Reason.TheVariants.{NotIndexable}
use Rattle.operators.specs.declared.Outcome.{Outcome}
use Rattle.members.specs.Members.{Concluded}
use Rattle.members.proofs.Conclusions.{unknown_not}
use Rattle.indexing.specs.Indexing.{check_index}
use Rattle.indexing.proofs.Indexing.{index_other}

module _ (page : List ℕ) (key : Checked) where
  -- an index that answers a type has a Known target
  pub target_known : (x : Checked) (o : Outcome) → (check_index page key x).conclusion ≡ Ok o → (t : ℕ) → o.checked ≡ Known t
      → (a : ℕ) × (x ≡ Known a)
  unfolding check_index
  target_known (Known a) o e t k = (a, refl)
  target_known Unknown o e t k = absurd (unknown_not (outcome Unknown no_error) o refl e t k)
  target_known (Function f) o e t k = absurd (unknown_not (outcome Unknown (one_error NotIndexable)) o refl e t k)

  -- the index of a type that is no union leaves the store as it was
  pub target_store : (a : ℕ) → is_union (kind_of page a) ≡ false → (check_index page key (Known a)).store ≡ page
  target_store a h = ap (λ (z : Concluded). z.store) (sym (index_other page key a h))
