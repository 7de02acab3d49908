use mathlib.Core.Path.{◌≡◌}
use mathlib.Core.Bool.{true}
use Rattle.pages.specs.Quant.{all_to}
use Rattle.members.specs.Leaves.{is_unary, key_in}
use Rattle.members.proofs.Leaves.{same_key, leaf_in}
use Rattle.members.proofs.leaf_of.Given as goal

abbrev pub invariant-loop-x : goal.invariant-loop-x
invariant-loop-x g l = (all_to l.x-index (same_key (key_in (is_unary g.row.OPERANDS) l.store.page.now) (leaf_in (is_unary g.row.OPERANDS) l.store.page.now l.t)) ≡ true)
