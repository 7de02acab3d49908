use mathlib.Core.Path.{◌≡◌}
use lib.ListN.{drop}
use Rattle.members.specs.Leaves.{is_unary, Leaves}
use Rattle.members.proofs.fill_leaves.Given as goal

abbrev pub invariant-loop-t : goal.invariant-loop-t
invariant-loop-t g l = Leaves (is_unary g.row.OPERANDS) l.store.page.now l.leaves l.t × (drop l.t-end l.leaves ≡ drop l.t-end l.initial.leaves)
