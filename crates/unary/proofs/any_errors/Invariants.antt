use mathlib.Core.Path.{◌≡◌}
use Prim.Native.Nat.{◌≤◌}
use Rattle.members.specs.Trials.{failing_count}
use Rattle.unary.specs.Unary.{failing}
use Rattle.unary.proofs.any_errors.Given as goal

abbrev pub invariant-loop-x : goal.invariant-loop-x
invariant-loop-x l = (l.failing ≡ failing l.leafed.store.page.now l.op l.t l.x-index) × (failing_count l.failing ≤ l.x-index)
