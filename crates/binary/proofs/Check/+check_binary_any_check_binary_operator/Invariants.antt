use mathlib.Core.Path.{◌≡◌}
use Rattle.members.specs.Members.{members_max}
use Rattle.members.specs.Trials.{failing_count}
use Rattle.binary.specs.Tally.{tally_of}
use Rattle.binary.proofs.Turns.{rows, row, Taken}
use Prim.Native.Nat.{◌+◌, ◌*◌, ◌≤◌}
use Rattle.binary.proofs.Check.+check_binary_any_check_binary_operator.Given as goal

abbrev pub decreases-check_binary_any : goal.decreases-check_binary_any
decreases-check_binary_any l = 2 * (l.l + l.r)

abbrev pub decreases-check_binary_operator : goal.decreases-check_binary_operator
decreases-check_binary_operator l = 2 * (l.l + l.r) + 1

abbrev pub invariant-check_binary_any-loop-y : goal.invariant-check_binary_any-loop-y
invariant-check_binary_any-loop-y l =
    Taken l.self.leafed.store.page.now l.l l.x-index l.x l.p × (l.tally ≡ tally_of (row l.self.leafed.store.page.now l.self.op l.self.clash l.l l.r l.x-index l.y-index)) × (failing_count l.tally.failing ≤ members_max * l.x-index + l.y-index)

abbrev pub invariant-check_binary_any-loop-x : goal.invariant-check_binary_any-loop-x
invariant-check_binary_any-loop-x l =
    (l.tally ≡ tally_of (rows l.self.leafed.store.page.now l.self.op l.self.clash l.l l.r l.x-index)) × (failing_count l.tally.failing ≤ members_max * l.x-index)
