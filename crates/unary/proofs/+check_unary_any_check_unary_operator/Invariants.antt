use Prim.Native.Nat.{◌+◌, ◌*◌}
use Rattle.types.specs.Same.{Same}
use Rattle.unary.proofs.Checking.{Trying}
use Rattle.unary.proofs.+check_unary_any_check_unary_operator.Given as goal

abbrev pub decreases-check_unary_any : goal.decreases-check_unary_any
decreases-check_unary_any l = 2 * l.t

abbrev pub decreases-check_unary_operator : goal.decreases-check_unary_operator
decreases-check_unary_operator l = 2 * l.t + 1

abbrev pub invariant-check_unary_any-loop-x : goal.invariant-check_unary_any-loop-x
invariant-check_unary_any-loop-x l = Same l.maker l.initial.maker × Trying l.initial.maker.page.now l.t l.n l.x-index l.k l.results l.maker.page.now l.done
