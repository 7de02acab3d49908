use Prim.Native.Nat.{◌+◌, ◌*◌}
use Rattle.unification.specs.Same.{Same}
use Rattle.unification.proofs.Pairs.{Paired}
use Rattle.unification.proofs.Unifier.+unify_unify_children.Given as goal

abbrev pub decreases-unify : goal.decreases-unify
decreases-unify l = 2 * l.e + 1

abbrev pub decreases-unify_children : goal.decreases-unify_children
decreases-unify_children l = 2 * l.e

abbrev pub invariant-unify_children-loop-i : goal.invariant-unify_children-loop-i
invariant-unify_children-loop-i l =
    Same l.self l.fn.self × Paired l.fn.self.matcher.store.page.now l.e l.a l.n l.fn.self.bindings l.self.bindings l.i
