use Prim.Native.Nat.{◌+◌, ◌*◌}
use Rattle.types.specs.Same.{Same}
use Rattle.bindings.proofs.Rebuilding.{Kidding}
use Rattle.bindings.proofs.+rebuild_substitute.Given as goal

abbrev pub decreases-rebuild : goal.decreases-rebuild
decreases-rebuild l = 2 * l.t

abbrev pub decreases-substitute : goal.decreases-substitute
decreases-substitute l = 2 * l.t + 1

abbrev pub invariant-rebuild-loop-i : goal.invariant-rebuild-loop-i
invariant-rebuild-loop-i l = Same l.maker l.initial.maker × Kidding l.bindings l.initial.maker.page.now l.t l.n l.i l.kids l.maker.page.now l.done
