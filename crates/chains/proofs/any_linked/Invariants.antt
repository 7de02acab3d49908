use Rattle.chains.proofs.Walk.{Walking}
use Rattle.chains.proofs.any_linked.Given as goal

abbrev pub invariant-loop-k : goal.invariant-loop-k
invariant-loop-k g l = Walking (λ k r. goal.F-post g l.test k r) l.links l.head l.next

abbrev pub decreases-loop-k : goal.decreases-loop-k
decreases-loop-k g l = l.next
