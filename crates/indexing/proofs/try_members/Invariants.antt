use Rattle.matching.specs.Same.{Same}
use Rattle.indexing.proofs.Trying.{Going}
use Rattle.indexing.proofs.try_members.Given as goal

abbrev pub invariant-loop-x : goal.invariant-loop-x
invariant-loop-x l = Same l.matcher l.initial.matcher × Going l.initial.matcher.store.page.now l.key l.t l.results l.trials l.x-index
