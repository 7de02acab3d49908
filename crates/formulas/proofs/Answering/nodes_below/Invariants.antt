use Rattle.formulas.specs.Below.{writings}
use Rattle.formulas.specs.State.{nodes_of}
use Rattle.formulas.proofs.Marked.{Spread}
use Rattle.formulas.proofs.Answering.nodes_below.Given as goal

abbrev pub invariant-loop-n : goal.invariant-loop-n
invariant-loop-n l = Spread (writings (nodes_of l.self)) l.root l.n l.marks
