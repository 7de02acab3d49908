use mathlib.Core.Path.{sym, ◌∙◌}
use native.Mathlib.Omega.{arith}
use borrow.Author.Tests.{le-ltb}
use Rattle.formulas.specs.State.{nodes_of}
use Rattle.formulas.proofs.Supplied.{placed_by, nodes_length}
use Rattle.formulas.proofs.Below.{passes_there, passes_not}
use Rattle.formulas.proofs.Answering.passes.Goals as goal

pub returns-then-root-self : goal.returns-then-root-self
returns-then-root-self c =
    let g = c.args.self.now in
    let h = placed_by g.placed in
    rw c.error_count.ensures.0 (sym (passes_there (nodes_of g) c.args.root (omega (arith, c.if-root-self.true, nodes_length h))))

pub returns-else-root-self : goal.returns-else-root-self
returns-else-root-self c =
    let g = c.args.self.now in
    let h = placed_by g.placed in
    le-ltb c.args.root g.count c.if-root-self.false
    ∙ sym (passes_not (nodes_of g) c.args.root (omega (arith, c.if-root-self.false, nodes_length h)))
