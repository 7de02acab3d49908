use mathlib.Core.Path.{ap, ◌∙◌}
use Rattle.std.proofs.Common.{Ok}
use Rattle.formulas.specs.State.{nodes_of, roots_of}
use Rattle.formulas.proofs.Supplied.{placed_by, node_below}
use Rattle.formulas.proofs.Answered.{unary_passed, binary_passed, index_passed}
use Rattle.formulas.proofs.Conditions.{value_answered, binary_answered}
use Rattle.formulas.proofs.Answering.answer.Goals as goal

pub unary-requires : goal.unary-requires
unary-requires c =
    let g = c.args.self.now in
    let p = unary_passed g.used c.args.maker.now.page.now (nodes_of g) _ _ (rw c.in-Unary.is at c.requires.passed) in
    record { operands = (p.0, node_below (placed_by g.placed) _ p.1); beside = c.requires.beside }

pub binary-requires : goal.binary-requires
binary-requires c =
    let g = c.args.self.now in
    let p = binary_passed g.used c.args.maker.now.page.now (nodes_of g) _ _ _ (rw c.in-Binary.is at c.requires.passed) in
    record { operands = (node_below (placed_by g.placed) _ p.1, node_below (placed_by g.placed) _ p.2); beside = rw c.store.ensures.0 c.requires.beside }

pub index-requires : goal.index-requires
index-requires c =
    let g = c.args.self.now in
    let p = index_passed g.used c.args.maker.now.page.now (nodes_of g) _ _ (rw c.in-Index.is at c.requires.passed) in
    record { operands = (node_below (placed_by g.placed) _ p.0, node_below (placed_by g.placed) _ p.1); beside = c.requires.beside }

pub returns-in-Value-clause-value : goal.returns-in-Value-clause-value
returns-in-Value-clause-value c =
    let g = c.args.self.now in
    rw c.in-Value.is (ap Ok c.value_answer.ensures ∙ (value_answered c.args.maker.now.page.now (roots_of g) (nodes_of g) c.in-Value.t c.in-Value.unit).0)

pub returns-in-Value-clause-store : goal.returns-in-Value-clause-store
returns-in-Value-clause-store c =
    let g = c.args.self.now in
    rw c.in-Value.is (value_answered c.args.maker.now.page.now (roots_of g) (nodes_of g) c.in-Value.t c.in-Value.unit).1

pub returns-in-Value-clause-noted : goal.returns-in-Value-clause-noted
returns-in-Value-clause-noted c = c.requires.beside.noted

pub returns-in-Binary-clause-store : goal.returns-in-Binary-clause-store
returns-in-Binary-clause-store c =
    let g = c.args.self.now in
    rw c.in-Binary.is (binary_answered c.args.maker.now.page.now (roots_of g) (nodes_of g) c.in-Binary.op c.in-Binary.a c.in-Binary.b).1

pub returns-in-Binary-clause-noted : goal.returns-in-Binary-clause-noted
returns-in-Binary-clause-noted c = c.requires.beside.noted
