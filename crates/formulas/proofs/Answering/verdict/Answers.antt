use mathlib.Core.Path.{◌∙◌}
use Rattle.formulas.specs.State.{nodes_of}
use Rattle.formulas.proofs.Conditions.{value_conditions, unary_conditions, binary_conditions, index_conditions}
use Rattle.formulas.proofs.Answering.verdict.Goals as goal

pub returns-in-Value : goal.returns-in-Value
returns-in-Value c =
    let g = c.args.self.now in
    rw c.in-Value.is (c.operands_verdict.ensures ∙ value_conditions g.used c.args.store.page.now (nodes_of g) c.in-Value.t c.in-Value.unit)

pub returns-in-Unary : goal.returns-in-Unary
returns-in-Unary c =
    let g = c.args.self.now in
    rw c.in-Unary.is (c.operator_verdict.ensures ∙ unary_conditions g.used c.args.store.page.now (nodes_of g) c.in-Unary.op c.in-Unary.a)

pub returns-in-Binary : goal.returns-in-Binary
returns-in-Binary c =
    let g = c.args.self.now in
    rw c.in-Binary.is (c.operator_verdict-in-Binary.ensures ∙ binary_conditions g.used c.args.store.page.now (nodes_of g) c.in-Binary.op c.in-Binary.a c.in-Binary.b)

pub returns-in-Index : goal.returns-in-Index
returns-in-Index c =
    let g = c.args.self.now in
    rw c.in-Index.is (c.operands_verdict-in-Index.ensures ∙ index_conditions g.used c.args.store.page.now (nodes_of g) c.in-Index.a c.in-Index.k)
