use mathlib.Core.Path.{refl, ◌∙◌}
use mathlib.Core.Bool.{false}
use Rattle.types.proofs.Types.{formed_by}
use Rattle.answers.proofs.Grown.{unary_left}
use Rattle.formulas.specs.State.{nodes_of, roots_of}
use Rattle.formulas.proofs.Supplied.{placed_by, node_there_too, operand_in_use, supplied_grown, still_filled}
use Rattle.formulas.proofs.Conditions.{unary_answered}
use Rattle.formulas.proofs.Answering.unary.Goals as goal

pub unary_checked-answer-requires-clause-leaves : goal.unary_checked-answer-requires-clause-leaves
unary_checked-answer-requires-clause-leaves c = c.requires.beside.single

pub unary_checked-answer-requires-clause-op_value : goal.unary_checked-answer-requires-clause-op_value
unary_checked-answer-requires-clause-op_value c =
    let l = node_there_too (placed_by c.args.self.now.placed) c.args.a c.requires.operands.1 in
    (c.requires.operands.0, rw c.operand-x.ensures (operand_in_use c.requires.beside c.args.a l))

pub fill_leaves-requires : goal.fill_leaves-requires
fill_leaves-requires c =
    let page = c.args.maker.now.page.now in
    let h = c.requires.beside in
    let f = formed_by c.args.maker.now.measured in
    let l = node_there_too (placed_by c.args.self.now.placed) c.args.a c.requires.operands.1 in
    let left = unary_left page f c.args.op c.requires.operands.0 _ (rw c.operand-x.ensures (operand_in_use h c.args.a l)) in
    rw (c.store-2.ensures.0, c.unary_checked-answer.ensures.page_after)
    (still_filled h f _ left.1 left.0 false _ h.double _ (rw c.store.ensures.0 at c.count-n.ensures))

pub returns-clause-value : goal.returns-clause-value
returns-clause-value c =
    let g = c.args.self.now in
    rw c.operand-x.ensures at c.unary_checked-answer.ensures.value
    ∙ (unary_answered c.args.maker.now.page.now (roots_of g) (nodes_of g) c.args.op c.args.a).0

pub returns-clause-store : goal.returns-clause-store
returns-clause-store c =
    let g = c.args.self.now in
    rw c.operand-x.ensures at c.unary_checked-answer.ensures.page_after
    ∙ (unary_answered c.args.maker.now.page.now (roots_of g) (nodes_of g) c.args.op c.args.a).1

pub returns-clause-beside_2 : goal.returns-clause-beside_2
returns-clause-beside_2 c =
    let page = c.args.maker.now.page.now in
    let h = c.requires.beside in
    let f = formed_by c.args.maker.now.measured in
    let answer = c.unary_checked-answer in
    let l = node_there_too (placed_by c.args.self.now.placed) c.args.a c.requires.operands.1 in
    let left = unary_left page f c.args.op c.requires.operands.0 c.operand-x.result.checked (rw c.operand-x.ensures (operand_in_use h c.args.a l)) in
    let grown = rw (← answer.ensures.page_after) at left in
    let filled = rw c.store-2.ensures.0 at c.fill_leaves.ensures.leaves in
    supplied_grown h f _ grown.1 grown.0 _ _ _ answer.ensures.leaves_2 filled h.noted

pub returns-clause-noted : goal.returns-clause-noted
returns-clause-noted c = c.requires.beside.noted

pub returns-clause-same : goal.returns-clause-same
returns-clause-same c = ((refl, refl, refl, refl, refl, refl), c.unary_checked-answer.ensures.same)
