use mathlib.Core.Path.{refl, ◌∙◌}
use mathlib.Core.Bool.{true, false}
use Rattle.types.proofs.Types.{formed_by}
use Rattle.answers.proofs.Grown.{index_left}
use Rattle.formulas.specs.State.{nodes_of, roots_of}
use Rattle.formulas.proofs.Supplied.{placed_by, node_there_too, operand_in_use, supplied_grown, still_filled}
use Rattle.formulas.proofs.Conditions.{index_answered}
use Rattle.formulas.proofs.Answering.index.Goals as goal

pub index_checked-answer-requires-clause-checked_value : goal.index_checked-answer-requires-clause-checked_value
index_checked-answer-requires-clause-checked_value c =
    let p = placed_by c.args.self.now.placed in
    let h = c.requires.beside in
    rw (c.operand-x.ensures, c.operand-key.ensures) (
      operand_in_use h c.args.a (node_there_too p c.args.a c.requires.operands.0),
      operand_in_use h c.args.k (node_there_too p c.args.k c.requires.operands.1),
    )

pub index_checked-answer-requires-clause-noted : goal.index_checked-answer-requires-clause-noted
index_checked-answer-requires-clause-noted c = c.requires.beside.noted

pub fill_leaves-requires : goal.fill_leaves-requires
fill_leaves-requires c =
    let h = c.requires.beside in
    let f = formed_by c.args.maker.now.measured in
    let l = node_there_too (placed_by c.args.self.now.placed) c.args.a c.requires.operands.0 in
    let left = index_left c.args.maker.now.page.now f c.operand-key.result.checked _ (rw c.operand-x.ensures (operand_in_use h c.args.a l)) in
    rw (c.store-2.ensures.0, c.index_checked-answer.ensures.page_after)
    (still_filled h f _ left.1 left.0 true _ h.single _ (rw c.store.ensures.0 at c.count-n.ensures))

pub fill_leaves-requires-2 : goal.fill_leaves-requires-2
fill_leaves-requires-2 c =
    let h = c.requires.beside in
    let f = formed_by c.args.maker.now.measured in
    let l = node_there_too (placed_by c.args.self.now.placed) c.args.a c.requires.operands.0 in
    let left = index_left c.args.maker.now.page.now f c.operand-key.result.checked _ (rw c.operand-x.ensures (operand_in_use h c.args.a l)) in
    rw (c.store-3.ensures.0, c.index_checked-answer.ensures.page_after)
    (still_filled h f _ left.1 left.0 false _ h.double _ (rw c.store.ensures.0 at c.count-n.ensures))

pub returns-clause-value : goal.returns-clause-value
returns-clause-value c =
    let g = c.args.self.now in
    rw (c.operand-x.ensures, c.operand-key.ensures) at c.index_checked-answer.ensures.value
    ∙ (index_answered c.args.maker.now.page.now (roots_of g) (nodes_of g) c.args.a c.args.k).0

pub returns-clause-store : goal.returns-clause-store
returns-clause-store c =
    let g = c.args.self.now in
    rw (c.operand-x.ensures, c.operand-key.ensures) at c.index_checked-answer.ensures.page_after
    ∙ (index_answered c.args.maker.now.page.now (roots_of g) (nodes_of g) c.args.a c.args.k).1

pub returns-clause-beside_2 : goal.returns-clause-beside_2
returns-clause-beside_2 c =
    let h = c.requires.beside in
    let f = formed_by c.args.maker.now.measured in
    let answer = c.index_checked-answer in
    let l = node_there_too (placed_by c.args.self.now.placed) c.args.a c.requires.operands.0 in
    let left = index_left c.args.maker.now.page.now f c.operand-key.result.checked c.operand-x.result.checked (rw c.operand-x.ensures (operand_in_use h c.args.a l)) in
    let grown = rw (← answer.ensures.page_after) at left in
    let single = rw c.store-2.ensures.0 at c.fill_leaves.ensures.leaves in
    let double = rw c.store-3.ensures.0 at c.fill_leaves-2.ensures.leaves in
    supplied_grown h f _ grown.1 grown.0 _ _ _ single double answer.ensures.noted_2

pub returns-clause-same : goal.returns-clause-same
returns-clause-same c = ((refl, refl, refl, refl, refl, refl), c.index_checked-answer.ensures.same)
