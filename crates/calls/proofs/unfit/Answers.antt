use mathlib.Core.Path.{sym, ◌∙◌}
use Rattle.calls.proofs.Bytes.{left_operand, right_operand, operands_bad}
use Rattle.calls.proofs.unfit.Goals as goal

pub returns-then-not-is_operand_used : goal.returns-then-not-is_operand_used
returns-then-not-is_operand_used c =
    let a = c.args in
    left_operand a.store.page.now a.left.number a.left.unit.now a.right.number a.right.unit.now c.requires a.n (sym c.is_operand_used.ensures ∙ c.if-not-is_operand_used.true)

pub returns-then-not-is_operand_used-2 : goal.returns-then-not-is_operand_used-2
returns-then-not-is_operand_used-2 c =
    let a = c.args in
    right_operand a.store.page.now a.left.number a.left.unit.now a.right.number a.right.unit.now c.requires a.n (sym c.is_operand_used-2.ensures ∙ c.if-not-is_operand_used-2.true)

pub returns : goal.returns
returns c =
    let a = c.args in
    operands_bad a.store.page.now a.left.number a.left.unit.now a.right.number a.right.unit.now c.requires a.n
    (sym c.is_operand_used.ensures ∙ c.if-not-is_operand_used.false) (sym c.is_operand_used-2.ensures ∙ c.if-not-is_operand_used-2.false)
