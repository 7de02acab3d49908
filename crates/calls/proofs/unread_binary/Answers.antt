use Rattle.std.specs.Prelude.{option_copied}
use mathlib.Core.Path.{sym, ◌∙◌}
use Rattle.calls.proofs.Bytes.{binary_undefined, binary_unpaired, binary_unformed, binary_rest}
use Rattle.calls.proofs.unread_binary.Goals as goal

pub returns-then-not-is_operator : goal.returns-then-not-is_operator
returns-then-not-is_operator c =
    let a = c.args in
    binary_undefined a.page.now (option_copied a.names) a.left.number a.left.unit.now a.right.number a.right.unit.now a.table.now a.op
    (sym c.is_operator.ensures ∙ c.if-not-is_operator.true)

pub returns-in_default : goal.returns-in_default
returns-in_default c =
    let a = c.args in
    binary_unpaired a.page.now (option_copied a.names) a.left.number a.left.unit.now a.right.number a.right.unit.now a.table.now a.op
    (sym c.is_operator.ensures ∙ c.if-not-is_operator.false) _ (sym c.in_default.is ∙ c.opened.ensures.0)

pub returns-in-Err : goal.returns-in-Err
returns-in-Err c =
    let a = c.args in
    binary_unformed a.page.now (option_copied a.names) a.left.number a.left.unit.now a.right.number a.right.unit.now a.table.now a.op
    (sym c.is_operator.ensures ∙ c.if-not-is_operator.false) c.in-Ok.n (sym c.in-Ok.is ∙ c.opened.ensures.0) _ (sym c.in-Err.is ∙ c.survey.ensures.0)

pub returns : goal.returns
returns c =
    let a = c.args in
    rw c.store.ensures.0 at c.unfit.ensures
    ∙ binary_rest a.page.now (option_copied a.names) a.left.number a.left.unit.now a.right.number a.right.unit.now a.table.now a.op
    (sym c.is_operator.ensures ∙ c.if-not-is_operator.false) c.in-Ok.n (sym c.in-Ok.is ∙ c.opened.ensures.0) (sym c.in_default-survey.is ∙ c.survey.ensures.0)
