use Rattle.std.specs.Prelude.{option_copied}
use mathlib.Core.Path.{sym, ◌∙◌}
use Rattle.types.proofs.Calls.{opened_ok, opened_err}
use Rattle.calls.proofs.Bytes.{operands_broken, operands_rest}
use Rattle.calls.proofs.unread_operands.Goals as goal

pub returns-in_default : goal.returns-in_default
returns-in_default c =
    let a = c.args in
    let o = opened_err a.page.now (option_copied a.names) _ (sym c.in_default.is ∙ c.opened.ensures.0) in
    operands_broken a.page.now (option_copied a.names) a.left.number a.left.unit.now a.right.number a.right.unit.now o.0

pub returns : goal.returns
returns c =
    let a = c.args in
    let o = opened_ok a.page.now (option_copied a.names) c.in-Ok.n (sym c.in-Ok.is ∙ c.opened.ensures.0) in
    rw c.store.ensures.0 at c.unfit.ensures
    ∙ operands_rest a.page.now (option_copied a.names) a.left.number a.left.unit.now a.right.number a.right.unit.now o.0 c.in-Ok.n o.1
