use Rattle.std.specs.Prelude.{option_copied}
use mathlib.Core.Path.{refl, sym, ◌∙◌}
use Rattle.calls.proofs.Bytes.{unary_undefined, unary_rest}
use Rattle.calls.proofs.unread_unary.Goals as goal

pub returns-then-not-is_operator : goal.returns-then-not-is_operator
returns-then-not-is_operator c =
    let a = c.args in
    unary_undefined a.page.now (option_copied a.names) a.op a.x.number a.x.unit.now (sym c.is_operator.ensures ∙ c.if-not-is_operator.true)

pub unread_operands-requires : goal.unread_operands-requires
unread_operands-requires c = rw c.requires refl

pub returns : goal.returns
returns c =
    let a = c.args in
    c.unread_operands.ensures
    ∙ unary_rest a.page.now (option_copied a.names) a.op a.x.number a.x.unit.now (sym c.is_operator.ensures ∙ c.if-not-is_operator.false)
