use Rattle.std.specs.Prelude.{option_copied}
use mathlib.Core.Path.{◌≡◌, sym, ap, ap₂, ◌∙◌}
use Rattle.answers.specs.Calls.{binary_answer}
use Rattle.calls.specs.Types.{checked_of}
use Rattle.calls.specs.Answers.{operand_of, answered_code, out_after_answer}
use Rattle.calls.proofs.Bytes.{units_read, binary_alike}
use Rattle.calls.proofs.Answers.{binary_few}
use Rattle.calls.proofs.riddlepoppy_check_binary_operator.Goals as goal

pub written_down-requires : goal.written_down-requires
written_down-requires c =
    let a = c.args in
    let names = option_copied c.lent_names-names.result in
    rw c.check_binary_operator-answer.ensures (binary_few a.page.now names a.table.now a.op c.operand_of-a.result c.operand_of-b.result)

pub returns : goal.returns
returns c =
    let a = c.args in
    let names = option_copied c.lent_names-names.result in
    let u = units_read a.unit.now a.other.now _ (sym c.units_in.ensures ∙ c.in-Some.is) in
    let l : c.operand_of-a.result ≡ operand_of a.left a.unit.now = c.operand_of-a.ensures ∙ ap (λ p. record { checked = checked_of a.left; unit = p.0 }) u.1 in
    let r : c.operand_of-b.result ≡ operand_of a.right a.other.now = c.operand_of-b.ensures ∙ ap (λ p. record { checked = checked_of a.right; unit = p.1 }) u.1 in
    let e = c.check_binary_operator-answer.ensures ∙ ap₂ (binary_answer a.page.now names a.table.now a.op) l r in
    let f = e ∙ binary_alike a.page.now names a.left a.unit.now a.right a.other.now u.0 a.table.now a.op in
    let w = c.written_down.ensures in
    rw (← c.lent_names-names.ensures) ((w.0 ∙ ap answered_code f, w.1 ∙ ap (λ x. out_after_answer x a.out.now) f))
