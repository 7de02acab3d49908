use Rattle.std.specs.Prelude.{option_copied}
use mathlib.Core.Path.{◌≡◌, refl, sym, ap, ◌∙◌}
use Rattle.calls.specs.Types.{checked_of}
use Rattle.calls.specs.Answers.{operand_of, answered_code, out_after_answer}
use Rattle.calls.proofs.Bytes.{value_some, value_none, index_alike}
use Rattle.calls.proofs.Answers.{index_few}
use Rattle.calls.proofs.riddlepoppy_check_index.Goals as goal

pub unread_operands-requires : goal.unread_operands-requires
unread_operands-requires c = rw (value_none c.args.unit.now _ (sym c.read_value.ensures ∙ c.in_default.is)).0 refl

pub written_down-requires : goal.written_down-requires
written_down-requires c =
    let a = c.args in
    let names = option_copied c.lent_names-names.result in
    let e = rw c.checked_of.ensures at c.check_index-answer.ensures in
    rw e.0 (index_few a.page.now names c.operand_of-x.result (checked_of a.key))

pub returns-clause-value : goal.returns-clause-value
returns-clause-value c =
    let a = c.args in
    let names = option_copied c.lent_names-names.result in
    let u = value_some a.unit.now _ (sym c.read_value.ensures ∙ c.in-Ok.is) in
    let x : c.operand_of-x.result ≡ operand_of a.target a.unit.now = c.operand_of-x.ensures ∙ ap (λ m. record { checked = checked_of a.target; unit = m }) u.1 in
    let e = rw (x, c.checked_of.ensures) at c.check_index-answer.ensures in
    let f = e.0 ∙ (index_alike a.page.now names a.target a.unit.now a.key u.0).0 in
    let w = c.written_down.ensures in
    rw (← c.lent_names-names.ensures) ((w.0 ∙ ap answered_code f, w.1 ∙ ap (λ y. out_after_answer y a.out.now) f))

pub returns-clause-page_after : goal.returns-clause-page_after
returns-clause-page_after c =
    let a = c.args in
    let names = option_copied c.lent_names-names.result in
    let u = value_some a.unit.now _ (sym c.read_value.ensures ∙ c.in-Ok.is) in
    let x : c.operand_of-x.result ≡ operand_of a.target a.unit.now = c.operand_of-x.ensures ∙ ap (λ m. record { checked = checked_of a.target; unit = m }) u.1 in
    let e = rw (x, c.checked_of.ensures) at c.check_index-answer.ensures in
    rw (← c.lent_names-names.ensures) (e.1 ∙ (index_alike a.page.now names a.target a.unit.now a.key u.0).1)
