use Rattle.std.specs.Prelude.{option_copied}
use mathlib.Core.Path.{sym, ap, ◌∙◌}
use Rattle.sums.specs.Calls.{convert_answer}
use Rattle.calls.specs.Codes.{answer_code}
use Rattle.calls.proofs.Bytes.{units_read, convert_alike}
use Rattle.calls.proofs.riddlepoppy_is_convertible_to.Goals as goal

pub returns : goal.returns
returns c =
    let a = c.args in
    let names = option_copied c.lent_names-names.result in
    let l = a.left.now in
    let r = a.right.now in
    let u = units_read l r _ (sym c.units_in.ensures ∙ c.in-Some.is) in
    let both = ap (λ p. convert_answer a.page.now names p.0 p.1) u.1 in
    rw (← c.lent_names-names.ensures) (c.answer_code.ensures ∙ ap answer_code (c.is_convertible_to.ensures ∙ both ∙ convert_alike a.page.now names l r u.0))
