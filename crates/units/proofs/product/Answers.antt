use Rattle.std.proofs.lemmas.Result.{err_from_is_err_and}
use mathlib.Core.Path.{sym, ◌∙◌}
use Rattle.units.proofs.Calls.{form_ok, form_err, product_left, product_right}
use Rattle.units.proofs.product.Goals as goal

pub returns-in_err-unit_form : goal.returns-in_err-unit_form
returns-in_err-unit_form c =
    let a = c.args in
    let p = err_from_is_err_and c.from_residual.result c.from_residual.ensures.1 in
    let f = form_err a.a _ (sym c.in_err-unit_form.was ∙ c.unit_form.ensures) in
    rw (p.1, p.2, f.1) (product_left a.quotient a.a a.b f.0)

pub returns-in_err-unit_form-2 : goal.returns-in_err-unit_form-2
returns-in_err-unit_form-2 c =
    let a = c.args in
    let p = err_from_is_err_and c.from_residual-in_err-unit_form-2.result c.from_residual-in_err-unit_form-2.ensures.1 in
    let f = form_err a.b _ (sym c.in_err-unit_form-2.was ∙ c.unit_form-2.ensures) in
    rw (p.1, p.2, f.1) (product_right a.quotient a.a a.b (form_ok a.a (sym c.in_ok-unit_form.was ∙ c.unit_form.ensures)) f.0)
