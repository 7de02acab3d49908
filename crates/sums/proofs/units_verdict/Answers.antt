use Rattle.std.specs.Prelude.{option_copied}
use Rattle.std.proofs.lemmas.Result.{err_from_is_err_and}
use mathlib.Core.Path.{sym, ◌∙◌}
use Rattle.units.proofs.Calls.{form_ok, form_err}
use Rattle.pairs.proofs.Calls.{opened_ok}
use Rattle.sums.proofs.Calls.{units_unopened, left_unused, right_unused, left_bad, right_judged}
use Rattle.sums.proofs.units_verdict.Goals as goal

pub returns-in_err-n : goal.returns-in_err-n
returns-in_err-n c =
    let g = c.args in
    let p = err_from_is_err_and c.from_residual.result c.from_residual.ensures.1 in
    rw (p.1, p.2) (units_unopened g.page.now (option_copied g.names) g.a g.b _ (sym c.in_err-n.was ∙ c.opened.ensures.0))

pub returns-then-not-is_used : goal.returns-then-not-is_used
returns-then-not-is_used c =
    let g = c.args in
    let o = opened_ok g.page.now (option_copied g.names) c.in_ok-n.n (sym c.in_ok-n.was ∙ c.opened.ensures.0) in
    let u = rw o.1 at (sym c.is_used.ensures ∙ c.if-not-is_used.true) in
    left_unused g.page.now (option_copied g.names) g.a g.b o.0 u

pub returns-then-not-is_used-2 : goal.returns-then-not-is_used-2
returns-then-not-is_used-2 c =
    let g = c.args in
    let o = opened_ok g.page.now (option_copied g.names) c.in_ok-n.n (sym c.in_ok-n.was ∙ c.opened.ensures.0) in
    let u = rw o.1 at (sym c.is_used.ensures ∙ c.if-not-is_used.false) in
    let w = rw o.1 at (sym c.is_used-2.ensures ∙ c.if-not-is_used-2.true) in
    right_unused g.page.now (option_copied g.names) g.a g.b o.0 u w

pub returns-in_err-unit_form : goal.returns-in_err-unit_form
returns-in_err-unit_form c =
    let g = c.args in
    let o = opened_ok g.page.now (option_copied g.names) c.in_ok-n.n (sym c.in_ok-n.was ∙ c.opened.ensures.0) in
    let u = rw o.1 at (sym c.is_used.ensures ∙ c.if-not-is_used.false) in
    let w = rw o.1 at (sym c.is_used-2.ensures ∙ c.if-not-is_used-2.false) in
    let p = err_from_is_err_and c.from_residual-in_err-unit_form.result c.from_residual-in_err-unit_form.ensures.1 in
    let x = form_err g.a _ (sym c.in_err-unit_form.was ∙ c.unit_form.ensures) in
    rw (p.1, p.2, x.1) (left_bad g.page.now (option_copied g.names) g.a g.b o.0 u w x.0)

pub returns : goal.returns
returns c =
    let g = c.args in
    let o = opened_ok g.page.now (option_copied g.names) c.in_ok-n.n (sym c.in_ok-n.was ∙ c.opened.ensures.0) in
    let u = rw o.1 at (sym c.is_used.ensures ∙ c.if-not-is_used.false) in
    let w = rw o.1 at (sym c.is_used-2.ensures ∙ c.if-not-is_used-2.false) in
    let x = form_ok g.a (sym c.in_ok-unit_form.was ∙ c.unit_form.ensures) in
    c.unit_form-2.ensures ∙ right_judged g.page.now (option_copied g.names) g.a g.b o.0 u w x
