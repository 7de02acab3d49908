use Rattle.std.proofs.lemmas.Result.{err_from_is_err_and}
use Rattle.std.proofs.Common.{Ok}
use Rattle.std.proofs.lemmas.Option.{cond_some}
use mathlib.Core.Path.{sym, ap, ◌∙◌}
use Rattle.pages.specs.Bytes.{count_of}
use Rattle.pages.proofs.Options.{none_cond}
use Rattle.units.proofs.Calls.{form_ok, form_err}
use Rattle.text.proofs.Calls.{text_broken, text_unused, text_bad_unit, formed_few, formed_used, sorted_writable, text_given}
use Rattle.text.proofs.unit_text.Goals as goal

pub returns-in_default : goal.returns-in_default
returns-in_default c = text_broken c.args.page.now c.args.u (none_cond _ c.args.page.now c.in_default.ensures)

pub returns-then-not-is_used : goal.returns-then-not-is_used
returns-then-not-is_used c =
    let t = cond_some _ c.args.page.now c.in-Some.names.page.now (sym c.in-Some.ensures) in
    text_unused c.args.page.now c.args.u t.0 c.count.result (c.count.ensures.0 ∙ ap count_of (sym t.1)) (sym c.is_used.ensures ∙ c.if-not-is_used.true)

pub returns-in_err-unit_form : goal.returns-in_err-unit_form
returns-in_err-unit_form c =
    let t = cond_some _ c.args.page.now c.in-Some.names.page.now (sym c.in-Some.ensures) in
    let p = err_from_is_err_and c.from_residual.result c.from_residual.ensures.1 in
    let f = form_err c.args.u _ (sym c.in_err-unit_form.was ∙ c.unit_form.ensures) in
    rw (p.1, p.2, f.1)
    (text_bad_unit c.args.page.now c.args.u t.0 c.count.result (c.count.ensures.0 ∙ ap count_of (sym t.1)) (sym c.is_used.ensures ∙ c.if-not-is_used.false) f.0)

pub by_name-unit-requires : goal.by_name-unit-requires
by_name-unit-requires c =
    let t = cond_some _ c.args.page.now c.in-Some.names.page.now (sym c.in-Some.ensures) in
    let used = sym c.is_used.ensures ∙ c.if-not-is_used.false in
    let formed = form_ok c.args.u (sym c.in_ok-unit_form.was ∙ c.unit_form.ensures) in
    let is = c.count.ensures.0 ∙ ap count_of (sym t.1) in
    rw (sym t.1) (
      formed_few c.args.page.now c.args.u t.0 c.count.result is used formed,
      formed_used c.args.page.now c.args.u t.0 c.count.result is used formed,
    )

pub invariant_of-line : goal.invariant_of-line
invariant_of-line c =
    let t = cond_some _ c.args.page.now c.in-Some.names.page.now (sym c.in-Some.ensures) in
    let used = sym c.is_used.ensures ∙ c.if-not-is_used.false in
    let formed = form_ok c.args.u (sym c.in_ok-unit_form.was ∙ c.unit_form.ensures) in
    let sorted = sorted_writable c.args.page.now c.args.u t.0 c.count.result (c.count.ensures.0 ∙ ap count_of (sym t.1)) used formed c.by_name-unit.result (rw (sym t.1) at c.by_name-unit.ensures) in
    rw (sym t.1) (record { writable = ∣ sorted ∣₁ })

pub returns : goal.returns
returns c =
    let t = cond_some _ c.args.page.now c.in-Some.names.page.now (sym c.in-Some.ensures) in
    let used = sym c.is_used.ensures ∙ c.if-not-is_used.false in
    let formed = form_ok c.args.u (sym c.in_ok-unit_form.was ∙ c.unit_form.ensures) in
    ap Ok (rw (sym t.1) at c.text.ensures)
    ∙ text_given c.args.page.now c.args.u t.0 c.count.result (c.count.ensures.0 ∙ ap count_of (sym t.1)) used formed c.by_name-unit.result (rw (sym t.1) at c.by_name-unit.ensures)
