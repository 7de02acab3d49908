use Rattle.std.specs.Prelude.{option_copied}
use Rattle.std.proofs.lemmas.Result.{err_from_is_err_and}
use mathlib.Core.Path.{sym, ◌∙◌}
use native.Mathlib.Omega.{arith}
use Rattle.names.specs.Calls.{used_of}
use Rattle.groups.specs.Groups.{walk}
use Rattle.types.proofs.Calls.{opened_ok, unbroken_both}
use Rattle.pairs.proofs.Page.{formed_held}
use Rattle.pairs.proofs.Calls.{table_ok, unbroken, root_in}
use Rattle.formulas.proofs.Calls.{first_refused_lem, unopened, untabled, cut, whole}
use Rattle.formulas.proofs.check_formula.Goals as goal

pub returns-in_err-first_verdict : goal.returns-in_err-first_verdict
returns-in_err-first_verdict c =
    let p = err_from_is_err_and c.from_residual.result c.from_residual.ensures.1 in
    rw (p.1, p.2) (first_refused_lem c.args.page.now (option_copied c.args.names) c.args.table.now c.args.nodes.now c.args.root _
    (sym c.in_err-first_verdict.was ∙ rw c.nodes_lent-bodies.ensures at c.first_verdict.ensures))

pub returns-in_err-used : goal.returns-in_err-used
returns-in_err-used c =
    let p = err_from_is_err_and c.from_residual-in_err-used.result c.from_residual-in_err-used.ensures.1 in
    let d = sym c.in_ok-first_verdict.was ∙ rw c.nodes_lent-bodies.ensures at c.first_verdict.ensures in
    rw (p.1, p.2) (unopened c.args.page.now (option_copied c.args.names) c.args.table.now c.args.nodes.now c.args.root d _ (sym c.in_err-used.was ∙ c.opened.ensures.0))

pub returns-in_err-form_verdict : goal.returns-in_err-form_verdict
returns-in_err-form_verdict c =
    let p = err_from_is_err_and c.from_residual-in_err-form_verdict.result c.from_residual-in_err-form_verdict.ensures.1 in
    let page = c.args.page.now in
    let names = option_copied c.args.names in
    let d = sym c.in_ok-first_verdict.was ∙ rw c.nodes_lent-bodies.ensures at c.first_verdict.ensures in
    let o = opened_ok page names c.in_ok-used.used (sym c.in_ok-used.was ∙ c.opened.ensures.0) in
    rw (p.1, p.2) (untabled page names c.args.table.now c.args.nodes.now c.args.root d o.0 _ o.1 _ (sym c.in_err-form_verdict.was ∙ c.form_verdict.ensures))

pub returns-then-is_cut : goal.returns-then-is_cut
returns-then-is_cut c =
    let page = c.args.page.now in
    let names = option_copied c.args.names in
    let table = c.args.table.now in
    let d = sym c.in_ok-first_verdict.was ∙ rw c.nodes_lent-bodies.ensures at c.first_verdict.ensures in
    let o = opened_ok page names c.in_ok-used.used (sym c.in_ok-used.was ∙ c.opened.ensures.0) in
    let t = table_ok table names (unbroken_both page names o.0).0 c.in_ok-used.used o.1 (sym c.in_ok-form_verdict.was ∙ c.form_verdict.ensures) in
    cut page names table c.args.nodes.now c.args.root d o.0 t (sym c.is_cut.ensures ∙ c.if-is_cut.true)

pub parents_of-parents-requires : goal.parents_of-parents-requires
parents_of-parents-requires c =
    let page = c.args.page.now in
    let names = option_copied c.args.names in
    let table = c.args.table.now in
    let o = opened_ok page names c.in_ok-used.used (sym c.in_ok-used.was ∙ c.opened.ensures.0) in
    let t = table_ok table names (unbroken_both page names o.0).0 c.in_ok-used.used o.1 (sym c.in_ok-form_verdict.was ∙ c.form_verdict.ensures) in
    formed_held table (used_of names) (unbroken table names t).1

pub count-requires : goal.count-requires
count-requires c =
    let page = c.args.page.now in
    let names = option_copied c.args.names in
    let table = c.args.table.now in
    let o = opened_ok page names c.in_ok-used.used (sym c.in_ok-used.was ∙ c.opened.ensures.0) in
    let t = table_ok table names (unbroken_both page names o.0).0 c.in_ok-used.used o.1 (sym c.in_ok-form_verdict.was ∙ c.form_verdict.ensures) in
    omega (arith, (formed_held table (used_of names) (unbroken table names t).1).room)

pub returns : goal.returns
returns c =
    let page = c.args.page.now in
    let names = option_copied c.args.names in
    let table = c.args.table.now in
    let d = sym c.in_ok-first_verdict.was ∙ rw c.nodes_lent-bodies.ensures at c.first_verdict.ensures in
    let o = opened_ok page names c.in_ok-used.used (sym c.in_ok-used.was ∙ c.opened.ensures.0) in
    let t = table_ok table names (unbroken_both page names o.0).0 c.in_ok-used.used o.1 (sym c.in_ok-form_verdict.was ∙ c.form_verdict.ensures) in
    let z =
    whole page names table c.args.nodes.now c.args.root d o.0 t (sym c.is_cut.ensures ∙ c.if-is_cut.false) c.in_ok-used.used o.1
    (walk c.count.result c.parents_of-parents.result)
    (λ s. rw c.parents_of-parents.ensures.0 (root_in table (used_of names) c.count.result s (unbroken table names t).1 c.count.ensures.0)) in (
      rw c.nodes_lent-bodies.ensures at c.formula_checked.ensures.value ∙ z.0,
      rw c.nodes_lent-bodies.ensures at c.formula_checked.ensures.page_after ∙ z.1,
    )
