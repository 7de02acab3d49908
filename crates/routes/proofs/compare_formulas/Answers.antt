use Rattle.std.specs.Prelude.{option_copied}
use Rattle.std.proofs.lemmas.Result.{err_from_is_err_and}
use mathlib.Core.Path.{◌≡◌, refl, sym, ◌∙◌}
use Prim.Native.Nat.{min}
use lib.ListN.{length}
use Rattle.types.proofs.Calls.{opened_ok, unbroken_both}
use Rattle.checked.proofs.Calls.{end_there, grown_back, grown_asks}
use Rattle.pairs.specs.Page.{table_max}
use Rattle.pairs.proofs.Calls.{table_ok}
use Rattle.pairs.proofs.Run.{run_far}
use Rattle.routes.specs.Run.{pairs_lent, formula_lent, requests_in}
use Rattle.routes.proofs.Called.{first_refused, unopened, untabled, cut, ended, done, table_formed, restored, kept_is}
use Rattle.routes.proofs.compare_formulas.Goals as goal

pub returns-in_err-first_verdict : goal.returns-in_err-first_verdict
returns-in_err-first_verdict c =
    let a = c.args in
    let page = a.page.now in
    let names = option_copied a.names in
    let table = a.table.now in
    let f = formula_lent a.left.nodes.now a.left.root in
    let g = formula_lent a.right.nodes.now a.right.root in
    let p = err_from_is_err_and c.from_residual.result c.from_residual.ensures.1 in
    rw (p.1, p.2) (first_refused page names table a.requests.now f g _ (sym c.in_err-first_verdict.was ∙ rw c.nodes_lent.ensures at c.first_verdict.ensures))

pub returns-in_err-used : goal.returns-in_err-used
returns-in_err-used c =
    let a = c.args in
    let page = a.page.now in
    let names = option_copied a.names in
    let table = a.table.now in
    let f = formula_lent a.left.nodes.now a.left.root in
    let g = formula_lent a.right.nodes.now a.right.root in
    let d = sym c.in_ok-first_verdict.was ∙ rw c.nodes_lent.ensures at c.first_verdict.ensures in
    let p = err_from_is_err_and c.from_residual-in_err-used.result c.from_residual-in_err-used.ensures.1 in
    rw (p.1, p.2) (unopened page names table a.requests.now f g d _ (sym c.in_err-used.was ∙ c.opened.ensures.0))

pub returns-in_err-form_verdict : goal.returns-in_err-form_verdict
returns-in_err-form_verdict c =
    let a = c.args in
    let page = a.page.now in
    let names = option_copied a.names in
    let table = a.table.now in
    let f = formula_lent a.left.nodes.now a.left.root in
    let g = formula_lent a.right.nodes.now a.right.root in
    let d = sym c.in_ok-first_verdict.was ∙ rw c.nodes_lent.ensures at c.first_verdict.ensures in
    let o = opened_ok page names c.in_ok-used.used (sym c.in_ok-used.was ∙ c.opened.ensures.0) in
    let p = err_from_is_err_and c.from_residual-in_err-form_verdict.result c.from_residual-in_err-form_verdict.ensures.1 in
    rw (p.1, p.2) (untabled page names table a.requests.now f g d o.0 _ o.1 _ (sym c.in_err-form_verdict.was ∙ c.form_verdict.ensures))

pub returns-then-are_cut : goal.returns-then-are_cut
returns-then-are_cut c =
    let a = c.args in
    let page = a.page.now in
    let names = option_copied a.names in
    let table = a.table.now in
    let f = formula_lent a.left.nodes.now a.left.root in
    let g = formula_lent a.right.nodes.now a.right.root in
    let d = sym c.in_ok-first_verdict.was ∙ rw c.nodes_lent.ensures at c.first_verdict.ensures in
    let o = opened_ok page names c.in_ok-used.used (sym c.in_ok-used.was ∙ c.opened.ensures.0) in
    let t = table_ok table names (unbroken_both page names o.0).0 c.in_ok-used.used o.1 (sym c.in_ok-form_verdict.was ∙ c.form_verdict.ensures) in
    cut page names table a.requests.now f g d o.0 t (sym c.are_cut.ensures ∙ c.if-are_cut.true)

pub compare_after-answer-requires-clause-form : goal.compare_after-answer-requires-clause-form
compare_after-answer-requires-clause-form c =
    let a = c.args in
    let page = a.page.now in
    let names = option_copied a.names in
    let table = a.table.now in
    let f = formula_lent a.left.nodes.now a.left.root in
    let g = formula_lent a.right.nodes.now a.right.root in
    let o = opened_ok page names c.in_ok-used.used (sym c.in_ok-used.was ∙ c.opened.ensures.0) in
    let t = table_ok table names (unbroken_both page names o.0).0 c.in_ok-used.used o.1 (sym c.in_ok-form_verdict.was ∙ c.form_verdict.ensures) in
    rw (c.insert_all.ensures, c.pairs_lent.ensures) (table_formed names table t (pairs_lent a.requests.now))

pub compare_after-answer-requires-clause-names : goal.compare_after-answer-requires-clause-names
compare_after-answer-requires-clause-names c =
    let a = c.args in
    let page = a.page.now in
    let names = option_copied a.names in
    let table = a.table.now in
    let f = formula_lent a.left.nodes.now a.left.root in
    let g = formula_lent a.right.nodes.now a.right.root in
    let o = opened_ok page names c.in_ok-used.used (sym c.in_ok-used.was ∙ c.opened.ensures.0) in
    o.1

pub take_back-requires : goal.take_back-requires
take_back-requires c =
    let a = c.args in
    let page = a.page.now in
    let names = option_copied a.names in
    let table = a.table.now in
    let f = formula_lent a.left.nodes.now a.left.root in
    let g = formula_lent a.right.nodes.now a.right.root in
    let m = (rw c.in_ok-used.was at c.opened.ensures.1).1 in
    let e = end_there page c.count.result c.place_of-end.result (rw c.store-store.ensures.0 at c.count.ensures) (rw c.store-store.ensures.0 at c.place_of-end.ensures) in
    grown_asks page _ _ m _ c.in-Err.ensures.grown.0 c.place_of-end.result e

pub returns-in-Err : goal.returns-in-Err
returns-in-Err c =
    let a = c.args in
    let page = a.page.now in
    let names = option_copied a.names in
    let table = a.table.now in
    let f = formula_lent a.left.nodes.now a.left.root in
    let g = formula_lent a.right.nodes.now a.right.root in
    let d = sym c.in_ok-first_verdict.was ∙ rw c.nodes_lent.ensures at c.first_verdict.ensures in
    let o = opened_ok page names c.in_ok-used.used (sym c.in_ok-used.was ∙ c.opened.ensures.0) in
    let t = table_ok table names (unbroken_both page names o.0).0 c.in_ok-used.used o.1 (sym c.in_ok-form_verdict.was ∙ c.form_verdict.ensures) in
    let m = (rw c.in_ok-used.was at c.opened.ensures.1).1 in
    let e = end_there page c.count.result c.place_of-end.result (rw c.store-store.ensures.0 at c.count.ensures) (rw c.store-store.ensures.0 at c.place_of-end.ensures) in
    let back = rw (c.front-front.ensures, c.store-store.ensures.0) at c.take_back.ensures ∙ grown_back page _ _ m _ c.in-Err.ensures.grown.0 c.place_of-end.result e in
    let rs = requests_in names a.requests.now in
    let far = run_far rs table in
    let n : c.min-n.result ≡ min (length table) table_max = c.min-n.ensures in
    let kept = kept_is table c.min-n.result n _ _ c.put_bytes.ensures refl in
    let whole = c.put_bytes-in-Err.ensures ∙ restored table _ c.min-n.result n (rw (c.insert_all.ensures, c.pairs_lent.ensures) far.0) (rw (c.insert_all.ensures, c.pairs_lent.ensures) far.1) _ kept in
    let v = rw (c.insert_all.ensures, c.pairs_lent.ensures) at c.in-Err.ensures.value in
    rw (back, whole, c.in-Err.is) (ended page names table a.requests.now f g d o.0 t (sym c.are_cut.ensures ∙ c.if-are_cut.false) _ v _ refl)

pub returns-in_default : goal.returns-in_default
returns-in_default c =
    let a = c.args in
    let page = a.page.now in
    let names = option_copied a.names in
    let table = a.table.now in
    let f = formula_lent a.left.nodes.now a.left.root in
    let g = formula_lent a.right.nodes.now a.right.root in
    let d = sym c.in_ok-first_verdict.was ∙ rw c.nodes_lent.ensures at c.first_verdict.ensures in
    let o = opened_ok page names c.in_ok-used.used (sym c.in_ok-used.was ∙ c.opened.ensures.0) in
    let t = table_ok table names (unbroken_both page names o.0).0 c.in_ok-used.used o.1 (sym c.in_ok-form_verdict.was ∙ c.form_verdict.ensures) in
    let v = rw (c.insert_all.ensures, c.pairs_lent.ensures) at c.in_default.ensures.value in
    rw c.in_default.is
    (done page names table a.requests.now f g d o.0 t (sym c.are_cut.ensures ∙ c.if-are_cut.false) _ v _ refl _ _
    (rw (c.insert_all.ensures, c.pairs_lent.ensures) at c.in_default.ensures.page_after) (c.insert_all.ensures ∙ rw c.pairs_lent.ensures refl))
