use Rattle.std.specs.Prelude.{option_copied}
use Rattle.std.proofs.lemmas.Result.{err_from_is_err_and}
use mathlib.Core.Path.{sym, ◌∙◌}
use Rattle.std.proofs.Common.{None}
use Rattle.types.proofs.Calls.{opened_ok}
use Rattle.answers.proofs.Calls.{passed_used, index_unopened, index_unfit, index_passed}
use borrow.Author.Rules.{rules}
use Rattle.answers.proofs.check_index.Goals as goal

pub returns-in_err-n : goal.returns-in_err-n
returns-in_err-n c =
    let p = err_from_is_err_and c.from_residual.result c.from_residual.ensures.1 in
    rw (p.1, p.2) (index_unopened c.args.page.now (option_copied c.args.names) c.args.target c.args.key _ (sym c.in_err-n.was ∙ c.opened.ensures.0))

pub returns-in_err-operands_verdict : goal.returns-in_err-operands_verdict
returns-in_err-operands_verdict c =
    let p = err_from_is_err_and c.from_residual-in_err-operands_verdict.result c.from_residual-in_err-operands_verdict.ensures.1 in
    let o = opened_ok c.args.page.now (option_copied c.args.names) c.in_ok-n.n (sym c.in_ok-n.was ∙ c.opened.ensures.0) in
    rw (p.1, p.2) (index_unfit c.args.page.now (option_copied c.args.names) c.args.target c.args.key o.0 _
    (sym c.in_err-operands_verdict.was ∙ rw o.1 at (rw c.store.ensures.0 at c.operands_verdict.ensures)))

pub index_in-requires : goal.index_in-requires
index_in-requires c =
    let v = sym (rw c.store.ensures.0 at c.operands_verdict.ensures) ∙ c.in_ok-operands_verdict.was in
    passed_used c.args.page.now c.in_ok-n.n c.args.target (record { checked = c.args.key; unit = None }) v

pub returns : goal.returns
returns c =
    let o = opened_ok c.args.page.now (option_copied c.args.names) c.in_ok-n.n (sym c.in_ok-n.was ∙ c.opened.ensures.0) in
    let z = index_passed c.args.page.now (option_copied c.args.names) c.args.target c.args.key o.0
    (sym c.in_ok-operands_verdict.was ∙ rw o.1 at (rw c.store.ensures.0 at c.operands_verdict.ensures)) c.index_in.ensures.value
    c.index_in.ensures.page_after in
    (z.0, search (rules, z.1))
