use Rattle.std.specs.Prelude.{option_copied}
use Rattle.std.proofs.lemmas.Result.{err_from_is_err_and}
use mathlib.Core.Path.{sym, ◌∙◌}
use native.Mathlib.Omega.{arith}
use Rattle.types.proofs.Calls.{opened_ok}
use Rattle.answers.proofs.Calls.{passed_used, unary_undefined, unary_unopened, unary_unfit, unary_passed}
use borrow.Author.Rules.{rules}
use Rattle.answers.proofs.check_unary_operator.Goals as goal

pub returns-then-not-is_operator : goal.returns-then-not-is_operator
returns-then-not-is_operator c =
    unary_undefined c.args.page.now (option_copied c.args.names) c.args.op c.args.x (sym c.is_operator.ensures ∙ c.if-not-is_operator.true)

pub returns-in_err-n : goal.returns-in_err-n
returns-in_err-n c =
    let p = err_from_is_err_and c.from_residual.result c.from_residual.ensures.1 in
    rw (p.1, p.2) (unary_unopened c.args.page.now (option_copied c.args.names) c.args.op c.args.x (sym c.is_operator.ensures ∙ c.if-not-is_operator.false)
    _ (sym c.in_err-n.was ∙ c.opened.ensures.0))

pub returns-in_err-operands_verdict : goal.returns-in_err-operands_verdict
returns-in_err-operands_verdict c =
    let p = err_from_is_err_and c.from_residual-in_err-operands_verdict.result c.from_residual-in_err-operands_verdict.ensures.1 in
    let o = opened_ok c.args.page.now (option_copied c.args.names) c.in_ok-n.n (sym c.in_ok-n.was ∙ c.opened.ensures.0) in
    rw (p.1, p.2) (unary_unfit c.args.page.now (option_copied c.args.names) c.args.op c.args.x
    (sym c.is_operator.ensures ∙ c.if-not-is_operator.false) o.0 _
    (sym c.in_err-operands_verdict.was ∙ rw o.1 at (rw c.store-store.ensures.0 at c.operands_verdict.ensures)))

pub fill_leaves-requires : goal.fill_leaves-requires
fill_leaves-requires c = (omega arith, search rules)

pub unary_checked-requires : goal.unary_checked-requires
unary_checked-requires c =
    let v = sym (rw c.store-store.ensures.0 at c.operands_verdict.ensures) ∙ c.in_ok-operands_verdict.was in record {
      leaves = rw c.store-store.ensures.0 at c.fill_leaves.ensures.leaves;
      op_value = (sym c.is_operator.ensures ∙ c.if-not-is_operator.false, (passed_used c.args.page.now c.in_ok-n.n c.args.x c.args.x v).0);
    }

pub returns : goal.returns
returns c =
    let o = opened_ok c.args.page.now (option_copied c.args.names) c.in_ok-n.n (sym c.in_ok-n.was ∙ c.opened.ensures.0) in
    let z = unary_passed c.args.page.now (option_copied c.args.names) c.args.op c.args.x
    (sym c.is_operator.ensures ∙ c.if-not-is_operator.false) o.0
    (sym c.in_ok-operands_verdict.was ∙ rw o.1 at (rw c.store-store.ensures.0 at c.operands_verdict.ensures)) c.unary_checked.ensures.value
    c.unary_checked.ensures.page_after in
    (z.0, search (rules, z.1))
