use Rattle.std.specs.Prelude.{option_copied}
use Rattle.std.proofs.lemmas.Result.{err_from_is_err_and}
use mathlib.Core.Path.{sym, ◌∙◌}
use native.Mathlib.Omega.{arith}
use Rattle.names.specs.Calls.{used_of}
use Rattle.groups.specs.Groups.{walk}
use Rattle.types.proofs.Calls.{unbroken_both, opened_ok}
use Rattle.pairs.proofs.Page.{formed_held}
use Rattle.pairs.proofs.Calls.{unbroken, table_ok, root_in}
use Rattle.answers.proofs.Calls.{passed_formed, passed_used, binary_undefined, binary_unopened, binary_unformed, binary_unfit, binary_passed}
use borrow.Author.Rules.{rules}
use Rattle.answers.proofs.check_binary_operator.Goals as goal

pub returns-then-not-is_operator : goal.returns-then-not-is_operator
returns-then-not-is_operator c =
    binary_undefined c.args.page.now (option_copied c.args.names) c.args.table.now c.args.op c.args.left c.args.right
    (sym c.is_operator.ensures ∙ c.if-not-is_operator.true)

pub returns-in_err-n : goal.returns-in_err-n
returns-in_err-n c =
    let p = err_from_is_err_and c.from_residual.result c.from_residual.ensures.1 in
    rw (p.1, p.2) (binary_unopened c.args.page.now (option_copied c.args.names) c.args.table.now c.args.op c.args.left c.args.right (sym c.is_operator.ensures ∙ c.if-not-is_operator.false) _ (sym c.in_err-n.was ∙ c.opened.ensures.0))

pub returns-in_err-form_verdict : goal.returns-in_err-form_verdict
returns-in_err-form_verdict c =
    let p = err_from_is_err_and c.from_residual-in_err-form_verdict.result c.from_residual-in_err-form_verdict.ensures.1 in
    let o = opened_ok c.args.page.now (option_copied c.args.names) c.in_ok-n.n (sym c.in_ok-n.was ∙ c.opened.ensures.0) in
    rw (p.1, p.2) (binary_unformed c.args.page.now (option_copied c.args.names) c.args.table.now c.args.op c.args.left c.args.right (sym c.is_operator.ensures ∙ c.if-not-is_operator.false) o.0 c.in_ok-n.n o.1 _ (sym c.in_err-form_verdict.was ∙ c.form_verdict.ensures))

pub returns-in_err-operands_verdict : goal.returns-in_err-operands_verdict
returns-in_err-operands_verdict c =
    let p = err_from_is_err_and c.from_residual-in_err-operands_verdict.result c.from_residual-in_err-operands_verdict.ensures.1 in
    let o = opened_ok c.args.page.now (option_copied c.args.names) c.in_ok-n.n (sym c.in_ok-n.was ∙ c.opened.ensures.0) in
    let t = table_ok c.args.table.now (option_copied c.args.names) (unbroken_both c.args.page.now (option_copied c.args.names) o.0).0 c.in_ok-n.n o.1 (sym c.in_ok-form_verdict.was ∙ c.form_verdict.ensures) in
    rw (p.1, p.2) (binary_unfit c.args.page.now (option_copied c.args.names) c.args.table.now c.args.op c.args.left c.args.right (sym c.is_operator.ensures ∙ c.if-not-is_operator.false) o.0 t _
    (sym c.in_err-operands_verdict.was ∙ rw o.1 at (rw c.store-store.ensures.0 at c.operands_verdict.ensures)))

pub fill_leaves-requires : goal.fill_leaves-requires
fill_leaves-requires c = (omega arith, search rules)

pub parents_of-parents-requires : goal.parents_of-parents-requires
parents_of-parents-requires c =
    let table = c.args.table.now in
    let names = option_copied c.args.names in
    let o = opened_ok c.args.page.now (option_copied c.args.names) c.in_ok-n.n (sym c.in_ok-n.was ∙ c.opened.ensures.0) in
    let t = table_ok c.args.table.now (option_copied c.args.names) (unbroken_both c.args.page.now (option_copied c.args.names) o.0).0 c.in_ok-n.n o.1 (sym c.in_ok-form_verdict.was ∙ c.form_verdict.ensures) in
    formed_held table (used_of names) (unbroken table names t).1

pub count-requires : goal.count-requires
count-requires c =
    let table = c.args.table.now in
    let names = option_copied c.args.names in
    let o = opened_ok c.args.page.now (option_copied c.args.names) c.in_ok-n.n (sym c.in_ok-n.was ∙ c.opened.ensures.0) in
    let t = table_ok c.args.table.now (option_copied c.args.names) (unbroken_both c.args.page.now (option_copied c.args.names) o.0).0 c.in_ok-n.n o.1 (sym c.in_ok-form_verdict.was ∙ c.form_verdict.ensures) in
    omega (arith, (formed_held table (used_of names) (unbroken table names t).1).room)

pub binary_checked-requires : goal.binary_checked-requires
binary_checked-requires c =
    let page = c.args.page.now in
    let n = c.in_ok-n.n in
    let left = c.args.left in
    let right = c.args.right in
    let v = sym (rw c.store-store.ensures.0 at c.operands_verdict.ensures) ∙ c.in_ok-operands_verdict.was in
    let used = passed_used page n left right v in
    let forms = passed_formed page n left right v in
    record { left_used = rw (c.new-leafed.ensures, c.store-store.ensures.0) used; left_value = forms }

pub returns : goal.returns
returns c =
    let table = c.args.table.now in
    let names = option_copied c.args.names in
    let o = opened_ok c.args.page.now (option_copied c.args.names) c.in_ok-n.n (sym c.in_ok-n.was ∙ c.opened.ensures.0) in
    let t = table_ok c.args.table.now (option_copied c.args.names) (unbroken_both c.args.page.now (option_copied c.args.names) o.0).0 c.in_ok-n.n o.1 (sym c.in_ok-form_verdict.was ∙ c.form_verdict.ensures) in
    (rw (c.new-leafed.ensures, c.store-store.ensures.0) at c.binary_checked.ensures) ∙ binary_passed c.args.page.now (option_copied c.args.names) c.args.table.now c.args.op c.args.left c.args.right (sym c.is_operator.ensures ∙ c.if-not-is_operator.false) o.0 t
    (sym c.in_ok-operands_verdict.was ∙ rw o.1 at (rw c.store-store.ensures.0 at c.operands_verdict.ensures))
    (walk c.count.result c.parents_of-parents.result)
    (λ s. rw c.parents_of-parents.ensures.0 (root_in table (used_of names) c.count.result s (unbroken table names t).1 c.count.ensures.0))
