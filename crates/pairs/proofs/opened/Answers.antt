use Rattle.std.specs.Prelude.{option_copied}
use Rattle.std.proofs.lemmas.Result.{err_from_is_err_and}
use mathlib.Core.Path.{sym, ◌∙◌}
use Rattle.names.proofs.Calls.{used_ok, used_err}
use Rattle.pairs.proofs.Calls.{opened_unnamed, opened_unformed, opened_passed}
use Rattle.pairs.proofs.opened.Goals as goal

pub returns-in_err-n : goal.returns-in_err-n
returns-in_err-n c =
    let names = option_copied c.args.names in
    let p = err_from_is_err_and c.from_residual.result c.from_residual.ensures.1 in
    let b = used_err names _ (sym c.in_err-n.was ∙ c.used_in.ensures.0) in
    rw (p.1, p.2, b.1) (opened_unnamed c.args.page.now names b.0, tt)

pub returns-in_err-form_verdict : goal.returns-in_err-form_verdict
returns-in_err-form_verdict c =
    let names = option_copied c.args.names in
    let p = err_from_is_err_and c.from_residual-in_err-form_verdict.result c.from_residual-in_err-form_verdict.ensures.1 in
    let k = used_ok names c.in_ok-n.n (sym c.in_ok-n.was ∙ c.used_in.ensures.0) in
    rw (p.1, p.2) (opened_unformed c.args.page.now names k.0 c.in_ok-n.n k.1 _ (sym c.in_err-form_verdict.was ∙ c.form_verdict.ensures), tt)

pub returns : goal.returns
returns c =
    let names = option_copied c.args.names in
    let k = used_ok names c.in_ok-n.n (sym c.in_ok-n.was ∙ c.used_in.ensures.0) in
    let few = rw c.in_ok-n.was at c.used_in.ensures.1 in
    (opened_passed c.args.page.now names k.0 c.in_ok-n.n k.1 (sym c.in_ok-form_verdict.was ∙ c.form_verdict.ensures), few)
