use Rattle.std.proofs.Common.{sym, ap}
use Rattle.std.proofs.lemmas.Result.{err_from_is_err_and}
use mathlib.Core.Path.{◌∙◌}
use Rattle.std.proofs.Common.{Ok}
use Rattle.members.specs.Members.{Concluded}
use Rattle.indexing.specs.Indexing.{check_index}
use Rattle.types.proofs.Types.{formed_by}
use Rattle.indexing.proofs.Indexing.{index_refused}
use Rattle.answers.proofs.Calls.{index_is, index_stopped}
use Rattle.answers.proofs.index_checked.Goals as goal

pub returns : goal.returns
returns c =
    let check = c.check_index in
    let page = c.args.maker.now.page.now in
    let k =
    index_is page (check_index page c.args.key c.args.target.checked) check.result _ check.ensures.page_after
    c.args.target.unit _ c.in_ok-o.was in
    record { value = ap Ok c.answer.ensures ∙ k.0; page_after = k.1; noted_2 = check.ensures.noted_2; same = check.ensures.same }

pub returns-in_err-o : goal.returns-in_err-o
returns-in_err-o c =
    let check = c.check_index in
    let page = c.args.maker.now.page.now in
    let z = check_index page c.args.key c.args.target.checked in
    let p = err_from_is_err_and c.from_residual.result c.from_residual.ensures.1 in
    let stopped = ap (λ (y : Concluded). y.conclusion) (sym check.ensures.page_after) ∙ c.in_err-o.was in
    let k =
    index_stopped page z check.result _ check.ensures.page_after c.args.target.unit _ c.in_err-o.was
    (index_refused page (formed_by c.args.maker.now.measured) c.args.key c.args.target.checked _ stopped) in
    record { value = rw (p.1, p.2) k.0; page_after = k.1; noted_2 = check.ensures.noted_2; same = check.ensures.same }
