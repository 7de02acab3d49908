use Rattle.std.specs.Prelude.{option_copied}
use Rattle.std.proofs.lemmas.Result.{err_from_is_err_and}
use mathlib.Core.Path.{sym, ◌∙◌}
use Rattle.names.proofs.Calls.{used_ok, used_err}
use Rattle.types.proofs.Calls.{opened_unnamed, opened_unformed, opened_passed}
use Rattle.types.proofs.Surveyed.{unopened, opened_is}
use Rattle.types.proofs.opened.Goals as goal

pub returns-in_err-n : goal.returns-in_err-n
returns-in_err-n c =
    let page = c.args.page.now in
    let names = option_copied c.args.names in
    let p = err_from_is_err_and c.from_residual.result c.from_residual.ensures.1 in
    let b = used_err names _ (sym c.in_err-n.was ∙ c.used_in.ensures.0) in
    let u = unopened page names c.args.tables.now.offsets c.args.tables.now.depths b.0 in
    rw (p.1, p.2, b.1) (opened_unnamed page names b.0, tt, u.0, u.1)

pub returns-in_err-survey : goal.returns-in_err-survey
returns-in_err-survey c =
    let page = c.args.page.now in
    let names = option_copied c.args.names in
    let p = err_from_is_err_and c.from_residual-in_err-survey.result c.from_residual-in_err-survey.ensures.1 in
    let k = used_ok names c.in_ok-n.n (sym c.in_ok-n.was ∙ c.used_in.ensures.0) in
    let u = opened_is page names c.args.tables.now.offsets c.args.tables.now.depths k.0 c.in_ok-n.n k.1 in
    let s = c.survey.ensures in
    rw (p.1, p.2) (opened_unformed page names k.0 c.in_ok-n.n k.1 _ (sym c.in_err-survey.was ∙ s.0), tt, s.2 ∙ u.0, s.3 ∙ u.1)

pub returns : goal.returns
returns c =
    let page = c.args.page.now in
    let names = option_copied c.args.names in
    let k = used_ok names c.in_ok-n.n (sym c.in_ok-n.was ∙ c.used_in.ensures.0) in
    let u = opened_is page names c.args.tables.now.offsets c.args.tables.now.depths k.0 c.in_ok-n.n k.1 in
    let s = rw c.in_ok-survey.was at c.survey.ensures in
    let few = rw c.in_ok-n.was at c.used_in.ensures.1 in
    (opened_passed page names k.0 c.in_ok-n.n k.1 s.0, (few, s.1), s.2 ∙ u.0, s.3 ∙ u.1)
