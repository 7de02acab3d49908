use Rattle.std.specs.Prelude.{option_copied}
use Rattle.std.proofs.Common.{sym, arith}
use Rattle.std.proofs.lemmas.Result.{err_from_is_err_and}
use mathlib.Core.Path.{◌∙◌}
use Rattle.groups.specs.Groups.{walk}
use Rattle.pairs.specs.Page.{parents_in}
use Rattle.sums.proofs.Calls.{passed_held, passed_root, passed_left, sums_refused, sums_given}
use Rattle.sums.proofs.canonicalize.Goals as goal

pub returns-in_err-units_verdict : goal.returns-in_err-units_verdict
returns-in_err-units_verdict c =
    let p = err_from_is_err_and c.from_residual.result c.from_residual.ensures.1 in
    rw (p.1, p.2) (sums_refused _ _ _ _ (sym c.in_err-units_verdict.was ∙ c.units_verdict.ensures))

pub parents_of-parents-requires : goal.parents_of-parents-requires
parents_of-parents-requires c =
    let a = c.args in
    passed_held a.page.now (option_copied a.names) a.u a.u (sym c.units_verdict.ensures ∙ c.in_ok-units_verdict.was)

pub count-requires : goal.count-requires
count-requires c =
    let a = c.args in
    let h = passed_held a.page.now (option_copied a.names) a.u a.u (sym c.units_verdict.ensures ∙ c.in_ok-units_verdict.was) in
    omega (arith, h.room)

pub group_sums-requires : goal.group_sums-requires
group_sums-requires c =
    let a = c.args in
    passed_left a.page.now (option_copied a.names) a.u a.u (sym c.units_verdict.ensures ∙ c.in_ok-units_verdict.was)

pub returns : goal.returns
returns c =
    let a = c.args in
    let v = sym c.units_verdict.ensures ∙ c.in_ok-units_verdict.was in
    let k = c.count.result in
    rw (c.group_sums.ensures, c.parents_of-parents.ensures.0)
    (sums_given a.page.now (option_copied a.names) a.u (sym v) (walk k (parents_in a.page.now)) (λ s. passed_root a.page.now (option_copied a.names) a.u a.u v k s c.count.ensures.0))
