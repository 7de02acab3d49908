use Rattle.std.specs.Prelude.{option_copied}
use Rattle.std.proofs.Common.{sym, arith}
use Rattle.std.proofs.lemmas.Result.{err_from_is_err_and}
use mathlib.Core.Path.{◌∙◌}
use Rattle.groups.specs.Groups.{walk}
use Rattle.pairs.specs.Page.{parents_in}
use Rattle.sums.specs.Calls.{or_empty}
use Rattle.sums.proofs.Calls.{passed_held, passed_root, passed_left, passed_right, convert_refused, convert_given}
use Rattle.sums.proofs.is_convertible_to.Goals as goal

pub returns-in_err-units_verdict : goal.returns-in_err-units_verdict
returns-in_err-units_verdict c =
    let p = err_from_is_err_and c.from_residual.result c.from_residual.ensures.1 in
    let v = rw (c.or_empty-a.ensures, c.or_empty-b.ensures) at c.units_verdict.ensures in
    rw (p.1, p.2) (convert_refused _ _ _ _ _ (sym c.in_err-units_verdict.was ∙ v))

pub parents_of-parents-requires : goal.parents_of-parents-requires
parents_of-parents-requires c =
    let a = c.args in
    passed_held a.page.now (option_copied a.names) c.or_empty-a.result c.or_empty-b.result (sym c.units_verdict.ensures ∙ c.in_ok-units_verdict.was)

pub count-requires : goal.count-requires
count-requires c =
    let a = c.args in
    let h = passed_held a.page.now (option_copied a.names) c.or_empty-a.result c.or_empty-b.result (sym c.units_verdict.ensures ∙ c.in_ok-units_verdict.was) in
    omega (arith, h.room)

pub convertible-requires : goal.convertible-requires
convertible-requires c =
    let a = c.args in
    let v = sym c.units_verdict.ensures ∙ c.in_ok-units_verdict.was in
    (passed_left a.page.now (option_copied a.names) c.or_empty-a.result c.or_empty-b.result v, passed_right a.page.now (option_copied a.names) c.or_empty-a.result c.or_empty-b.result v)

pub returns : goal.returns
returns c =
    let a = c.args in
    let k = c.count.result in
    let v = rw (c.or_empty-a.ensures, c.or_empty-b.ensures) at (sym c.units_verdict.ensures ∙ c.in_ok-units_verdict.was) in
    convert_given a.page.now (option_copied a.names) a.left a.right (sym v) (walk k (parents_in a.page.now))
    (λ s. passed_root a.page.now (option_copied a.names) (or_empty a.left) (or_empty a.right) v k s c.count.ensures.0) _
    (rw (c.or_empty-a.ensures, c.or_empty-b.ensures, c.parents_of-parents.ensures.0) at c.convertible.ensures)
