use Rattle.std.specs.Prelude.{option_copied}
use Rattle.std.proofs.lemmas.Result.{err_from_is_err_and}
use mathlib.Core.Path.{sym, ◌∙◌}
use native.Mathlib.Omega.{arith}
use Rattle.names.specs.Calls.{used_of}
use Rattle.pairs.proofs.Bodies.{first_said}
use Rattle.pairs.proofs.Page.{formed_held}
use Rattle.pairs.proofs.Calls.{passed_formed, factor_refused, bodies_read, factor_given}
use Rattle.pairs.proofs.first_factor.Goals as goal

pub returns-in_err-symbol_verdict : goal.returns-in_err-symbol_verdict
returns-in_err-symbol_verdict c =
    let p = err_from_is_err_and c.from_residual.result c.from_residual.ensures.1 in
    rw (p.1, p.2) (factor_refused _ _ _ _ (sym c.in_err-symbol_verdict.was ∙ c.symbol_verdict.ensures))

pub count-k-requires : goal.count-k-requires
count-k-requires c =
    let a = c.args in
    let v = sym c.in_ok-symbol_verdict.was ∙ c.symbol_verdict.ensures in
    let h = formed_held a.page.now (used_of (option_copied a.names)) (passed_formed a.page.now (option_copied a.names) a.symbol v) in
    omega (arith, h.room)

pub parents_at-requires : goal.parents_at-requires
parents_at-requires c =
    let a = c.args in
    let v = sym c.in_ok-symbol_verdict.was ∙ c.symbol_verdict.ensures in
    let h = formed_held a.page.now (used_of (option_copied a.names)) (passed_formed a.page.now (option_copied a.names) a.symbol v) in
    omega (arith, h.few, c.count-k.ensures.0)

pub slice_bounds-bodies_of-end : goal.slice_bounds-bodies_of-end
slice_bounds-bodies_of-end c =
    let a = c.args in
    let v = sym c.in_ok-symbol_verdict.was ∙ c.symbol_verdict.ensures in
    let h = formed_held a.page.now (used_of (option_copied a.names)) (passed_formed a.page.now (option_copied a.names) a.symbol v) in
    omega (arith, h.room, c.count-k.ensures.0, c.parents_at.ensures)

pub returns : goal.returns
returns c =
    let a = c.args in
    let count = c.count-k in
    let bodies = c.bodies_of-bodies in
    let v = sym c.in_ok-symbol_verdict.was ∙ c.symbol_verdict.ensures in
    let e = bodies_read a.page.now count.result c.parents_at.result count.ensures.0 c.parents_at.ensures in
    let first = c.factor_in.ensures ∙ first_said count.result _ bodies.result.now bodies.ensures.0 a.symbol in
    rw (first, e) (factor_given a.page.now (option_copied a.names) a.symbol v count.result count.ensures.0)
