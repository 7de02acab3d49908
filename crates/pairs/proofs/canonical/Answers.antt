use Rattle.std.specs.Prelude.{option_copied}
use Rattle.std.proofs.Common.{sym, arith}
use Rattle.std.proofs.lemmas.Result.{err_from_is_err_and}
use mathlib.Core.Path.{◌∙◌}
use Rattle.names.specs.Calls.{used_of}
use Rattle.pairs.proofs.Page.{formed_held}
use Rattle.pairs.proofs.Calls.{passed_formed, root_refused, root_given, root_in}
use Rattle.pairs.proofs.canonical.Goals as goal

pub returns-in_err-symbol_verdict : goal.returns-in_err-symbol_verdict
returns-in_err-symbol_verdict c =
    let p = err_from_is_err_and c.from_residual.result c.from_residual.ensures.1 in
    rw (p.1, p.2) (root_refused _ _ _ _ (sym c.in_err-symbol_verdict.was ∙ c.symbol_verdict.ensures))

pub parents_of-parents-requires : goal.parents_of-parents-requires
parents_of-parents-requires c =
    let a = c.args in
    let v = sym c.in_ok-symbol_verdict.was ∙ c.symbol_verdict.ensures in
    formed_held a.page.now (used_of (option_copied a.names)) (passed_formed a.page.now (option_copied a.names) a.symbol v)

pub count-requires : goal.count-requires
count-requires c =
    let a = c.args in
    let v = sym c.in_ok-symbol_verdict.was ∙ c.symbol_verdict.ensures in
    let h = formed_held a.page.now (used_of (option_copied a.names)) (passed_formed a.page.now (option_copied a.names) a.symbol v) in
    omega (arith, h.room)

pub returns : goal.returns
returns c =
    let a = c.args in
    let v = sym c.in_ok-symbol_verdict.was ∙ c.symbol_verdict.ensures in
    let f = passed_formed a.page.now (option_copied a.names) a.symbol v in
    root_given a.page.now (option_copied a.names) a.symbol v _
    (c.root.ensures ∙ rw c.parents_of-parents.ensures.0 (root_in a.page.now (used_of (option_copied a.names)) c.count.result a.symbol f c.count.ensures.0))
