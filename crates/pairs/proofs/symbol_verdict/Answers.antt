use Rattle.std.specs.Prelude.{option_copied}
use Rattle.std.proofs.lemmas.Result.{err_from_is_err_and}
use mathlib.Core.Path.{sym, ◌∙◌}
use Rattle.pairs.proofs.Calls.{opened_ok, symbol_unopened, symbol_unused, symbol_used_lem}
use Rattle.pairs.proofs.symbol_verdict.Goals as goal

pub returns-in_err-n : goal.returns-in_err-n
returns-in_err-n c =
    let a = c.args in
    let p = err_from_is_err_and c.from_residual.result c.from_residual.ensures.1 in
    rw (p.1, p.2) (symbol_unopened a.page.now (option_copied a.names) a.symbol _ (sym c.in_err-n.was ∙ c.opened.ensures.0))

pub returns-then-not-is_used : goal.returns-then-not-is_used
returns-then-not-is_used c =
    let a = c.args in
    let o = opened_ok a.page.now (option_copied a.names) c.in_ok-n.n (sym c.in_ok-n.was ∙ c.opened.ensures.0) in
    symbol_unused a.page.now (option_copied a.names) a.symbol o.0
    (rw (o.1, c.from.ensures) at (sym c.is_used.ensures ∙ c.if-not-is_used.true))

pub returns : goal.returns
returns c =
    let a = c.args in
    let o = opened_ok a.page.now (option_copied a.names) c.in_ok-n.n (sym c.in_ok-n.was ∙ c.opened.ensures.0) in
    symbol_used_lem a.page.now (option_copied a.names) a.symbol o.0
    (rw (o.1, c.from.ensures) at (sym c.is_used.ensures ∙ c.if-not-is_used.false))
