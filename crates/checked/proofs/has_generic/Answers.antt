use Rattle.std.specs.Prelude.{option_copied}
use Rattle.std.proofs.lemmas.Result.{err_from_is_err_and}
use mathlib.Core.Path.{sym, ◌∙◌}
use Rattle.types.proofs.Calls.{opened_ok}
use Rattle.checked.proofs.Calls.{generic_refused, generic_unused, generic_says}
use Rattle.checked.proofs.has_generic.Goals as goal

pub returns-in_err-opened : goal.returns-in_err-opened
returns-in_err-opened c =
    let a = c.args in
    let p = err_from_is_err_and c.from_residual.result c.from_residual.ensures.1 in
    rw (p.1, p.2) (generic_refused a.page.now (option_copied a.names) a.t _ (sym c.in_err-opened.was ∙ c.opened.ensures.0))

pub returns-then-count-t : goal.returns-then-count-t
returns-then-count-t c =
    let count = c.count in
    let a = c.args in
    let o = opened_ok a.page.now (option_copied a.names) c.in_ok-opened.field-0 (sym c.in_ok-opened.was ∙ c.opened.ensures.0) in
    generic_unused a.page.now (option_copied a.names) a.t o.0 (rw (rw c.store-store.ensures.0 at count.ensures) at c.if-count-t.true)

pub returns : goal.returns
returns c =
    let count = c.count in
    let if2 = c.if-count-t in
    let has-generic = c.has_generic in
    let a = c.args in
    let o = opened_ok a.page.now (option_copied a.names) c.in_ok-opened.field-0 (sym c.in_ok-opened.was ∙ c.opened.ensures.0) in
    generic_says a.page.now (option_copied a.names) a.t o.0 (rw (rw c.store-store.ensures.0 at count.ensures) at if2.false)
    has-generic.result (rw c.store-store.ensures.0 at has-generic.ensures)
