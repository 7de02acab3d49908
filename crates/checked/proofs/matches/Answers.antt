use Rattle.std.specs.Prelude.{option_copied}
use Rattle.std.proofs.lemmas.Result.{err_from_is_err_and}
use mathlib.Core.Path.{sym, ◌∙◌}
use Rattle.types.proofs.Calls.{opened_ok}
use Rattle.checked.proofs.Calls.{matches_refused, matches_left, matches_right, matches_says}
use Rattle.checked.proofs.matches.Goals as goal

pub returns-in_err-opened : goal.returns-in_err-opened
returns-in_err-opened c =
    let a = c.args in
    let p = err_from_is_err_and c.from_residual.result c.from_residual.ensures.1 in
    rw (p.1, p.2) (matches_refused a.page.now (option_copied a.names) a.actual a.expected _ (sym c.in_err-opened.was ∙ c.opened.ensures.0))

pub returns-then-not-is_used : goal.returns-then-not-is_used
returns-then-not-is_used c =
    let is-used = c.is_used in
    let a = c.args in
    let o = opened_ok a.page.now (option_copied a.names) c.in_ok-opened.field-0 (sym c.in_ok-opened.was ∙ c.opened.ensures.0) in
    matches_left a.page.now (option_copied a.names) a.actual a.expected o.0
    (sym (rw c.store-store.ensures.0 at is-used.ensures) ∙ c.if-not-is_used.true)

pub returns-then-not-is_used-2 : goal.returns-then-not-is_used-2
returns-then-not-is_used-2 c =
    let is-used2 = c.is_used-2 in
    let a = c.args in
    let o = opened_ok a.page.now (option_copied a.names) c.in_ok-opened.field-0 (sym c.in_ok-opened.was ∙ c.opened.ensures.0) in
    matches_right a.page.now (option_copied a.names) a.actual a.expected o.0
    (sym (rw c.store-store.ensures.0 at is-used2.ensures) ∙ c.if-not-is_used-2.true)

pub matches_in-requires : goal.matches_in-requires
matches_in-requires c =
    let is-used = c.is_used in
    let if2 = c.if-not-is_used in
    let is-used2 = c.is_used-2 in
    let if3 = c.if-not-is_used-2 in
    let u = sym (rw c.store-store.ensures.0 at is-used.ensures) ∙ if2.false in
    let v = sym (rw c.store-store.ensures.0 at is-used2.ensures) ∙ if3.false in
    rw c.store-store.ensures.0 (u, v)

pub returns : goal.returns
returns c =
    let is-used = c.is_used in
    let if2 = c.if-not-is_used in
    let is-used2 = c.is_used-2 in
    let if3 = c.if-not-is_used-2 in
    let matches-in = c.matches_in in
    let a = c.args in
    let o = opened_ok a.page.now (option_copied a.names) c.in_ok-opened.field-0 (sym c.in_ok-opened.was ∙ c.opened.ensures.0) in
    let u = sym (rw c.store-store.ensures.0 at is-used.ensures) ∙ if2.false in
    let v = sym (rw c.store-store.ensures.0 at is-used2.ensures) ∙ if3.false in
    matches_says a.page.now (option_copied a.names) a.actual a.expected o.0 u v matches-in.result
    (rw c.store-store.ensures.0 at matches-in.ensures)
