use Rattle.std.specs.Prelude.{option_copied}
use Rattle.std.proofs.lemmas.Result.{err_from_is_err_and}
use mathlib.Core.Path.{sym, ◌∙◌}
use Rattle.types.proofs.Calls.{opened_ok}
use Rattle.checked.proofs.Calls.{const_refused, const_unused, const_unknown, const_function, const_known, known_used}
use borrow.Author.Rules.{rules}
use Rattle.checked.proofs.into_const.Goals as goal

pub returns-in_err-opened : goal.returns-in_err-opened
returns-in_err-opened c =
    let a = c.args in
    let p = err_from_is_err_and c.from_residual.result c.from_residual.ensures.1 in
    rw (p.1, p.2) (const_refused a.page.now (option_copied a.names) a.c _ (sym c.in_err-opened.was ∙ c.opened.ensures.0))

pub returns-then-not-is_used : goal.returns-then-not-is_used
returns-then-not-is_used c =
    let is-used = c.is_used in
    let if2 = c.if-not-is_used in
    let a = c.args in
    let o = opened_ok a.page.now (option_copied a.names) c.in_ok-opened.field-0 (sym c.in_ok-opened.was ∙ c.opened.ensures.0) in
    let z =
    const_unused a.page.now (option_copied a.names) a.c o.0
    (sym (rw c.store.ensures.0 at is-used.ensures) ∙ if2.true) in
    z

pub const_form-requires : goal.const_form-requires
const_form-requires c =
    let u = sym (rw c.store.ensures.0 at c.is_used.ensures) ∙ c.if-not-is_used.false in
    known_used c.args.page.now c.args.c _ c.in-Known.is u

pub returns-in-Unknown : goal.returns-in-Unknown
returns-in-Unknown c =
    let is-used = c.is_used in
    let if2 = c.if-not-is_used in
    let a = c.args in
    let o = opened_ok a.page.now (option_copied a.names) c.in_ok-opened.field-0 (sym c.in_ok-opened.was ∙ c.opened.ensures.0) in
    let u = sym (rw c.store.ensures.0 at is-used.ensures) ∙ if2.false in
    let z = const_unknown a.page.now (option_copied a.names) a.c o.0 u c.in-Unknown.is in
    z

pub returns-in-Function : goal.returns-in-Function
returns-in-Function c =
    let is-used = c.is_used in
    let if2 = c.if-not-is_used in
    let a = c.args in
    let o = opened_ok a.page.now (option_copied a.names) c.in_ok-opened.field-0 (sym c.in_ok-opened.was ∙ c.opened.ensures.0) in
    let u = sym (rw c.store.ensures.0 at is-used.ensures) ∙ if2.false in
    let z = const_function a.page.now (option_copied a.names) a.c o.0 u _ c.in-Function.is in
    z

pub returns-in-Known : goal.returns-in-Known
returns-in-Known c =
    let is-used = c.is_used in
    let if2 = c.if-not-is_used in
    let const-form = c.const_form in
    let a = c.args in
    let o = opened_ok a.page.now (option_copied a.names) c.in_ok-opened.field-0 (sym c.in_ok-opened.was ∙ c.opened.ensures.0) in
    let u = sym (rw c.store.ensures.0 at is-used.ensures) ∙ if2.false in
    let z =
    const_known a.page.now (option_copied a.names) a.c o.0 u _ c.in-Known.is const-form.result _
    const-form.ensures.value.0 const-form.ensures.value.1 in
    (c.of_made.ensures ∙ z.0, search (rules, z.1))
