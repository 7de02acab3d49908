use Rattle.std.specs.Prelude.{option_copied}
use Rattle.std.proofs.lemmas.Result.{err_from_is_err_and}
use mathlib.Core.Path.{◌≡◌, sym, ◌∙◌}
use mathlib.Core.Bool.{true}
use Rattle.names.specs.Calls.{used_of}
use Rattle.types.specs.Types.{types_in}
use Rattle.bindings.specs.Bindings.{formed}
use Rattle.types.proofs.Calls.{opened_ok}
use Rattle.bindings.proofs.Bound.{usable}
use Rattle.checked.proofs.Calls.{unify_refused, unify_unformed, unify_unused, unify_unused_actual, unify_says}
use Rattle.checked.proofs.unify_tested.Goals as goal

pub returns-in_err-used : goal.returns-in_err-used
returns-in_err-used c =
    let a = c.args in
    let p = err_from_is_err_and c.from_residual.result c.from_residual.ensures.1 in
    rw (p.1, p.2) (unify_refused a.page.now (option_copied a.names) a.bound a.e a.actual _ (sym c.in_err-used.was ∙ c.opened.ensures.0))

pub returns-then-not-is_formed : goal.returns-then-not-is_formed
returns-then-not-is_formed c =
    let a = c.args in
    let page = a.page.now in
    let names = option_copied a.names in
    let o = opened_ok page names c.in_ok-used.used (sym c.in_ok-used.was ∙ c.opened.ensures.0) in
    let n = rw c.store-store.ensures.0 at c.count-n.ensures in
    unify_unformed page names a.bound a.e a.actual o.0 (rw (← o.1, ← n) (sym c.is_formed.ensures ∙ c.if-not-is_formed.true))

pub returns-then-n-e : goal.returns-then-n-e
returns-then-n-e c =
    let a = c.args in
    let page = a.page.now in
    let names = option_copied a.names in
    let o = opened_ok page names c.in_ok-used.used (sym c.in_ok-used.was ∙ c.opened.ensures.0) in
    let n = rw c.store-store.ensures.0 at c.count-n.ensures in
    let k : formed (used_of names) (types_in page) a.bound ≡ true = rw (← o.1, ← n) (sym c.is_formed.ensures ∙ c.if-not-is_formed.false) in
    unify_unused page names a.bound a.e a.actual o.0 k (rw n at c.if-n-e.true)

pub returns-then-not-is_used : goal.returns-then-not-is_used
returns-then-not-is_used c =
    let a = c.args in
    let page = a.page.now in
    let names = option_copied a.names in
    let o = opened_ok page names c.in_ok-used.used (sym c.in_ok-used.was ∙ c.opened.ensures.0) in
    let n = rw c.store-store.ensures.0 at c.count-n.ensures in
    let k : formed (used_of names) (types_in page) a.bound ≡ true = rw (← o.1, ← n) (sym c.is_formed.ensures ∙ c.if-not-is_formed.false) in
    unify_unused_actual page names a.bound a.e a.actual o.0 k
    (sym (rw c.store-store.ensures.0 at c.is_used.ensures) ∙ c.if-not-is_used.true)

pub unify_in-requires : goal.unify_in-requires
unify_in-requires c =
    let a = c.args in
    let page = a.page.now in
    let names = option_copied a.names in
    let o = opened_ok page names c.in_ok-used.used (sym c.in_ok-used.was ∙ c.opened.ensures.0) in
    let n = rw c.store-store.ensures.0 at c.count-n.ensures in
    let k : formed (used_of names) (types_in page) a.bound ≡ true = rw (← o.1, ← n) (sym c.is_formed.ensures ∙ c.if-not-is_formed.false) in
    let l = rw n at c.if-n-e.false in
    let u = sym (rw c.store-store.ensures.0 at c.is_used.ensures) ∙ c.if-not-is_used.false in
    record { e_bound = rw c.store-store.ensures.0 (l, u); usable = rw c.store-store.ensures.0 (usable (used_of names) (types_in page) a.bound k) }

pub returns : goal.returns
returns c =
    let a = c.args in
    let page = a.page.now in
    let names = option_copied a.names in
    let o = opened_ok page names c.in_ok-used.used (sym c.in_ok-used.was ∙ c.opened.ensures.0) in
    let n = rw c.store-store.ensures.0 at c.count-n.ensures in
    let k : formed (used_of names) (types_in page) a.bound ≡ true = rw (← o.1, ← n) (sym c.is_formed.ensures ∙ c.if-not-is_formed.false) in
    let l = rw n at c.if-n-e.false in
    let u = sym (rw c.store-store.ensures.0 at c.is_used.ensures) ∙ c.if-not-is_used.false in
    unify_says page names a.bound a.e a.actual o.0 k l u c.unify_in.result
    (rw c.store-store.ensures.0 at c.unify_in.ensures)
