use Rattle.std.specs.Prelude.{option_copied}
use Rattle.std.proofs.lemmas.Result.{err_from_is_err_and}
use mathlib.Core.Path.{◌≡◌, sym, ◌∙◌}
use mathlib.Core.Bool.{true}
use Prim.Native.Nat.{◌<◌}
use borrow.Author.Rules.{rules}
use Rattle.names.specs.Calls.{used_of}
use Rattle.types.specs.Types.{types_in}
use Rattle.bindings.specs.Bindings.{formed}
use Rattle.types.proofs.Calls.{opened_ok}
use Rattle.checked.proofs.Calls.{substitute_refused, substitute_unformed, substitute_unused, substitute_made, substitute_stopped, end_there, works, taken_back_lem, back_asks}
use Rattle.checked.proofs.substitute.Goals as goal

pub returns-in_err-used : goal.returns-in_err-used
returns-in_err-used c =
    let a = c.args in
    let p = err_from_is_err_and c.from_residual.result c.from_residual.ensures.1 in
    rw (p.1, p.2) (substitute_refused a.page.now (option_copied a.names) a.bound a.t _ (sym c.in_err-used.was ∙ c.opened.ensures.0))

pub returns-then-not-is_formed : goal.returns-then-not-is_formed
returns-then-not-is_formed c =
    let a = c.args in
    let page = a.page.now in
    let names = option_copied a.names in
    let o = opened_ok page names c.in_ok-used.used (sym c.in_ok-used.was ∙ c.opened.ensures.0) in
    let n = rw c.store-store.ensures.0 at c.count-n.ensures in
    substitute_unformed page names a.bound a.t o.0 (rw (← o.1, ← n) (sym c.is_formed.ensures ∙ c.if-not-is_formed.true))

pub returns-then-n-t : goal.returns-then-n-t
returns-then-n-t c =
    let a = c.args in
    let page = a.page.now in
    let names = option_copied a.names in
    let o = opened_ok page names c.in_ok-used.used (sym c.in_ok-used.was ∙ c.opened.ensures.0) in
    let n = rw c.store-store.ensures.0 at c.count-n.ensures in
    let k : formed (used_of names) (types_in page) a.bound ≡ true = rw (← o.1, ← n) (sym c.is_formed.ensures ∙ c.if-not-is_formed.false) in
    substitute_unused page names a.bound a.t o.0 k (rw n at c.if-n-t.true)

pub substitute-made-requires : goal.substitute-made-requires
substitute-made-requires c =
    let a = c.args in
    let page = a.page.now in
    let names = option_copied a.names in
    let o = opened_ok page names c.in_ok-used.used (sym c.in_ok-used.was ∙ c.opened.ensures.0) in
    let n = rw c.store-store.ensures.0 at c.count-n.ensures in
    let k : formed (used_of names) (types_in page) a.bound ≡ true = rw (← o.1, ← n) (sym c.is_formed.ensures ∙ c.if-not-is_formed.false) in
    let l : a.t < types_in page = rw n at c.if-n-t.false in
    works page _ _ (rw c.in_ok-used.was at c.opened.ensures.1).1 a.bound (used_of names) a.t k l

pub take_back-requires : goal.take_back-requires
take_back-requires c =
    let a = c.args in
    let page = a.page.now in
    let names = option_copied a.names in
    let o = opened_ok page names c.in_ok-used.used (sym c.in_ok-used.was ∙ c.opened.ensures.0) in
    let n = rw c.store-store.ensures.0 at c.count-n.ensures in
    let k : formed (used_of names) (types_in page) a.bound ≡ true = rw (← o.1, ← n) (sym c.is_formed.ensures ∙ c.if-not-is_formed.false) in
    let l : a.t < types_in page = rw n at c.if-n-t.false in
    let m = (rw c.in_ok-used.was at c.opened.ensures.1).1 in
    let e = end_there page c.count-n.result c.place_of-end.result n (rw c.store-store.ensures.0 at c.place_of-end.ensures) in
    search (rules, back_asks page _ _ m a.bound (used_of names) a.t k l _ c.substitute-made.ensures.value.1 c.place_of-end.result e)

pub returns-in-Err : goal.returns-in-Err
returns-in-Err c =
    let a = c.args in
    let page = a.page.now in
    let names = option_copied a.names in
    let o = opened_ok page names c.in_ok-used.used (sym c.in_ok-used.was ∙ c.opened.ensures.0) in
    let n = rw c.store-store.ensures.0 at c.count-n.ensures in
    let k : formed (used_of names) (types_in page) a.bound ≡ true = rw (← o.1, ← n) (sym c.is_formed.ensures ∙ c.if-not-is_formed.false) in
    let l : a.t < types_in page = rw n at c.if-n-t.false in
    let m = (rw c.in_ok-used.was at c.opened.ensures.1).1 in
    let e = end_there page c.count-n.result c.place_of-end.result n (rw c.store-store.ensures.0 at c.place_of-end.ensures) in
    let z =
    substitute_stopped page names a.bound a.t o.0 k l c.substitute-made.result _ c.in-Err.is c.substitute-made.ensures.value.0 in (
      z.0,
      c.take_back.ensures ∙ rw (c.front-front.ensures, c.store-store.ensures.0)
          (taken_back_lem page _ _ m a.bound (used_of names) a.t k l _ (search (rules, c.substitute-made.ensures.value.1)) c.place_of-end.result e) ∙ z.1,
    )

pub returns-in_default : goal.returns-in_default
returns-in_default c =
    let a = c.args in
    let page = a.page.now in
    let names = option_copied a.names in
    let o = opened_ok page names c.in_ok-used.used (sym c.in_ok-used.was ∙ c.opened.ensures.0) in
    let n = rw c.store-store.ensures.0 at c.count-n.ensures in
    let k : formed (used_of names) (types_in page) a.bound ≡ true = rw (← o.1, ← n) (sym c.is_formed.ensures ∙ c.if-not-is_formed.false) in
    let l : a.t < types_in page = rw n at c.if-n-t.false in
    let z = substitute_made page names a.bound a.t o.0 k l c.substitute-made.result _ _ c.in_default.is c.substitute-made.ensures.value.0 c.substitute-made.ensures.value.1 in
    search (rules, z)
