use Rattle.std.proofs.Common.{rules, tests, arith, ◌≡◌, sym, ◌∙◌, refl, ℕ, Bool}
use Rattle.std.specs.List.{range_with_len, list_any}
use Rattle.std.proofs.iter.Serving.{serving}
use Rattle.std.proofs.lemmas.Iterator.{YieldsList-from_range, serves_from_Range}
use Rattle.std.proofs.lemmas.Iterator.Search.{any_from_yields_List}
use Rattle.pages.proofs.Ranges.{any_ranged}
use Rattle.types.specs.Types.{child_of}
use Rattle.types.proofs.Types.{held_by}
use Rattle.bindings.specs.Generics.{has_generic}
use Rattle.bindings.proofs.Generics.{generic_itself, generic_closed, generic_inside}
use Rattle.bindings.proofs.generic_in.Goals as goal

pub returns-then-kind-eq-GENERIC : goal.returns-then-kind-eq-GENERIC
returns-then-kind-eq-GENERIC c =
    let a = c.args in
    generic_itself a.store.page.now (held_by a.store.held).sound a.t c.requires.0 c.kind_of-kind.result c.kind_of-kind.ensures c.if-kind-eq-GENERIC.true

pub returns-then-not-is_entered : goal.returns-then-not-is_entered
returns-then-not-is_entered c =
    let a = c.args in
    generic_closed a.store.page.now (held_by a.store.held).sound a.t c.requires.0 c.kind_of-kind.result c.kind_of-kind.ensures
    c.if-kind-eq-GENERIC.false (sym c.is_entered.ensures ∙ c.if-not-is_entered.true)

pub any-requires-clause-callable : goal.any-requires-clause-callable
any-requires-clause-callable c =
    serves_from_Range (λ i q h. search (rules, tests)) (λ i low high. search (rules, serving))

pub returns : goal.returns
returns c =
    let a = c.args in
    let page = a.store.page.now in
    let n = c.arity.result in
    let test : ℕ → Bool = λ i. has_generic page (child_of page a.t i) in
    let any : c.any.result ≡ list_any test (range_with_len 0 n) = any_from_yields_List test _ _ _ c.any.ensures.ran (YieldsList-from_range 0 n n refl (omega arith)) (λ x b q h. search (rules, tests)) in
    generic_inside page (held_by a.store.held).sound a.t c.requires.0 c.kind_of-kind.result c.kind_of-kind.ensures c.if-kind-eq-GENERIC.false
    (sym c.is_entered.ensures ∙ c.if-not-is_entered.false) c.any.result (rw c.arity.ensures.0 at (sym (any ∙ any_ranged test n)))
