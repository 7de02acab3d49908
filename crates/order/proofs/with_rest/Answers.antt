use mathlib.Core.Path.{refl, sym, ap, ◌∙◌}
use mathlib.Core.List.{[], ◌++◌, append-nil}
use native.Mathlib.Omega.{arith}
use Rattle.units.specs.declared.Unit.{Unit}
use Rattle.units.specs.Calls.{unit_of}
use Rattle.units.proofs.Signed.{back}
use Rattle.units.proofs.Form.{from_end}
use Rattle.units.proofs.Held.{places_of, grown}
use Rattle.order.proofs.Order.{resting_next}
use Rattle.order.proofs.with_rest.Goals as goal

pub loop-s-init : goal.loop-s-init
loop-s-init c =
    rw (c.into_iter-s-iterator.ensures.into_iter_gives, c.terms_from-s-items.ensures.0, c.terms_from-s-items.ensures.1)
    (refl, record { middle = []; held = λ l e. e ∙ ap unit_of (sym (append-nil l)); whole = refl; size = refl })

pub with_term-out-requires : goal.with_term-out-requires
with_term-out-requires c =
    let x = (rw c.loop-s.invariant.0 at c.in-Some.ensures.steps).1 in
    omega (arith, c.loop-s.invariant.1.size, x.0, c.requires.0)

pub loop-s-preserved : goal.loop-s-preserved
loop-s-preserved c =
    let g = c.args in
    let l = c.loop-s in
    let x = (rw l.invariant.0 at c.in-Some.ensures.steps).1 in
    let next = resting_next g.v g.w g.j l.out _ l.invariant.1 x.0 c.with_term-out.result (ap (λ (u : Unit). u.count) c.with_term-out.ensures)
    (λ k q. c.with_term-out.ensures ∙ grown _ _ _ k q ∙ rw (x.1, back c.in-Some.e (omega arith), x.2)) in
    (rw c.in-Some.ensures.steps.0 l.invariant.0, rw x.3 next)

pub returns : goal.returns
returns c = λ l e.
    let i = c.loop-s.invariant.1 in
    let past = (rw c.loop-s.invariant.0 at c.in-None.ensures.steps).1 in
    i.held l e ∙ ap (λ t. unit_of (l ++ t)) (sym (append-nil i.middle) ∙ ap (λ t. i.middle ++ t) (sym (from_end (places_of c.args.w) _ past)) ∙ i.whole)
