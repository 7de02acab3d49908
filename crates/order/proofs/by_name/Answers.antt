use Rattle.std.proofs.Common.{refl, ap, ◌∙◌, arith}
use Rattle.pages.specs.Bytes.{count_of}
use Rattle.units.specs.Calls.{terms_of, unit_of}
use Rattle.units.proofs.Signed.{back}
use Rattle.units.proofs.Held.{terms_unit}
use Rattle.order.specs.Order.{place}
use Rattle.order.proofs.Order.{term_at, sorting_start, sorting_count, sorting_used, sorting_next, sorting_end}
use Rattle.order.proofs.by_name.Goals as goal

pub loop-s-init : goal.loop-s-init
loop-s-init c =
    rw (c.into_iter-s-iterator.ensures.into_iter_gives, c.terms-s-items.ensures.0, c.terms-s-items.ensures.1)
    (refl, sorting_start c.args.names.page.now (count_of c.args.names.page.now) c.args.u c.dimensionless-w.result c.dimensionless-w.ensures c.requires.1)

pub placed-w-requires : goal.placed-w-requires
placed-w-requires c =
    let u = c.args.u in
    let w = c.loop-s.w in
    let i = c.loop-s.invariant.1 in
    let page = c.args.names.page.now in
    let x = (rw c.loop-s.invariant.0 at c.in-Some.ensures.steps).1 in
    let z = sorting_count page (count_of page) u w _ i in (
      omega (arith, z, x.0, c.requires.0),
      rw x.1 (sorting_used page (count_of page) u w _ i x.0),
      rw (i.held, terms_unit i.done (omega (arith, i.size, x.0, c.requires.0))) i.used,
    )

pub loop-s-preserved : goal.loop-s-preserved
loop-s-preserved c =
    let u = c.args.u in
    let page = c.args.names.page.now in
    let i = c.loop-s.invariant.1 in
    let d = i.done in
    let x = (rw c.loop-s.invariant.0 at c.in-Some.ensures.steps).1 in
    let next = sorting_next page (count_of page) u c.loop-s.w _ i x.0 c.placed-w.result
    (c.placed-w.ensures ∙ rw (x.1, back c.in-Some.e (omega arith), x.2) (ap (λ t. unit_of (place page (term_at u c.loop-s.s-iterator.at) t)) (ap terms_of i.held ∙ terms_unit d (omega (arith, i.size, x.0, c.requires.0))))) in
    (rw c.in-Some.ensures.steps.0 c.loop-s.invariant.0, rw x.3 next)

pub returns : goal.returns
returns c =
    sorting_end c.args.names.page.now (count_of c.args.names.page.now) c.args.u c.loop-s.w _ c.loop-s.invariant.1 (rw c.loop-s.invariant.0 at c.in-None.ensures.steps).1
