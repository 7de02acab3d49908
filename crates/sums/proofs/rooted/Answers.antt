use Rattle.std.proofs.Common.{refl, ◌∙◌, arith}
use Rattle.groups.specs.Groups.{walk}
use Rattle.units.proofs.Signed.{back}
use Rattle.sums.proofs.Roots.{rooting_start, rooting_count, rooting_next, rooting_end}
use Rattle.sums.proofs.rooted.Goals as goal

pub loop-s-init : goal.loop-s-init
loop-s-init c =
    let root = walk c.args.groups.steps c.args.groups.parents.now in
    rw (c.into_iter-s-iterator.ensures.into_iter_gives, c.terms-s-items.ensures.0, c.terms-s-items.ensures.1) (refl, rooting_start root c.args.u _ c.dimensionless-v.ensures)

pub with_term-v-requires : goal.with_term-v-requires
with_term-v-requires c =
    let i = c.loop-s.invariant in
    let x = (rw i.0 at c.in-Some.ensures.steps).1 in
    omega (arith, rooting_count _ _ _ _ i.1, x.0, c.requires)

pub loop-s-preserved : goal.loop-s-preserved
loop-s-preserved c =
    let root = walk c.args.groups.steps c.args.groups.parents.now in
    let i = c.loop-s.invariant in
    let x = (rw i.0 at c.in-Some.ensures.steps).1 in
    let next = rooting_next root c.args.u c.loop-s.v _ i.1 x.0 c.with_term-v.result (c.with_term-v.ensures ∙ rw (c.root.ensures, x.1, back c.in-Some.e (omega arith), x.2)) in
    (rw c.in-Some.ensures.steps.0 i.0, rw x.3 next)

pub returns : goal.returns
returns c =
    let i = c.loop-s.invariant in
    rooting_end _ _ _ _ i.1 (rw i.0 at c.in-None.ensures.steps).1
