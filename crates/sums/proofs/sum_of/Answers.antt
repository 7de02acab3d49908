use Rattle.std.proofs.Common.{refl, sym, ap, ◌∙◌, arith}
use lib.IntN.{◌+ℤ◌}
use mir.Syntax.{w16}
use mir.Val.{to_z, of_z}
use mir.Facts.{to_z-of_z}
use Rattle.units.proofs.Signed.{back}
use Rattle.sums.proofs.Gather.{summing_start, summing_fits, summing_more, summing_other, summing_end}
use Rattle.sums.proofs.sum_of.Goals as goal

pub loop-t-init : goal.loop-t-init
loop-t-init c =
    rw (c.into_iter-t-iterator.ensures.into_iter_gives, c.terms-t-items.ensures.0, c.terms-t-items.ensures.1) (refl, summing_start c.args.s c.args.u c.requires.1)

pub overflow_add-sum : goal.overflow_add-sum
overflow_add-sum c =
    let i = c.loop-t.invariant in
    let x = (rw i.0 at c.in-Some.ensures.steps).1 in
    rw (back c.in-Some.e (omega arith), x.2) (summing_fits c.args.s c.args.u (to_z w16 c.loop-t.sum-bits) _ i.1 x.0 c.requires.0)

pub loop-t-preserved : goal.loop-t-preserved
loop-t-preserved c =
    let i = c.loop-t.invariant in
    let x = (rw i.0 at c.in-Some.ensures.steps).1 in
    let next = summing_other c.args.s c.args.u (to_z w16 c.loop-t.sum-bits) _ i.1 x.0 (rw x.1 at c.if-t-s.false) _ refl in
    (rw c.in-Some.ensures.steps.0 i.0, rw x.3 next)

pub loop-t-preserved-then-t-s : goal.loop-t-preserved-then-t-s
loop-t-preserved-then-t-s c =
    let i = c.loop-t.invariant in
    let x = (rw i.0 at c.in-Some.ensures.steps).1 in
    let old = to_z w16 c.loop-t.sum-bits in
    let fits = summing_fits c.args.s c.args.u old _ i.1 x.0 c.requires.0 in
    let sum = ap (λ z. to_z w16 (of_z w16 (old +ℤ z))) (back c.in-Some.e (omega arith) ∙ x.2) ∙ to_z-of_z fits in
    let next = summing_more c.args.s c.args.u old _ i.1 x.0 (sym x.1 ∙ c.if-t-s.true) _ sum in
    (rw c.in-Some.ensures.steps.0 i.0, rw x.3 next)

pub returns : goal.returns
returns c =
    let i = c.loop-t.invariant in
    summing_end c.args.s c.args.u _ _ i.1 (rw i.0 at c.in-None.ensures.steps).1
