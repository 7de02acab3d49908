use mathlib.Core.Path.{refl, sym, ap, ◌∙◌}
use native.Mathlib.Omega.{arith}
use Rattle.names.specs.Table.{names_max}
use Rattle.units.specs.Unit.{places_max, is_zero, outside}
use Rattle.units.proofs.Signed.{back}
use Rattle.units.proofs.Form.{formed_long, judging_start, judged_low, judged_past, judged_zero, judged_outside, judging_next, judging_end}
use Rattle.units.proofs.Held.{places_of}
use Rattle.units.proofs.is_formed.Goals as goal

pub returns-then-u-gt-PLACES : goal.returns-then-u-gt-PLACES
returns-then-u-gt-PLACES c = sym (formed_long places_max names_max (places_of c.args.u) c.if-u-gt-PLACES.true)

pub loop-s-init : goal.loop-s-init
loop-s-init c = rw (c.into_iter-s-iterator.ensures.into_iter_gives, c.terms-s-items.ensures.0, c.terms-s-items.ensures.1) (refl, judging_start places_max names_max (places_of c.args.u) c.if-u-gt-PLACES.false)

pub returns-then-s-lo : goal.returns-then-s-lo
returns-then-s-lo c =
    let i = c.loop-s.invariant in
    let x = (rw i.0 at c.in-Some.ensures.steps).1 in
    judged_low places_max names_max (places_of c.args.u) c.loop-s.lo _ i.1 x.0 (rw (c.from-s.ensures, x.1) at c.if-s-lo.true)

pub returns-then-s-ge-NAMES : goal.returns-then-s-ge-NAMES
returns-then-s-ge-NAMES c =
    let i = c.loop-s.invariant in
    let x = (rw i.0 at c.in-Some.ensures.steps).1 in
    let s = c.from-s.ensures ∙ x.1 in
    judged_past places_max names_max (places_of c.args.u) c.loop-s.lo _ i.1 x.0 (rw s at c.if-s-lo.false) (rw s at c.if-s-ge-NAMES.true)

pub returns-then-is_zero : goal.returns-then-is_zero
returns-then-is_zero c =
    let i = c.loop-s.invariant in
    let x = (rw i.0 at c.in-Some.ensures.steps).1 in
    let s = c.from-s.ensures ∙ x.1 in
    let e = back c.in-Some.e (omega arith) ∙ x.2 in
    let zero_is = c.is_zero.ensures ∙ ap is_zero e in
    judged_zero places_max names_max (places_of c.args.u) c.loop-s.lo _ i.1 x.0 (rw s at c.if-s-lo.false) (rw s at c.if-s-ge-NAMES.false) (sym zero_is ∙ c.if-is_zero.true)

pub returns-then-is_outside : goal.returns-then-is_outside
returns-then-is_outside c =
    let i = c.loop-s.invariant in
    let x = (rw i.0 at c.in-Some.ensures.steps).1 in
    let s = c.from-s.ensures ∙ x.1 in
    let e = back c.in-Some.e (omega arith) ∙ x.2 in
    let zero_is = c.is_zero.ensures ∙ ap is_zero e in
    let wide_is = c.is_outside.ensures ∙ ap outside e in
    judged_outside places_max names_max (places_of c.args.u) c.loop-s.lo _ i.1 x.0 (rw s at c.if-s-lo.false) (rw s at c.if-s-ge-NAMES.false) (sym zero_is ∙ c.if-is_zero.false) (sym wide_is ∙ c.if-is_outside.true)

pub loop-s-preserved : goal.loop-s-preserved
loop-s-preserved c =
    let i = c.loop-s.invariant in
    let x = (rw i.0 at c.in-Some.ensures.steps).1 in
    let s = c.from-s.ensures ∙ x.1 in
    let e = back c.in-Some.e (omega arith) ∙ x.2 in
    let zero_is = c.is_zero.ensures ∙ ap is_zero e in
    let wide_is = c.is_outside.ensures ∙ ap outside e in
    let next = judging_next places_max names_max (places_of c.args.u) c.loop-s.lo _ i.1 x.0 (rw s at c.if-s-lo.false) (rw s at c.if-s-ge-NAMES.false) (sym zero_is ∙ c.if-is_zero.false) (sym wide_is ∙ c.if-is_outside.false) in
    (rw c.in-Some.ensures.steps.0 i.0, rw (s, x.3) next)

pub returns : goal.returns
returns c = judging_end places_max names_max (places_of c.args.u) c.loop-s.lo _ c.loop-s.invariant.1 (rw c.loop-s.invariant.0 at c.in-None.ensures.steps).1
