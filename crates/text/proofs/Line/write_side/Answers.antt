use mathlib.Core.Path.{refl, sym, ap, ◌∙◌}
use native.Mathlib.Omega.{arith}
use Rattle.units.proofs.Signed.{back}
use Rattle.units.proofs.Held.{places_of}
use Rattle.text.specs.Text.{stands}
use Rattle.text.proofs.Power.{separator_short}
use Rattle.text.proofs.Sides.{writing_start, writing_length, here_used, here_inside, here_room, writing_on, writing_off, writing_end}
use Rattle.text.proofs.Lines.{writable_by}
use Rattle.text.proofs.Line.write_side.Goals as goal

pub loop-s-init : goal.loop-s-init
loop-s-init c =
    let start = writing_start c.args.self.names.page.now c.args.above (places_of c.args.self.unit) c.args.out.now c.args.start c.requires (record { used = (writable_by c.args.self.writable).used; inside = (writable_by c.args.self.writable).inside }) in
    rw (c.into_iter-s-iterator.ensures.into_iter_gives, c.terms-s-items.ensures.0, c.terms-s-items.ensures.1) (refl, start)

pub write_separator-a-requires : goal.write_separator-a-requires
write_separator-a-requires c =
    let x = (rw c.loop-s.invariant.0 at c.in-Some.ensures.steps).1 in
    let e = back c.in-Some.e (omega arith) ∙ x.2 in
    let on = sym (c.is_on.ensures ∙ ap (stands c.args.above) e) ∙ c.if-is_on.true in
    omega (arith, writing_length c.args.self.names.page.now c.args.above (places_of c.args.self.unit) c.args.out.now c.args.start c.loop-s.out c.loop-s.at _ c.loop-s.invariant.1, here_room c.args.self.names.page.now c.args.above (places_of c.args.self.unit) c.args.out.now c.args.start c.loop-s.out c.loop-s.at _ c.loop-s.invariant.1 x.0 on)

pub name_of-name-requires : goal.name_of-name-requires
name_of-name-requires c =
    let x = (rw c.loop-s.invariant.0 at c.in-Some.ensures.steps).1 in
    rw (c.from.ensures, x.1) (here_used c.args.self.names.page.now c.args.above (places_of c.args.self.unit) c.args.out.now c.args.start c.loop-s.out c.loop-s.at _ c.loop-s.invariant.1 x.0)

pub size-requires : goal.size-requires
size-requires c =
    let x = (rw c.loop-s.invariant.0 at c.in-Some.ensures.steps).1 in
    let e = back c.in-Some.e (omega arith) ∙ x.2 in
    rw e (here_inside c.args.self.names.page.now c.args.above (places_of c.args.self.unit) c.args.out.now c.args.start c.loop-s.out c.loop-s.at _ c.loop-s.invariant.1 x.0)

pub write_power-at-requires : goal.write_power-at-requires
write_power-at-requires c =
    let x = (rw c.loop-s.invariant.0 at c.in-Some.ensures.steps).1 in
    let e = back c.in-Some.e (omega arith) ∙ x.2 in
    let on = sym (c.is_on.ensures ∙ ap (stands c.args.above) e) ∙ c.if-is_on.true in
    let z = c.write_separator-a.ensures c.loop-s.invariant.1.text c.loop-s.invariant.1.wrote.0 in
    let y = separator_short c.args.above c.loop-s.invariant.1.text in
    (c.name_of-name.ensures.2, c.size.ensures.1, omega (arith, writing_length c.args.self.names.page.now c.args.above (places_of c.args.self.unit) c.args.out.now c.args.start c.loop-s.out c.loop-s.at _ c.loop-s.invariant.1, here_room c.args.self.names.page.now c.args.above (places_of c.args.self.unit) c.args.out.now c.args.start c.loop-s.out c.loop-s.at _ c.loop-s.invariant.1 x.0 on, z.0, y, c.write_separator-a.auto.out))

pub loop-s-preserved-then-is_on : goal.loop-s-preserved-then-is_on
loop-s-preserved-then-is_on c =
    let x = (rw c.loop-s.invariant.0 at c.in-Some.ensures.steps).1 in
    let e = back c.in-Some.e (omega arith) ∙ x.2 in
    let on = sym (c.is_on.ensures ∙ ap (stands c.args.above) e) ∙ c.if-is_on.true in
    let written = rw (c.name_of-name.ensures.0, c.from.ensures, x.1, c.size.ensures.0, e) at c.write_power-at.ensures in
    let next = writing_on c.args.self.names.page.now c.args.above (places_of c.args.self.unit) c.args.out.now c.args.start c.loop-s.out c.loop-s.at _ c.loop-s.invariant.1 x.0 on c.args.self.names.formed _ _ _ _ (c.write_separator-a.ensures c.loop-s.invariant.1.text c.loop-s.invariant.1.wrote.0) written in
    (rw c.in-Some.ensures.steps.0 c.loop-s.invariant.0, rw x.3 next)

pub loop-s-preserved : goal.loop-s-preserved
loop-s-preserved c =
    let x = (rw c.loop-s.invariant.0 at c.in-Some.ensures.steps).1 in
    let e = back c.in-Some.e (omega arith) ∙ x.2 in
    let on = sym (c.is_on.ensures ∙ ap (stands c.args.above) e) ∙ c.if-is_on.false in
    let next = writing_off c.args.self.names.page.now c.args.above (places_of c.args.self.unit) c.args.out.now c.args.start c.loop-s.out c.loop-s.at _ c.loop-s.invariant.1 x.0 on in
    (rw c.in-Some.ensures.steps.0 c.loop-s.invariant.0, rw x.3 next)

pub shape_of-out : goal.shape_of-out
shape_of-out c =
    writing_length c.args.self.names.page.now c.args.above (places_of c.args.self.unit) c.args.out.now c.args.start c.loop-s.out c.loop-s.at _ c.loop-s.invariant.1

pub returns : goal.returns
returns c =
    writing_end c.args.self.names.page.now c.args.above (places_of c.args.self.unit) c.args.out.now c.args.start c.loop-s.out c.loop-s.at _ c.loop-s.invariant.1 (rw c.loop-s.invariant.0 at c.in-None.ensures.steps).1
