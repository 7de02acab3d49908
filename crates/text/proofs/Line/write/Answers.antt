use native.Mathlib.Omega.{arith}
use Rattle.text.proofs.Lines.{writable_by, room_above, room_one, room_below, line_one, line_more}
use Rattle.text.proofs.Line.write.Goals as goal

pub write_side-a-requires : goal.write_side-a-requires
write_side-a-requires c =
    room_above c.args.self.names.page.now c.args.self.unit c.args.self.names.formed (writable_by c.args.self.writable) _ c.requires

pub write_side-requires : goal.write_side-requires
write_side-requires c =
    let write-side = c.write_side-a in
    let if1 = c.if-a-eq0 in
    let push = c.push-b in
    room_one c.args.self.names.page.now c.args.self.unit c.args.self.names.formed (writable_by c.args.self.writable) _ (omega (arith, c.requires, write-side.auto.out, push.auto.out)) push.result (omega (arith, push.ensures.0, if1.true))

pub returns-then-a-eq0 : goal.returns-then-a-eq0
returns-then-a-eq0 c =
    let write-side = c.write_side-a in
    let if1 = c.if-a-eq0 in
    let push = c.push-b in
    let write-side2 = c.write_side in
    line_one c.args.self.names.page.now c.args.self.unit c.args.self.names.formed (writable_by c.args.self.writable) c.args.out.now c.requires _ _ write-side.ensures _ _ _ _
    if1.true push.ensures write-side2.ensures

pub write_side-requires-2 : goal.write_side-requires-2
write_side-requires-2 c =
    let write-side = c.write_side-a in
    room_below c.args.self.names.page.now c.args.self.unit c.args.self.names.formed (writable_by c.args.self.writable) _ (omega (arith, c.requires, write-side.auto.out)) write-side.result write-side.ensures.0

pub returns : goal.returns
returns c =
    let write-side = c.write_side-a in
    let if1 = c.if-a-eq0 in
    let write-side3 = c.write_side-2 in
    line_more c.args.self.names.page.now c.args.self.unit c.args.self.names.formed (writable_by c.args.self.writable) c.args.out.now c.requires _ _ write-side.ensures _ _
    if1.false write-side3.ensures
