use Rattle.std.proofs.Common.{◌≡◌}
use Rattle.units.proofs.Held.{places_of}
use Rattle.text.proofs.Sides.{Writing}
use Rattle.text.proofs.Line.write_side.Given as goal

abbrev pub invariant-loop-s : goal.invariant-loop-s
invariant-loop-s l = (l.s-iterator.unit.now ≡ l.fn.self.unit) × Writing l.fn.self.names.page.now l.above (places_of l.fn.self.unit) l.initial.out l.start l.out l.at l.s-iterator.at
