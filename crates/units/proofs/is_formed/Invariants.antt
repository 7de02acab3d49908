use Rattle.std.proofs.Common.{◌≡◌}
use Rattle.names.specs.Table.{names_max}
use Rattle.units.specs.Unit.{places_max}
use Rattle.units.proofs.Form.{Judging}
use Rattle.units.proofs.Held.{places_of}
use Rattle.units.proofs.is_formed.Given as goal

abbrev pub invariant-loop-s : goal.invariant-loop-s
invariant-loop-s l = (l.s-iterator.unit.now ≡ l.fn.u) × Judging places_max names_max (places_of l.fn.u) l.lo l.s-iterator.at
