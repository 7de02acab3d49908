use Prim.Native.Nat.{◌+◌, ◌-◌}
use Rattle.units.specs.Unit.{places_max}
use Rattle.units.proofs.Merge.{Stand}
use Rattle.units.proofs.Held.{places_of, kind}
use Rattle.units.proofs.merged.Given as goal

abbrev pub invariant-loop-s : goal.invariant-loop-s
invariant-loop-s l = Stand kind places_max l.quotient (places_of l.a) (places_of l.b) l.w l.i l.j

abbrev pub decreases-loop-s : goal.decreases-loop-s
decreases-loop-s l = (l.a.count - l.i) + (l.b.count - l.j)
