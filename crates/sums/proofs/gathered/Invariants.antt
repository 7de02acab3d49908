use Prim.Native.Nat.{◌-◌}
use Rattle.names.specs.Table.{names_max}
use Rattle.sums.proofs.Gather.{Gathering}
use Rattle.sums.proofs.gathered.Given as goal

abbrev pub invariant-loop-s : goal.invariant-loop-s
invariant-loop-s l = Gathering l.u l.w l.lo

abbrev pub decreases-loop-s : goal.decreases-loop-s
decreases-loop-s l = names_max - l.lo
