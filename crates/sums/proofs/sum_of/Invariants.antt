use Rattle.std.proofs.Common.{◌≡◌}
use Rattle.sums.proofs.Gather.{Summing}
use Rattle.sums.proofs.sum_of.Given as goal

abbrev pub invariant-loop-t : goal.invariant-loop-t
invariant-loop-t l = (l.t-iterator.unit.now ≡ l.fn.u) × Summing l.s l.fn.u l.sum l.t-iterator.at
