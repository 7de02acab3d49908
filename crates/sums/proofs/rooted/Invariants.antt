use Rattle.std.proofs.Common.{◌≡◌}
use Rattle.groups.specs.Groups.{walk}
use Rattle.sums.proofs.Roots.{Rooting}
use Rattle.sums.proofs.rooted.Given as goal

abbrev pub invariant-loop-s : goal.invariant-loop-s
invariant-loop-s l = (l.s-iterator.unit.now ≡ l.fn.u) × Rooting (walk l.groups.steps l.groups.parents.now) l.fn.u l.v l.s-iterator.at
