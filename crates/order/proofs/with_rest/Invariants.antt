use Rattle.std.proofs.Common.{◌≡◌}
use Rattle.order.proofs.Order.{Resting}
use Rattle.order.proofs.with_rest.Given as goal

abbrev pub invariant-loop-s : goal.invariant-loop-s
invariant-loop-s l = (l.s-iterator.unit.now ≡ l.fn.w) × Resting l.initial.out l.fn.w l.fn.j l.out l.s-iterator.at
