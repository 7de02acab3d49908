use Rattle.std.proofs.Common.{◌≡◌}
use Rattle.pages.specs.Bytes.{count_of}
use Rattle.order.proofs.Order.{Sorting}
use Rattle.order.proofs.by_name.Given as goal

abbrev pub invariant-loop-s : goal.invariant-loop-s
invariant-loop-s l = (l.s-iterator.unit.now ≡ l.fn.u) × Sorting l.names.page.now (count_of l.names.page.now) l.fn.u l.w l.s-iterator.at
