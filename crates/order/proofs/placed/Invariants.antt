use Rattle.units.specs.Unit.{term}
use Rattle.order.proofs.Order.{Placing}
use Rattle.order.proofs.placed.Given as goal

abbrev pub invariant-loop-j : goal.invariant-loop-j
invariant-loop-j l = Placing l.names.page.now l.w (term l.s l.e) l.v l.j
