use Rattle.std.proofs.Common.{◌≡◌, ◌<◌}
use Rattle.types.specs.Store.{deepest}
use Rattle.types.proofs.entry_depth.Given as goal

abbrev pub invariant-loop-i : goal.invariant-loop-i
invariant-loop-i l = (l.deepest ≡ deepest l.page l.depths l.o l.i) × (l.deepest < 256)
