use Prim.Native.Nat.{◌≤◌}
use lib.ListN.{length}
use Rattle.names.proofs.Prints.{Tables}
use Rattle.names.proofs.is_formed.Given as goal

abbrev pub invariant-loop-i : goal.invariant-loop-i
invariant-loop-i l = (l.i ≤ l.n) × (l.at ≤ length l.page) × Tables l.page l.i l.at l.chains.heads l.chains.links l.offsets
