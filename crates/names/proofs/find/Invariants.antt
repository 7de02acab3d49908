use Prim.Native.Nat.{◌≤◌}
use mathlib.Core.Path.{◌≡◌}
use mathlib.Core.Bool.{false}
use lib.ListN.{length}
use Rattle.names.specs.Table.{offset, named}
use Rattle.pages.specs.Quant.{any_to}
use Rattle.names.proofs.find.Given as goal

abbrev pub invariant-loop-i : goal.invariant-loop-i
invariant-loop-i l = (l.i ≤ l.n) × (l.at ≡ offset l.page l.i) × (l.at ≤ length l.page) × (any_to l.i (named l.page l.name) ≡ false)
