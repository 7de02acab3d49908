use mathlib.Core.Path.{◌≡◌}
use Prim.Native.Nat.{◌*◌, ◌≤◌}
use Rattle.formulas.specs.Below.{errors_to}
use Rattle.formulas.specs.State.{nodes_of}
use Rattle.formulas.proofs.Answering.error_count.Given as goal

abbrev pub invariant-loop-n : goal.invariant-loop-n
invariant-loop-n l = (l.count ≡ errors_to (nodes_of l.self) l.root l.n) × (l.count ≤ 2 * l.n)
