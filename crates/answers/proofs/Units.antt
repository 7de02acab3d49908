-- Units in answers. Assumes nothing.
use Rattle.std.proofs.Common.{Option}
use mathlib.Core.Path.{◌≡◌}
use mathlib.Core.Bool.{Bool, false, not}
use Prim.Native.Nat.{ℕ}
use Rattle.names.specs.Table.{names_max}
use Rattle.units.specs.Calls.{terms_of, unitless}
use Rattle.units.specs.declared.Unit.{Unit}
use Rattle.sums.specs.Sums.{convertible}
use Rattle.sums.specs.Calls.{or_empty}
use Rattle.answers.specs.Units.{clashes}

-- two units that are not unitless clash where they are not convertible
pub clash_by : (root : ℕ → ℕ) (left right : Option Unit) → unitless left ≡ false → unitless right ≡ false
    → (b : Bool) → b ≡ convertible names_max root (terms_of (or_empty left)) (terms_of (or_empty right)) → not b ≡ clashes root left right
unfolding clashes
clash_by root left right l r b e = rw (l, r, e)
