-- The exponent is as it was, in sixteen bits and back. Assumes nothing.
use mathlib.Core.Path.{◌∙◌}
use mathlib.Core.List.{[]}
use mir.Facts.{to_z-of_z}
use Rattle.units.proofs.Held.{grown}
use Rattle.executed.proofs.power.Goals as goal

pub returns : goal.returns
returns c = c.with_term.ensures ∙ grown _ _ _ [] c.dimensionless.ensures ∙ rw (to_z-of_z c.ranges.exponent)
