-- Each row is what the definitions compute. Assumes nothing.
use mathlib.Core.Path.{refl}
use Rattle.pages.specs.Pad.{pad}
use Rattle.names.specs.Calls.{is_used}
use Rattle.units.specs.Unit.{formed}
use Rattle.executed.proofs.Wide.{wide}
use Rattle.executed.proofs.expect_wide.Goals as goal

pub expect_unconverted-requires : goal.expect_unconverted-requires
unfolding pad
expect_unconverted-requires c = wide.left

pub expect_unconverted-requires-2 : goal.expect_unconverted-requires-2
unfolding pad
expect_unconverted-requires-2 c = wide.right

pub expect_unconverted-requires-3 : goal.expect_unconverted-requires-3
unfolding pad
expect_unconverted-requires-3 c = wide.eighth

pub expect_unconverted-requires-4 : goal.expect_unconverted-requires-4
unfolding pad
expect_unconverted-requires-4 c = wide.ninth

pub expect_unformed-requires : goal.expect_unformed-requires
unfolding formed pad
expect_unformed-requires c = rw c.power.ensures

pub expect_unformed-requires-2 : goal.expect_unformed-requires-2
unfolding formed pad
expect_unformed-requires-2 c = rw c.power-2.ensures

pub expect_unused-requires : goal.expect_unused-requires
unfolding is_used
expect_unused-requires c = refl

pub expect_unused-requires-2 : goal.expect_unused-requires-2
unfolding is_used
expect_unused-requires-2 c = refl
