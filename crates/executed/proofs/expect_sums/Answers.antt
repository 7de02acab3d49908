-- Each row is what the definitions compute. Assumes nothing.
use Rattle.pages.specs.Pad.{pad}
use Rattle.executed.proofs.Answers.{rows}
use Rattle.executed.proofs.expect_sums.Goals as goal

pub expect_binary-requires : goal.expect_binary-requires
unfolding pad
expect_binary-requires c = rw c.passed-mm.ensures rows.same_unit

pub expect_binary-requires-2 : goal.expect_binary-requires-2
unfolding pad
expect_binary-requires-2 c = rw c.passed-mm.ensures rows.adopted

pub expect_binary-requires-3 : goal.expect_binary-requires-3
unfolding pad
expect_binary-requires-3 c = rw c.passed-mm.ensures rows.kept_left

pub expect_binary-requires-4 : goal.expect_binary-requires-4
unfolding pad
expect_binary-requires-4 c = rw c.passed-inch.ensures rows.in_mm

pub expect_binary-requires-5 : goal.expect_binary-requires-5
unfolding pad
expect_binary-requires-5 c = rw c.passed-mm.ensures rows.mm_in

pub expect_binary-requires-6 : goal.expect_binary-requires-6
unfolding pad
expect_binary-requires-6 c = rw c.passed-bad.ensures rows.sum

pub expect_binary-requires-7 : goal.expect_binary-requires-7
unfolding pad
expect_binary-requires-7 c = rw c.passed-bad.ensures rows.difference
