-- Each row is what the definitions compute. Assumes nothing.
use Rattle.pages.specs.Pad.{pad}
use Rattle.executed.proofs.Answers.{rows}
use Rattle.executed.proofs.expect_indexing.Goals as goal

pub expect_index-requires : goal.expect_index-requires
unfolding pad
expect_index-requires c = rw c.passed-unknown.ensures rows.null

pub expect_index-requires-2 : goal.expect_index-requires-2
unfolding pad
expect_index-requires-2 c = rw c.passed-unknown.ensures rows.tuple

pub expect_index-requires-3 : goal.expect_index-requires-3
unfolding pad
expect_index-requires-3 c = rw c.passed-element.ensures rows.element

pub expect_index-requires-4 : goal.expect_index-requires-4
unfolding pad
expect_index-requires-4 c = rw c.passed-kept.ensures rows.kept
