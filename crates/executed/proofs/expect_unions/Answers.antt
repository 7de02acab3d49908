-- Each row is what the definitions compute. Assumes nothing.
use Rattle.pages.specs.Pad.{pad}
use Rattle.executed.proofs.Answers.{rows}
use Rattle.executed.proofs.expect_unions.Goals as goal

pub expect_binary-requires : goal.expect_binary-requires
unfolding pad
expect_binary-requires c = rw c.passed-one_fails.ensures rows.member

pub expect_binary-requires-2 : goal.expect_binary-requires-2
unfolding pad
expect_binary-requires-2 c = rows.limit

pub expect_unary-requires : goal.expect_unary-requires
unfolding pad
expect_unary-requires c = rw c.passed-union.ensures rows.negated
