use borrow.Author.Tests.{lt-ltb, le-ltb}
use Rattle.calls.specs.Types.{functions_from, unknown_from, checked_of}
use Rattle.calls.proofs.checked_of.Goals as goal

pub returns-then-n-lt-FUNCTIONS : goal.returns-then-n-lt-FUNCTIONS
unfolding checked_of
returns-then-n-lt-FUNCTIONS c = rw (lt-ltb c.args.c functions_from c.if-n-lt-FUNCTIONS.true)

pub returns-then-n-lt-UNKNOWN : goal.returns-then-n-lt-UNKNOWN
unfolding checked_of
returns-then-n-lt-UNKNOWN c =
    let n = c.args.c in
    rw (le-ltb n functions_from c.if-n-lt-FUNCTIONS.false, lt-ltb n unknown_from c.if-n-lt-UNKNOWN.true)

pub returns : goal.returns
unfolding checked_of
returns c =
    let n = c.args.c in
    rw (le-ltb n functions_from c.if-n-lt-FUNCTIONS.false, le-ltb n unknown_from c.if-n-lt-UNKNOWN.false)
