use mathlib.Core.Path.{◌∙◌}
use Rattle.types.proofs.Calls.{empty_short, empty_made}
use Rattle.types.proofs.empty_types.Goals as goal

pub returns-then-page-lt-COUNT_BYTES : goal.returns-then-page-lt-COUNT_BYTES
returns-then-page-lt-COUNT_BYTES c = empty_short c.args.page.now c.if-page-lt-COUNT_BYTES.true

pub returns : goal.returns
returns c =
    let if1 = c.if-page-lt-COUNT_BYTES in
    let clear = c.clear in
    let z = empty_made c.args.page.now if1.false in (z.0, clear.ensures ∙ z.1)
