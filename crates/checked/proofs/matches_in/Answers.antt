use mathlib.Core.Path.{sym, ◌∙◌}
use native.Mathlib.Omega.{arith}
use Rattle.marks.specs.Marks.{room}
use Rattle.types.proofs.Types.{held_by}
use Rattle.matching.proofs.Memo.{all_fit}
use Rattle.checked.proofs.matches_in.Goals as goal

pub matches_over-requires-clause-room : goal.matches_over-requires-clause-room
unfolding room
matches_over-requires-clause-room c = (sym c.fits.ensures ∙ c.if-fits.true, omega arith)

pub matches_over-requires-then-fits-2-clause-room : goal.matches_over-requires-then-fits-2-clause-room
unfolding room
matches_over-requires-then-fits-2-clause-room c = (sym c.fits-else-fits.ensures ∙ c.if-fits-2.true, omega arith)

pub matches_over-requires-else-fits-2-clause-room : goal.matches_over-requires-else-fits-2-clause-room
unfolding room
matches_over-requires-else-fits-2-clause-room c =
    let a = c.args in
    (all_fit a.store.page.now (held_by a.store.held).sound a.actual a.expected c.requires.0 c.requires.1, omega arith)
