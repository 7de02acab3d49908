use mathlib.Core.Path.{sym, ◌∙◌}
use native.Mathlib.Omega.{arith}
use Rattle.marks.specs.Marks.{room}
use Rattle.types.proofs.Types.{measured_by}
use Rattle.matching.proofs.Memo.{all_fit}
use Rattle.answers.proofs.index_in.Goals as goal

pub index_over-requires-clause-room : goal.index_over-requires-clause-room
unfolding room
index_over-requires-clause-room c = (sym c.fits.ensures ∙ c.if-fits.true, omega arith)

pub index_over-requires-then-fits-2-clause-room : goal.index_over-requires-then-fits-2-clause-room
unfolding room
index_over-requires-then-fits-2-clause-room c = (sym c.fits-else-fits.ensures ∙ c.if-fits-2.true, omega arith)

pub index_over-requires-else-fits-2-clause-room : goal.index_over-requires-else-fits-2-clause-room
unfolding room
index_over-requires-else-fits-2-clause-room c =
    let m = c.args.maker.now in
    (all_fit m.page.now (measured_by m.measured).held.sound c.args.target.checked c.args.key c.requires.0 c.requires.1, omega arith)
