use mathlib.Core.Path.{sym, ◌∙◌}
use native.Mathlib.Omega.{arith}
use Rattle.marks.specs.Marks.{room}
use Rattle.types.proofs.Types.{held_by}
use Rattle.checked.proofs.Room.{all_fit_bound}
use Rattle.checked.proofs.unify_in.Goals as goal

pub unify_over-requires-clause-room : goal.unify_over-requires-clause-room
unfolding room
unify_over-requires-clause-room c =
    let fit = sym c.fits_bound.ensures ∙ c.if-fits_bound.true in
    (fit, fit, omega arith, omega arith)

pub unify_over-requires-then-fits_bound-2-clause-room : goal.unify_over-requires-then-fits_bound-2-clause-room
unfolding room
unify_over-requires-then-fits_bound-2-clause-room c =
    let fit = sym c.fits_bound-else-fits_bound.ensures ∙ c.if-fits_bound-2.true in
    (fit, fit, omega arith, omega arith)

pub unify_over-requires-else-fits_bound-2-clause-room : goal.unify_over-requires-else-fits_bound-2-clause-room
unfolding room
unify_over-requires-else-fits_bound-2-clause-room c =
    let a = c.args in
    let f = (held_by a.store.held).sound in
    let fit = all_fit_bound a.store.page.now f a.bound c.requires.usable a.e c.requires.e_bound.0 a.actual c.requires.e_bound.1 in
    (fit, fit, omega arith, omega arith)
