use mathlib.Core.Path.{refl}
use Rattle.types.proofs.Types.{formed_by}
use Rattle.unary.proofs.Checking.{known_works, known_done}
use Rattle.unary.proofs.check_known.Goals as goal

pub check_unary_operator-requires : goal.check_unary_operator-requires
check_unary_operator-requires c =
    let pre = c.requires in
    known_works c.args.maker.now.page.now c.args.op c.args.t pre.op_nonzero.0 pre.op_nonzero.1 (rw (c.new.ensures, c.store.ensures.0) at c.errors_of-errors.ensures)
    (rw c.count.ensures at c.if-count-ne0.false) (formed_by c.args.maker.now.measured) refl

pub returns-clause-page_after : goal.returns-clause-page_after
returns-clause-page_after c =
    let checked = c.check_unary_operator.ensures in
    let none = (rw c.count.ensures at c.if-count-ne0.false) in
    let errors = (rw (c.new.ensures, c.store.ensures.0) at c.errors_of-errors.ensures) in
    let pre = c.requires in
    known_done c.args.maker.now.page.now c.args.op c.args.t pre.op_nonzero.0 pre.op_nonzero.1 errors none checked.page_after c.conclusion_of.ensures
