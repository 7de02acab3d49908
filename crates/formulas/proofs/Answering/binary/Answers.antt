use mathlib.Core.Path.{◌∙◌}
use native.Mathlib.Omega.{arith}
use Rattle.formulas.specs.State.{nodes_of, roots_of}
use Rattle.formulas.proofs.Supplied.{placed_by, node_there_too, operand_in_use, operand_fits}
use Rattle.formulas.proofs.Conditions.{binary_answered}
use Rattle.formulas.proofs.Answering.binary.Goals as goal

pub new-leafed-requires : goal.new-leafed-requires
new-leafed-requires c = (omega arith, c.requires.beside.double)

pub binary_checked-requires-clause-left_used : goal.binary_checked-requires-clause-left_used
binary_checked-requires-clause-left_used c =
    let p = placed_by c.args.self.now.placed in
    let h = c.requires.beside in
    rw (c.new-leafed.ensures, c.operand-l.ensures, c.operand-r.ensures) (
      operand_in_use h c.args.a (node_there_too p c.args.a c.requires.operands.0),
      operand_in_use h c.args.b (node_there_too p c.args.b c.requires.operands.1),
    )

pub binary_checked-requires-clause-left_value : goal.binary_checked-requires-clause-left_value
binary_checked-requires-clause-left_value c =
    let p = placed_by c.args.self.now.placed in
    rw (c.operand-l.ensures, c.operand-r.ensures) (operand_fits p c.args.a c.requires.operands.0, operand_fits p c.args.b c.requires.operands.1)

pub returns : goal.returns
returns c =
    let g = c.args.self.now in
    rw (c.new-leafed.ensures, c.operand-l.ensures, c.operand-r.ensures) at c.binary_checked.ensures
    ∙ (binary_answered c.args.store.page.now (roots_of g) (nodes_of g) c.args.op c.args.a c.args.b).0
