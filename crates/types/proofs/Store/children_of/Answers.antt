use Rattle.std.proofs.Common.{arith}
use Rattle.kinds.specs.Kinds.{children_max}
use Rattle.types.specs.Types.{child_of}
use Rattle.types.proofs.Types.{types_few, held_by}
use Rattle.types.proofs.Reading.{numbers_none, numbers_more}
use Rattle.types.proofs.Store.children_of.Goals as goal

pub loop-i-init : goal.loop-i-init
loop-i-init c = numbers_none children_max (child_of c.args.self.page.now c.args.t)

pub overflow_cast-children : goal.overflow_cast-children
overflow_cast-children c =
    omega (arith, types_few c.args.self.page.now (held_by c.args.self.held).sound, c.requires)

pub loop-i-preserved : goal.loop-i-preserved
loop-i-preserved c =
    let l = c.loop-i in
    rw (l.invariant, c.child_of.ensures.0) (numbers_more children_max (child_of c.args.self.page.now c.args.t) l.i (omega (arith, c.loop-i-test.true, c.arity-i-end.ensures)))
