use mathlib.Core.Path.{◌≡◌, refl, sym, ◌∙◌}
use Prim.Native.Nat.{◌<◌}
use native.Mathlib.Omega.{arith}
use lib.Seq.{drop-set-lt}
use Rattle.types.specs.Store.{types_max}
use Rattle.types.specs.Types.{types_in}
use Rattle.types.proofs.Types.{types_few}
use Rattle.members.specs.Leaves.{is_unary}
use Rattle.members.proofs.Leaves.{leaves_more}
use Rattle.types.proofs.Types.{held_by}
use Rattle.members.proofs.fill_leaves.Goals as goal

pub loop-t-init : goal.loop-t-init
loop-t-init g c = (c.requires.1, refl)

pub leaf_of-leaf-requires : goal.leaf_of-leaf-requires
leaf_of-leaf-requires g c =
    record { t_bound = omega (arith, c.loop-t-test.true, c.count-t-end.ensures); leaves = c.loop-t.invariant.0 }

pub bounds-leaves-t : goal.bounds-leaves-t
bounds-leaves-t g c =
    let few = types_few c.args.store.page.now (held_by c.args.store.held).sound in
    omega (arith, few, c.loop-t-test.true, c.count-t-end.ensures, c.loop-t.invariant.0.size)

pub offset_bounds-leaves-t : goal.offset_bounds-leaves-t
offset_bounds-leaves-t g c =
    let few = types_few c.args.store.page.now (held_by c.args.store.held).sound in
    grind (arith, few, c.loop-t-test.true, c.count-t-end.ensures)

pub overflow_cast-leaves : goal.overflow_cast-leaves
overflow_cast-leaves g c =
    let few = types_few c.args.store.page.now (held_by c.args.store.held).sound in
    grind (arith, few, c.loop-t-test.true, c.count-t-end.ensures, c.leaf_of-leaf.ensures.1)

pub loop-t-preserved : goal.loop-t-preserved
loop-t-preserved g c =
    let loop = c.loop-t in
    let a = c.args in
    let few = types_few a.store.page.now (held_by c.args.store.held).sound in
    let low : loop.t < types_max = omega (arith, few, c.loop-t-test.true, c.count-t-end.ensures) in (
      leaves_more (is_unary g.row.OPERANDS) a.store.page.now loop.leaves loop.t c.leaf_of-leaf.result low loop.invariant.0 c.leaf_of-leaf.ensures.0,
      drop-set-lt c.count-t-end.result loop.leaves loop.t c.leaf_of-leaf.result c.loop-t-test.true ∙ loop.invariant.1,
    )

pub shape_of-leaves : goal.shape_of-leaves
shape_of-leaves g c = c.loop-t.invariant.0.size ∙ sym c.requires.1.size

pub returns : goal.returns
returns g c =
    let loop = c.loop-t in
    let e : loop.t ≡ types_in c.args.store.page.now =
    omega (arith, loop.auto.t-end, c.loop-t-test.false, c.count-t-end.ensures) in
    record { leaves = rw e at loop.invariant.0; leaves_unchanged = rw c.count-t-end.ensures at loop.invariant.1 }
