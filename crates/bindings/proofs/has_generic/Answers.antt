use Rattle.std.proofs.Common.{◌≡◌, arith, ◌∙◌}
use lib.ListN.{length-set}
use Rattle.types.proofs.Types.{types_few, held_by}
use Rattle.bindings.proofs.Generics.{told_more}
use Rattle.bindings.proofs.has_generic.Goals as goal

pub generic_in-requires : goal.generic_in-requires
generic_in-requires c =
    let few = types_few c.args.store.page.now (held_by c.args.store.held).sound in
    (omega (arith, c.requires, c.loop-i-test.true), omega (arith, few, c.requires, c.loop-i-test.true, c.loop-i.invariant.0), c.loop-i.invariant.1)

pub bounds-found-i : goal.bounds-found-i
bounds-found-i c = omega (arith, types_few c.args.store.page.now (held_by c.args.store.held).sound, c.requires, c.loop-i-test.true)

pub loop-i-preserved : goal.loop-i-preserved
loop-i-preserved c =
    let page = c.args.store.page.now in
    let l = c.loop-i in
    let few = types_few page (held_by c.args.store.held).sound in (
      length-set l.found l.i _ ∙ l.invariant.0,
      told_more page l.found l.i c.generic_in.result (omega (arith, few, c.requires, c.loop-i-test.true, l.invariant.0)) l.invariant.1 c.generic_in.ensures,
    )

pub generic_in-requires-2 : goal.generic_in-requires-2
generic_in-requires-2 c =
    let l = c.loop-i in
    let few = types_few c.args.store.page.now (held_by c.args.store.held).sound in
    let e : l.i ≡ c.args.t = omega (arith, l.auto.i-end, c.loop-i-test.false) in
    (c.requires, omega (arith, few, c.requires, l.invariant.0), rw e at l.invariant.1)
