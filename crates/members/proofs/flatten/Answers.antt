use mathlib.Core.Path.{◌≡◌, sym, ◌∙◌}
use Prim.Native.Nat.{◌<◌}
use native.Mathlib.Omega.{arith}
use Rattle.types.specs.Types.{arity}
use Rattle.types.proofs.Types.{types_few}
use Rattle.members.specs.Members.{gather}
use Rattle.members.proofs.Flattening.{gathered_none, shares, flat_itself, flat_room, flat_more, flat_all}
use Rattle.types.proofs.Types.{held_by}
use Rattle.members.proofs.flatten.Goals as goal

pub overflow_cast-types : goal.overflow_cast-types
overflow_cast-types c =
    grind (arith, c.requires, types_few c.args.store.page.now (held_by c.args.store.held).sound)

pub returns-then-not-is_union : goal.returns-then-not-is_union
returns-then-not-is_union c =
    let a = c.args in
    let pre = c.requires in
    let u = rw c.kind_of.ensures at (sym c.is_union.ensures ∙ c.if-not-is_union.true) in
    flat_itself a.store.page.now (held_by c.args.store.held).sound a.t pre a.types.now c.told-types u

pub loop-i-init : goal.loop-i-init
unfolding gather
loop-i-init c =
    let a = c.args in
    (omega arith, gathered_none (shares a.store.page.now a.t) a.types.now 0)

pub add_share-n-requires : goal.add_share-n-requires
add_share-n-requires c =
    let a = c.args in
    let pre = c.requires in
    let loop = c.loop-i in
    let u = rw c.kind_of.ensures at (sym c.is_union.ensures ∙ c.if-not-is_union.false) in
    let h : loop.i < arity a.store.page.now a.t = omega (arith, c.arity-i-end.ensures.0, c.loop-i-test.true) in record {
      x_bound = omega (arith, c.child_of.ensures.1, pre);
      x_in_bounds = rw (c.child_of.ensures.0, loop.invariant.1)
          (flat_room a.store.page.now (held_by c.args.store.held).sound a.t pre a.types.now c.told-types
          u loop.i loop.n loop.invariant.0 h);
    }

pub loop-i-preserved : goal.loop-i-preserved
loop-i-preserved c =
    let a = c.args in
    let pre = c.requires in
    let loop = c.loop-i in
    let u = rw c.kind_of.ensures at (sym c.is_union.ensures ∙ c.if-not-is_union.false) in
    let h : loop.i < arity a.store.page.now a.t = omega (arith, c.arity-i-end.ensures.0, c.loop-i-test.true) in
    let m = flat_more a.store.page.now (held_by c.args.store.held).sound a.t pre a.types.now c.told-types
    u loop.i loop.n loop.invariant.0 h in (
      c.add_share-n.ensures.0 ∙ rw c.child_of.ensures.0 m.0,
      c.add_share-n.ensures.1 ∙ rw (c.child_of.ensures.0, loop.invariant.1) m.1,
    )

pub returns : goal.returns
returns c =
    let a = c.args in
    let pre = c.requires in
    let loop = c.loop-i in
    let u = rw c.kind_of.ensures at (sym c.is_union.ensures ∙ c.if-not-is_union.false) in
    let e : loop.i ≡ arity a.store.page.now a.t = omega (arith, loop.auto.i-end, c.loop-i-test.false, c.arity-i-end.ensures.0) in
    rw loop.invariant.1
    (flat_all a.store.page.now (held_by c.args.store.held).sound a.t pre a.types.now c.told-types u loop.i loop.n loop.invariant.0 e)
