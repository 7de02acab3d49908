use mathlib.Core.Path.{◌≡◌, sym, ◌∙◌}
use native.Mathlib.Omega.{arith}
use Rattle.types.specs.Types.{arity}
use Rattle.types.proofs.Types.{types_few}
use Rattle.members.proofs.Flattening.{gathered_none, alone, share_size, share_room, share_more, share_all, share_place, share_itself}
use Rattle.types.proofs.Types.{held_by}
use Rattle.members.proofs.add_share.Goals as goal

pub bounds-types-n : goal.bounds-types-n
bounds-types-n c =
    let a = c.args in
    let u = rw c.kind_of.ensures at (sym c.is_union.ensures ∙ c.if-not-is_union.true) in
    share_place a.store.page.now a.x u a.types.now a.n c.requires.x_in_bounds

pub overflow_cast-types : goal.overflow_cast-types
overflow_cast-types c =
    grind (arith, c.requires.x_bound, types_few c.args.store.page.now (held_by c.args.store.held).sound)

pub returns-then-not-is_union : goal.returns-then-not-is_union
returns-then-not-is_union c =
    let a = c.args in
    let u = rw c.kind_of.ensures at (sym c.is_union.ensures ∙ c.if-not-is_union.true) in
    share_itself a.store.page.now a.x u a.types.now a.n c.requires.x_in_bounds

pub loop-i-init : goal.loop-i-init
loop-i-init c =
    let a = c.args in
    gathered_none (alone a.store.page.now a.x) a.types.now a.n

pub overflow_add-types : goal.overflow_add-types
overflow_add-types c =
    let a = c.args in
    let u = rw c.kind_of.ensures at (sym c.is_union.ensures ∙ c.if-not-is_union.false) in
    let size = share_size a.store.page.now a.x u a.types.now a.n c.requires.x_in_bounds in
    omega (arith, c.requires.x_in_bounds, size, c.arity-k.ensures.0, c.loop-i-test.true)

pub child_of-requires : goal.child_of-requires
child_of-requires c =
    (c.requires.x_bound, omega (arith, c.arity-k.ensures.0, c.loop-i-test.true))

pub bounds-types-n-in-loop-i : goal.bounds-types-n-in-loop-i
bounds-types-n-in-loop-i c =
    let loop = c.loop-i in
    let a = c.args in
    let pre = c.requires in
    let u = rw c.kind_of.ensures at (sym c.is_union.ensures ∙ c.if-not-is_union.false) in
    let size = share_size a.store.page.now a.x u a.types.now a.n pre.x_in_bounds in
    let room = share_room a.store.page.now a.x u a.types.now a.n pre.x_in_bounds loop.i
    (omega (arith, c.arity-k.ensures.0, c.loop-i-test.true)) in
    rw loop.invariant (omega (arith, room, size, pre.x_in_bounds, c.arity-k.ensures.0, c.loop-i-test.true))

pub overflow_cast-types-in-loop-i : goal.overflow_cast-types-in-loop-i
overflow_cast-types-in-loop-i c =
    grind (arith, c.child_of.ensures.1, c.requires.x_bound, types_few c.args.store.page.now (held_by c.args.store.held).sound)

pub loop-i-preserved : goal.loop-i-preserved
loop-i-preserved c =
    let loop = c.loop-i in
    let a = c.args in
    let u = rw c.kind_of.ensures at (sym c.is_union.ensures ∙ c.if-not-is_union.false) in
    rw (loop.invariant, c.child_of.ensures.0)
    (share_more a.store.page.now a.x u a.types.now a.n c.requires.x_in_bounds loop.i
    (omega (arith, c.arity-k.ensures.0, c.loop-i-test.true)))

pub overflow_add-result-2 : goal.overflow_add-result-2
overflow_add-result-2 c =
    let a = c.args in
    let u = rw c.kind_of.ensures at (sym c.is_union.ensures ∙ c.if-not-is_union.false) in
    omega (
      arith,
      c.requires.x_in_bounds,
      share_size a.store.page.now a.x u a.types.now a.n c.requires.x_in_bounds,
      c.arity-k.ensures.0,
    )

pub shape_of-types : goal.shape_of-types
shape_of-types c =
    let loop = c.loop-i in
    let a = c.args in
    let u = rw c.kind_of.ensures at (sym c.is_union.ensures ∙ c.if-not-is_union.false) in
    rw loop.invariant
    (share_room a.store.page.now a.x u a.types.now a.n c.requires.x_in_bounds loop.i
    (omega (arith, loop.auto.i-end, c.arity-k.ensures.0)))

pub returns : goal.returns
returns c =
    let loop = c.loop-i in
    let a = c.args in
    let u = rw c.kind_of.ensures at (sym c.is_union.ensures ∙ c.if-not-is_union.false) in
    let e : loop.i ≡ arity a.store.page.now a.x = omega (arith, loop.auto.i-end, c.loop-i-test.false, c.arity-k.ensures.0) in (
      omega (arith, c.arity-k.ensures.0, share_size a.store.page.now a.x u a.types.now a.n c.requires.x_in_bounds),
      loop.invariant ∙ share_all a.store.page.now a.x u a.types.now a.n c.requires.x_in_bounds loop.i e,
    )
