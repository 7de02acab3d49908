use Rattle.bindings.specs.Bindings.{is_bound, bound_to}
use Rattle.pages.proofs.Options.{cond_or}
use Rattle.std.proofs.lemmas.Result.{err_from_is_err_and}
use mathlib.Core.Path.{refl, sym, ◌∙◌}
use native.Mathlib.Omega.{arith}
use Rattle.types.proofs.Types.{measured_by, formed_by}
use Rattle.bindings.proofs.Rebuilding.{low, done_generic, done_closed, done_before, done_low, done_noted, kids_start, child_asks, child_low, child_works, child_number, kids_next, kids_stop, parent_ready, parent_done}
use borrow.Author.Rules.{rules}
use Rattle.bindings.proofs.+rebuild_substitute.Goals as goal

pub rebuild-loop-i-init : goal.rebuild-loop-i-init
rebuild-loop-i-init t c =
    let a = c.args in
    ((refl, refl), kids_start a.bindings a.maker.now.page.now _ a.t c.requires.working (formed_by a.maker.now.measured) c.arity-n.result (rw c.store-store.ensures.0 at c.arity-n.ensures.0) _ (search rules))

pub rebuild-child_of-child-requires : goal.rebuild-child_of-child-requires
rebuild-child_of-child-requires t c =
    let a = c.args in
    let l = c.loop-i in
    rw c.store.ensures.0 (child_asks a.bindings a.maker.now.page.now _ a.t c.requires.working (formed_by a.maker.now.measured) c.arity-n.result (rw c.store-store.ensures.0 at c.arity-n.ensures.0) l.i l.kids l.maker.page.now l.done l.invariant.1 c.loop-i-test.true)

pub rebuild-substitute-requires : goal.rebuild-substitute-requires
rebuild-substitute-requires t c =
    let a = c.args in
    let l = c.loop-i in
    let c-low = child_low a.bindings a.maker.now.page.now _ a.t c.requires.working (formed_by a.maker.now.measured) c.arity-n.result (rw c.store-store.ensures.0 at c.arity-n.ensures.0) l.i l.kids l.maker.page.now l.done l.invariant.1 c.loop-i-test.true c.child_of-child.result (rw c.store.ensures.0 at c.child_of-child.ensures.0) in
    (omega (arith, c-low, c.decreases), child_works a.bindings a.maker.now.page.now _ a.t c.requires.working (formed_by a.maker.now.measured) c.arity-n.result (rw c.store-store.ensures.0 at c.arity-n.ensures.0) l.i l.kids l.maker.page.now l.done l.invariant.1 c.loop-i-test.true c.child_of-child.result (rw c.store.ensures.0 at c.child_of-child.ensures.0))

pub rebuild-returns-in_err-r-clause-value : goal.rebuild-returns-in_err-r-clause-value
rebuild-returns-in_err-r-clause-value t c =
    let a = c.args in
    let l = c.loop-i in
    let p = err_from_is_err_and c.from_residual.result c.from_residual.ensures.1 in
    let z =
    (kids_stop a.bindings a.maker.now.page.now _ a.t c.requires.working (formed_by a.maker.now.measured) c.arity-n.result (rw c.store-store.ensures.0 at c.arity-n.ensures.0) l.i l.kids l.maker.page.now l.done l.invariant.1 c.loop-i-test.true c.child_of-child.result (rw c.store.ensures.0 at c.child_of-child.ensures.0)
    c.substitute.result _ _ (c.substitute.ensures.value, c.substitute.ensures.remembered) c.requires.t_value _ c.in_err-r.was).0 in
    rw (p.1, p.2) (sym c.in_err-r.was ∙ z.0, z.1)

pub rebuild-overflow_cast-kids : goal.rebuild-overflow_cast-kids
rebuild-overflow_cast-kids t c =
    let a = c.args in
    let l = c.loop-i in
    let z = child_number a.bindings a.maker.now.page.now _ a.t c.requires.working (formed_by a.maker.now.measured) c.arity-n.result (rw c.store-store.ensures.0 at c.arity-n.ensures.0) l.i l.kids l.maker.page.now l.done l.invariant.1 c.loop-i-test.true c.child_of-child.result (rw c.store.ensures.0 at c.child_of-child.ensures.0)
    c.substitute.result _ _ (c.substitute.ensures.value, c.substitute.ensures.remembered) _ c.in_ok-r.was in
    search (rules, z)

pub rebuild-loop-i-preserved : goal.rebuild-loop-i-preserved
rebuild-loop-i-preserved t c =
    let a = c.args in
    let l = c.loop-i in
    let same = c.substitute.ensures.same in
    let z = kids_next a.bindings a.maker.now.page.now _ a.t c.requires.working (formed_by a.maker.now.measured) c.arity-n.result (rw c.store-store.ensures.0 at c.arity-n.ensures.0) l.i l.kids l.maker.page.now l.done l.invariant.1 c.loop-i-test.true c.child_of-child.result (rw c.store.ensures.0 at c.child_of-child.ensures.0)
    c.substitute.result _ _ (c.substitute.ensures.value, c.substitute.ensures.remembered) (formed_by c.substitute.new.maker.measured) _ c.in_ok-r.was in
    ((same.0 ∙ l.invariant.0.0, same.1 ∙ l.invariant.0.1), z)

pub rebuild-enter_type-requires-clause-ready : goal.rebuild-enter_type-requires-clause-ready
rebuild-enter_type-requires-clause-ready t c =
    let a = c.args in
    let l = c.loop-i in
    parent_ready a.bindings a.maker.now.page.now _ a.t c.requires.working (formed_by a.maker.now.measured) c.arity-n.result (rw c.store-store.ensures.0 at c.arity-n.ensures.0) l.i l.kids l.maker.page.now l.done l.invariant.1 c.loop-i-test.false c.requires.t_value c.kind_of-kind.result (rw c.store-store.ensures.0 at c.kind_of-kind.ensures) (measured_by l.maker.measured)

pub rebuild-returns-clause-value : goal.rebuild-returns-clause-value
rebuild-returns-clause-value t c =
    let a = c.args in
    let l = c.loop-i in
    let e = c.enter_type.ensures in
    (parent_done a.bindings a.maker.now.page.now _ a.t c.requires.working (formed_by a.maker.now.measured) c.arity-n.result (rw c.store-store.ensures.0 at c.arity-n.ensures.0) l.i l.kids l.maker.page.now l.done l.invariant.1 c.loop-i-test.false c.requires.t_value c.kind_of-kind.result (rw c.store-store.ensures.0 at c.kind_of-kind.ensures)
    c.enter_type.result _ e.value.0 e.value.1).0

pub rebuild-returns-clause-remembered : goal.rebuild-returns-clause-remembered
rebuild-returns-clause-remembered t c =
    let a = c.args in
    let l = c.loop-i in
    let e = c.enter_type.ensures in
    (parent_done a.bindings a.maker.now.page.now _ a.t c.requires.working (formed_by a.maker.now.measured) c.arity-n.result (rw c.store-store.ensures.0 at c.arity-n.ensures.0) l.i l.kids l.maker.page.now l.done l.invariant.1 c.loop-i-test.false c.requires.t_value c.kind_of-kind.result (rw c.store-store.ensures.0 at c.kind_of-kind.ensures)
    c.enter_type.result _ e.value.0 e.value.1).1

pub substitute-returns-then-kind-eq-GENERIC-clause-value : goal.substitute-returns-then-kind-eq-GENERIC-clause-value
substitute-returns-then-kind-eq-GENERIC-clause-value t c =
    let a = c.args in
    (done_generic a.bindings a.maker.now.page.now _ a.t c.requires (formed_by a.maker.now.measured) c.kind_of-kind.result (rw c.store-store.ensures.0 at c.kind_of-kind.ensures) c.name_of.result
    c.unwrap_or.result c.if-kind-eq-GENERIC.true (rw c.store-store.ensures.0 at c.name_of.ensures) (c.unwrap_or.ensures ∙ rw c.bound_to.ensures (cond_or (is_bound a.bindings c.name_of.result) (bound_to a.bindings c.name_of.result) a.t))).0

pub substitute-returns-then-not-is_entered-clause-value : goal.substitute-returns-then-not-is_entered-clause-value
substitute-returns-then-not-is_entered-clause-value t c =
    let a = c.args in
    (done_closed a.bindings a.maker.now.page.now _ a.t c.requires (formed_by a.maker.now.measured) c.kind_of-kind.result (rw c.store-store.ensures.0 at c.kind_of-kind.ensures) c.if-kind-eq-GENERIC.false
    (sym c.is_entered.ensures ∙ c.if-not-is_entered.true)).0

pub substitute-bounds : goal.substitute-bounds
substitute-bounds t c =
    let a = c.args in
    omega (arith, c.requires.remembered.size, low a.bindings a.maker.now.page.now _ a.t c.requires (formed_by a.maker.now.measured))

pub substitute-offset_bounds-done-t : goal.substitute-offset_bounds-done-t
substitute-offset_bounds-done-t t c =
    let a = c.args in
    omega (arith, c.requires.remembered.size, low a.bindings a.maker.now.page.now _ a.t c.requires (formed_by a.maker.now.measured))

pub substitute-returns-in-Some-clause-value : goal.substitute-returns-in-Some-clause-value
substitute-returns-in-Some-clause-value t c =
    let a = c.args in
    rw c.from.ensures (done_before a.bindings a.maker.now.page.now _ a.t c.requires (formed_by a.maker.now.measured) c.in-Some.r c.in-Some.is).0

pub substitute-offset_bounds-done-t-2 : goal.substitute-offset_bounds-done-t-2
substitute-offset_bounds-done-t-2 t c =
    let a = c.args in
    omega (arith, c.rebuild.ensures.remembered.size, low a.bindings a.maker.now.page.now _ a.t c.requires (formed_by a.maker.now.measured))

pub substitute-rebuild-requires : goal.substitute-rebuild-requires
substitute-rebuild-requires t c =
    (omega (arith, c.decreases), (c.requires, rw (← (rw c.store-store.ensures.0 at c.kind_of-kind.ensures)) (sym c.is_entered.ensures ∙ c.if-not-is_entered.false)))

pub substitute-overflow_cast-done : goal.substitute-overflow_cast-done
substitute-overflow_cast-done t c =
    let a = c.args in
    search (rules, done_low a.bindings a.maker.now.page.now _ a.t c.requires (formed_by a.maker.now.measured) _ _ c.rebuild.result (c.rebuild.ensures.value, c.rebuild.ensures.remembered) _ c.in_ok-r.was)

pub substitute-bounds-done-t-2 : goal.substitute-bounds-done-t-2
substitute-bounds-done-t-2 t c =
    let a = c.args in
    omega (arith, c.rebuild.ensures.remembered.size, low a.bindings a.maker.now.page.now _ a.t c.requires (formed_by a.maker.now.measured))

pub substitute-returns-clause-remembered : goal.substitute-returns-clause-remembered
substitute-returns-clause-remembered t c =
    let a = c.args in
    let v = rw c.in_ok-r.was at c.rebuild.ensures.value in
    (done_noted a.bindings a.maker.now.page.now _ a.t c.requires (formed_by a.maker.now.measured) _ _ _ (v, c.rebuild.ensures.remembered)).1
