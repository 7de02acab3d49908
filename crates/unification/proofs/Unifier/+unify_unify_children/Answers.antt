use mathlib.Core.Path.{◌≡◌, refl, sym, ◌∙◌}
use Rattle.std.proofs.Common.{Ok, ap}
use Rattle.std.proofs.lemmas.Result.{err_from_is_err_and}
use mathlib.Core.Bool.{Bool, true, false}
use Prim.Native.Nat.{◌<◌}
use native.Mathlib.Omega.{arith}
use borrow.Author.Tests.{eq-eqb, ne_eqb}
use Rattle.kinds.specs.Kinds.{generic}
use Rattle.types.specs.Types.{types_in, kind_of}
use Rattle.matching.specs.Matching.{is_kind}
use Rattle.matching.proofs.Matching.{in_use_known, to_known}
use Rattle.matching.proofs.Memo.{in_use_small}
use Rattle.unification.specs.Unification.{unified, is_alike}
use Rattle.unification.proofs.Growth.{settled_found, given_by, settled_by, extends_refl}
use Rattle.unification.proofs.Unification.{generic_eq, adopted_eq, rest_eq, alike_eq, unify_settled}
use Rattle.unification.proofs.Pairs.{err_ends, no_ends, paired_none, paired_more, all_end, all_uneven, all_agreed}
use Rattle.types.proofs.Types.{held_by}
use Rattle.unification.proofs.Unifier.+unify_unify_children.Goals as goal

pub unify-returns-then-kind-eq-GENERIC-clause-value : goal.unify-returns-then-kind-eq-GENERIC-clause-value
unify-returns-then-kind-eq-GENERIC-clause-value t c =
    let g = c.args.self.now in
    let page = g.matcher.store.page.now in
    let f = (held_by g.matcher.store.held).sound in
    let e = c.args.e in
    let a = c.args.a in
    let u = c.requires.0 in
    let v = c.requires.1 in
    let k : is_kind generic page e ≡ true = rw (← c.kind_of-kind.ensures) (eq-eqb c.kind_of-kind.result generic c.if-kind-eq-GENERIC.true) in
    rw c.name_of.ensures at c.unify_generic.ensures.value ∙ sym (generic_eq page f e a u v g.bindings k)

pub unify-returns-then-is_adopted-clause-value : goal.unify-returns-then-is_adopted-clause-value
unify-returns-then-is_adopted-clause-value t c =
    let g = c.args.self.now in
    let page = g.matcher.store.page.now in
    let f = (held_by g.matcher.store.held).sound in
    let e = c.args.e in
    let a = c.args.a in
    let u = c.requires.0 in
    let v = c.requires.1 in
    let k : is_kind generic page e ≡ false = rw (← c.kind_of-kind.ensures) (ne_eqb c.kind_of-kind.result generic c.if-kind-eq-GENERIC.false) in
    sym (adopted_eq page f e a u v g.bindings k (sym c.is_adopted.ensures ∙ c.if-is_adopted.true))

pub unify-matches-requires : goal.unify-matches-requires
unify-matches-requires t c =
    let g = c.args.self.now in
    let page = g.matcher.store.page.now in
    record { actual_value = (in_use_known page c.args.e c.requires.0, in_use_known page c.args.a c.requires.1) }

pub unify-returns-then-not-are_alike-clause-value : goal.unify-returns-then-not-are_alike-clause-value
unify-returns-then-not-are_alike-clause-value t c =
    let g = c.args.self.now in
    let page = g.matcher.store.page.now in
    let f = (held_by g.matcher.store.held).sound in
    let e = c.args.e in
    let a = c.args.a in
    let u = c.requires.0 in
    let v = c.requires.1 in
    let k : is_kind generic page e ≡ false = rw (← c.kind_of-kind.ensures) (ne_eqb c.kind_of-kind.result generic c.if-kind-eq-GENERIC.false) in
    let l : is_alike (kind_of page e) (kind_of page a) ≡ false = rw (← c.kind_of-kind.ensures, ← c.kind_of.ensures) (sym c.are_alike.ensures ∙ c.if-not-are_alike.true) in
    rw (c.matches.ensures.value ∙ sym (to_known page e a)) (sym (rest_eq page f e a u v g.bindings k l))

pub unify-is_settled-requires : goal.unify-is_settled-requires
unify-is_settled-requires t c =
    let f = (held_by c.args.self.now.matcher.store.held).sound in
    (in_use_small _ f c.args.e c.requires.0, in_use_small _ f c.args.a c.requires.1)

pub unify-returns-then-is_settled-clause-value : goal.unify-returns-then-is_settled-clause-value
unify-returns-then-is_settled-clause-value t c =
    let g = c.args.self.now in
    let page = g.matcher.store.page.now in
    let b = g.bindings in
    let n = settled_by page b g.seen.now g.settled in
    sym (settled_found page b g.seen.now n c.args.e c.args.a c.is_settled.result c.is_settled.ensures c.if-is_settled.true b (extends_refl b))

pub unify_children-returns-then-n-arity-clause-value : goal.unify_children-returns-then-n-arity-clause-value
unify_children-returns-then-n-arity-clause-value t c =
    let g = c.args.self.now in
    let page = g.matcher.store.page.now in
    all_uneven page c.args.e c.args.a c.arity-n.result g.bindings c.arity.result c.arity-n.ensures.0 c.arity.ensures.0 (omega (arith, c.if-n-arity.true))

pub unify_children-loop-i-init : goal.unify_children-loop-i-init
unify_children-loop-i-init t c =
    let g = c.args.self.now in
    let page = g.matcher.store.page.now in
    let given = given_by g.bindings (types_in page) g.given in
    (((refl, refl), refl), paired_none page c.args.e c.args.a c.arity-n.result g.bindings given)

pub unify_children-loop-i-preserved : goal.unify_children-loop-i-preserved
unify_children-loop-i-preserved t c =
    let g = c.args.self.now in
    let page = g.matcher.store.page.now in
    let f = (held_by g.matcher.store.held).sound in
    let l = c.loop-i in
    let b = l.self.bindings in
    let x = c.child_of in
    let y = c.child_of-in-loop-i in
    let r = c.unify in
    let same = r.ensures.same in
    let s = l.invariant.0 in
    let value = rw s.0.0 at r.ensures.value in
    let u : x.result < types_in page = omega (arith, x.ensures.1, c.requires.0) in
    let v : y.result < types_in page = omega (arith, y.ensures.1, c.requires.1) in
    let yes = c.in_ok-unify.was ∙ ap (λ (b : Bool). Ok b) c.if-not-branch.false in
    let more = paired_more page c.args.e c.args.a c.arity-n.result g.bindings l.i b l.invariant.1.agreed c.loop-i-test.true x.result y.result
    x.ensures.0 y.ensures.0 (unified r.result r.new.self.bindings) value f l.invariant.1.given u v yes in
    (((same.0.0 ∙ s.0.0, same.0.1 ∙ s.0.1), same.1 ∙ s.1), more)

pub unify_children-returns-clause-value : goal.unify_children-returns-clause-value
unify_children-returns-clause-value t c =
    let g = c.args.self.now in
    let page = g.matcher.store.page.now in
    let l = c.loop-i in
    all_agreed page c.args.e c.args.a c.arity-n.result g.bindings c.arity-n.ensures.0
    (omega (arith, c.if-n-arity.false, c.arity.ensures.0)) l.self.bindings l.i (omega (arith, l.invariant.1.few, c.loop-i-test.false)) l.invariant.1.agreed

pub unify-settle-requires : goal.unify-settle-requires
unify-settle-requires t c =
    let g = c.args.self.now in
    let page = g.matcher.store.page.now in
    let f = (held_by g.matcher.store.held).sound in
    let e = c.args.e in
    let a = c.args.a in
    let u = c.requires.0 in
    let v = c.requires.1 in
    let b = g.bindings in
    let given = given_by b (types_in page) g.given in
    let k : is_kind generic page e ≡ false = rw (← c.kind_of-kind.ensures) (ne_eqb c.kind_of-kind.result generic c.if-kind-eq-GENERIC.false) in
    let l : is_alike (kind_of page e) (kind_of page a) ≡ true = rw (← c.kind_of-kind.ensures, ← c.kind_of.ensures) (sym c.are_alike.ensures ∙ c.if-not-are_alike.false) in
    let p = alike_eq page f e a u v g.bindings k (sym c.is_adopted.ensures ∙ c.if-is_adopted.false) l in
    let r = c.unify_children in
    let yes = c.in_ok-fits.was ∙ ap (λ (b : Bool). Ok b) c.if-fits.true in
    let pair = unify_settled page f e a u v b given (unified r.result r.new.self.bindings) (r.ensures.value ∙ sym p) yes in
    record { small = (in_use_small _ f e u, in_use_small _ f a v); fits = rw r.ensures.same.0.0 pair }

pub unify-returns-in_err-fits-clause-value : goal.unify-returns-in_err-fits-clause-value
unify-returns-in_err-fits-clause-value t c =
    let g = c.args.self.now in
    let page = g.matcher.store.page.now in
    let f = (held_by g.matcher.store.held).sound in
    let e = c.args.e in
    let a = c.args.a in
    let u = c.requires.0 in
    let v = c.requires.1 in
    let k : is_kind generic page e ≡ false = rw (← c.kind_of-kind.ensures) (ne_eqb c.kind_of-kind.result generic c.if-kind-eq-GENERIC.false) in
    let l : is_alike (kind_of page e) (kind_of page a) ≡ true = rw (← c.kind_of-kind.ensures, ← c.kind_of.ensures) (sym c.are_alike.ensures ∙ c.if-not-are_alike.false) in
    let p = alike_eq page f e a u v g.bindings k (sym c.is_adopted.ensures ∙ c.if-is_adopted.false) l in
    let q = err_from_is_err_and c.from_residual.result c.from_residual.ensures.1 in
    rw (q.1, q.2) (rw c.in_err-fits.was at (c.unify_children.ensures.value ∙ sym p))

pub unify-returns-then-fits-clause-value : goal.unify-returns-then-fits-clause-value
unify-returns-then-fits-clause-value t c =
    let g = c.args.self.now in
    let page = g.matcher.store.page.now in
    let f = (held_by g.matcher.store.held).sound in
    let e = c.args.e in
    let a = c.args.a in
    let u = c.requires.0 in
    let v = c.requires.1 in
    let k : is_kind generic page e ≡ false = rw (← c.kind_of-kind.ensures) (ne_eqb c.kind_of-kind.result generic c.if-kind-eq-GENERIC.false) in
    let l : is_alike (kind_of page e) (kind_of page a) ≡ true = rw (← c.kind_of-kind.ensures, ← c.kind_of.ensures) (sym c.are_alike.ensures ∙ c.if-not-are_alike.false) in
    let p = alike_eq page f e a u v g.bindings k (sym c.is_adopted.ensures ∙ c.if-is_adopted.false) l in
    rw c.settle.ensures.value (rw c.in_ok-fits.was at (c.unify_children.ensures.value ∙ sym p))

pub unify-returns-else-fits-clause-value : goal.unify-returns-else-fits-clause-value
unify-returns-else-fits-clause-value t c =
    let g = c.args.self.now in
    let page = g.matcher.store.page.now in
    let f = (held_by g.matcher.store.held).sound in
    let e = c.args.e in
    let a = c.args.a in
    let u = c.requires.0 in
    let v = c.requires.1 in
    let k : is_kind generic page e ≡ false = rw (← c.kind_of-kind.ensures) (ne_eqb c.kind_of-kind.result generic c.if-kind-eq-GENERIC.false) in
    let l : is_alike (kind_of page e) (kind_of page a) ≡ true = rw (← c.kind_of-kind.ensures, ← c.kind_of.ensures) (sym c.are_alike.ensures ∙ c.if-not-are_alike.false) in
    let p = alike_eq page f e a u v g.bindings k (sym c.is_adopted.ensures ∙ c.if-is_adopted.false) l in
    rw c.in_ok-fits.was at (c.unify_children.ensures.value ∙ sym p)

pub unify_children-returns-in_err-unify-clause-value : goal.unify_children-returns-in_err-unify-clause-value
unify_children-returns-in_err-unify-clause-value t c =
    let g = c.args.self.now in
    let page = g.matcher.store.page.now in
    let l = c.loop-i in
    let b = l.self.bindings in
    let x = c.child_of in
    let y = c.child_of-in-loop-i in
    let r = c.unify in
    let value = rw l.invariant.0.0.0 at r.ensures.value in
    let end = all_end page c.args.e c.args.a c.arity-n.result g.bindings l.i b l.invariant.1.agreed c.loop-i-test.true x.result y.result
    x.ensures.0 y.ensures.0 (unified r.result r.new.self.bindings) value c.arity-n.ensures.0 (omega (arith, c.if-n-arity.false, c.arity.ensures.0)) (err_ends _ _ c.in_err-unify.was) in
    let q = err_from_is_err_and c.from_residual.result c.from_residual.ensures.1 in
    rw (q.1, q.2) (rw c.in_err-unify.was at end)

pub unify_children-returns-then-not-branch-clause-value : goal.unify_children-returns-then-not-branch-clause-value
unify_children-returns-then-not-branch-clause-value t c =
    let g = c.args.self.now in
    let page = g.matcher.store.page.now in
    let l = c.loop-i in
    let b = l.self.bindings in
    let x = c.child_of in
    let y = c.child_of-in-loop-i in
    let r = c.unify in
    let value = rw l.invariant.0.0.0 at r.ensures.value in
    let end = all_end page c.args.e c.args.a c.arity-n.result g.bindings l.i b l.invariant.1.agreed c.loop-i-test.true x.result y.result
    x.ensures.0 y.ensures.0 (unified r.result r.new.self.bindings) value c.arity-n.ensures.0 (omega (arith, c.if-n-arity.false, c.arity.ensures.0)) (no_ends _ _ c.in_ok-unify.was c.if-not-branch.true) in
    rw (c.in_ok-unify.was, c.if-not-branch.true) at end
