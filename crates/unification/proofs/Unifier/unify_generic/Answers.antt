use Rattle.std.proofs.lemmas.Option.{cond_some}
use mathlib.Core.Path.{sym, ◌∙◌}
use native.Mathlib.Omega.{arith}
use Rattle.pages.proofs.Options.{none_cond}
use Rattle.types.specs.Types.{types_in}
use Rattle.types.proofs.Types.{held_by}
use Rattle.matching.proofs.Matching.{in_use_known, to_known}
use Rattle.matching.proofs.Memo.{in_use_small}
use Rattle.bindings.specs.Bindings.{is_bound, bound_to}
use Rattle.unification.proofs.Growth.{given_by, settled_by, bound_used, given_with, extends_with, settled_on}
use Rattle.unification.proofs.Unification.{generic_bound, generic_new, generic_full}
use Rattle.unification.proofs.Unifier.unify_generic.Goals as goal

pub matches-requires : goal.matches-requires
matches-requires c =
    let g = c.args.self.now in
    let n = c.args.name in
    let bound = cond_some (is_bound g.bindings n) (bound_to g.bindings n) c.in-Some.bound (sym c.in-Some.ensures) in
    let used = bound_used g.bindings _ (given_by g.bindings (types_in g.matcher.store.page.now) g.given).usable n bound.0 in
    record { actual_value = (in_use_known _ c.in-Some.bound (rw (← bound.1) used), in_use_known _ c.args.a c.requires) }

pub returns-in-Some-clause-value : goal.returns-in-Some-clause-value
returns-in-Some-clause-value c =
    let g = c.args.self.now in
    let n = c.args.name in
    let page = g.matcher.store.page.now in
    let bound = cond_some (is_bound g.bindings n) (bound_to g.bindings n) c.in-Some.bound (sym c.in-Some.ensures) in
    let k = c.matches.ensures.value ∙ sym (to_known page c.in-Some.bound c.args.a) in
    generic_bound page n c.args.a g.bindings c.in-Some.bound c.matches.result bound.0 (sym bound.1) k

pub with_binding-self-requires : goal.with_binding-self-requires
with_binding-self-requires c =
    (omega (arith, c.if-self-lt-BINDINGS.true), in_use_small _ (held_by c.args.self.now.matcher.store.held).sound c.args.a c.requires)

pub invariant_of-self-then-self-lt-BINDINGS : goal.invariant_of-self-then-self-lt-BINDINGS
invariant_of-self-then-self-lt-BINDINGS c =
    let g = c.args.self.now in
    let page = g.matcher.store.page.now in
    let b = g.bindings in
    let t = types_in page in
    let with = given_with b t (given_by b t g.given) (omega (arith, c.if-self-lt-BINDINGS.true)) c.args.name c.args.a c.requires in
    let x = extends_with b c.args.name c.args.a in
    let still = settled_on page b c.with_binding-self.result (rw c.with_binding-self.ensures x) g.seen.now (settled_by page b g.seen.now g.settled) in
    record { given = ∣ rw c.with_binding-self.ensures with ∣₁; settled = ∣ still ∣₁ }

pub returns-then-self-lt-BINDINGS-clause-value : goal.returns-then-self-lt-BINDINGS-clause-value
returns-then-self-lt-BINDINGS-clause-value c =
    let g = c.args.self.now in
    rw c.with_binding-self.ensures
    (generic_new g.matcher.store.page.now c.args.name c.args.a g.bindings (none_cond _ (bound_to g.bindings c.args.name) c.in_default.ensures) (omega (arith, c.if-self-lt-BINDINGS.true)))

pub returns-clause-value : goal.returns-clause-value
returns-clause-value c =
    let g = c.args.self.now in
    generic_full g.matcher.store.page.now c.args.name c.args.a g.bindings (none_cond _ (bound_to g.bindings c.args.name) c.in_default.ensures) (omega (arith, c.if-self-lt-BINDINGS.false))
