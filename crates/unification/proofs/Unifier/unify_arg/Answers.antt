use mathlib.Core.Path.{◌≡◌, refl, sym, ◌∙◌}
use mathlib.Core.Bool.{true, false}
use borrow.Author.Tests.{eq-eqb, ne_eqb}
use Rattle.kinds.specs.Kinds.{callback}
use Rattle.matching.specs.Matching.{is_kind, in_use}
use Rattle.matching.specs.declared.Checked.TheVariants.{Known, Function}
use Rattle.matching.proofs.Matching.{known_in_use, in_use_known, from_function}
use Rattle.unification.proofs.Arguments.{function_in_use, arg_unknown, arg_known, arg_callback, arg_function}
use Rattle.unification.proofs.Unifier.unify_arg.Goals as goal

pub unify-requires : goal.unify-requires
unify-requires c =
    let page = c.args.self.now.matcher.store.page.now in
    let u : in_use page (Known c.in-Known.a) ≡ true = rw c.in-Known.is at c.requires.1 in
    (c.requires.0, known_in_use page c.in-Known.a u)

pub returns-in-Known-clause-value : goal.returns-in-Known-clause-value
returns-in-Known-clause-value c =
    let g = c.args.self.now in
    rw c.in-Known.is (c.unify.ensures.value ∙ arg_known g.matcher.store.page.now c.args.e g.bindings c.in-Known.a)

pub returns-in_default-actual : goal.returns-in_default-actual
returns-in_default-actual c =
    let g = c.args.self.now in
    record { value = arg_unknown g.matcher.store.page.now c.args.e g.bindings c.args.actual c.in_default.not-Known c.in_default-actual.not-Function; same = ((refl, refl), refl) }

pub unify_children-requires : goal.unify_children-requires
unify_children-requires c =
    let page = c.args.self.now.matcher.store.page.now in
    let u : in_use page (Function c.in-Function.f) ≡ true = rw c.in-Function.is at c.requires.1 in
    (c.requires.0, function_in_use page c.in-Function.f u)

pub returns-then-kind_of-eq-CALLBACK : goal.returns-then-kind_of-eq-CALLBACK
returns-then-kind_of-eq-CALLBACK c =
    let g = c.args.self.now in
    let page = g.matcher.store.page.now in
    let k : is_kind callback page c.args.e ≡ true = rw (← c.kind_of.ensures) (eq-eqb c.kind_of.result callback c.if-kind_of-eq-CALLBACK.true) in
    record { value = rw c.in-Function.is (c.unify_children.ensures.value ∙ arg_callback page c.args.e g.bindings c.in-Function.f k); same = c.unify_children.ensures.same }

pub matches-requires : goal.matches-requires
matches-requires c =
    let page = c.args.self.now.matcher.store.page.now in
    let u : in_use page (Function c.in-Function.f) ≡ true = rw c.in-Function.is at c.requires.1 in
    record { actual_value = (u, in_use_known page c.args.e c.requires.0) }

pub returns : goal.returns
returns c =
    let g = c.args.self.now in
    let page = g.matcher.store.page.now in
    let f = c.in-Function.f in
    let k : is_kind callback page c.args.e ≡ false = rw (← c.kind_of.ensures) (ne_eqb c.kind_of.result callback c.if-kind_of-eq-CALLBACK.false) in
    let m = c.matches.ensures.value ∙ sym (from_function page f (Known c.args.e)) in
    record { value = rw (c.in-Function.is, m) (arg_function page c.args.e g.bindings f k); same = (c.matches.ensures.same, refl) }
