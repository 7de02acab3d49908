use Rattle.std.proofs.lemmas.Result.{err_from_is_err_and}
use mathlib.Core.Path.{refl, sym, ◌∙◌}
use Rattle.formulas.specs.State.{roots_of, state_of}
use Rattle.formulas.proofs.Same.{same_refl, same_trans}
use Rattle.formulas.proofs.Lists.{going_start, going_end, going_undefined, going_refused, going_next}
use Rattle.formulas.proofs.Answering.answer_all.Goals as goal

pub loop-body-init : goal.loop-body-init
loop-body-init c =
    let g = c.args.self.now in
    (going_start g.used (roots_of g) (state_of c.args.maker.now.page.now g) c.args.bodies.now, same_refl g, (refl, refl), c.requires)

pub returns-in_default-clause-value : goal.returns-in_default-clause-value
returns-in_default-clause-value c =
    let g = c.args.self.now in
    let l = c.loop-body in
    (going_undefined g.used (roots_of g) (state_of c.args.maker.now.page.now g) c.args.bodies.now (state_of l.maker.page.now l.self) l.body-index l.invariant.0 c.loop-body-test.true
    (sym c.written_in.ensures ∙ c.in_default.is)).0

pub returns-in_default-clause-state : goal.returns-in_default-clause-state
returns-in_default-clause-state c =
    let g = c.args.self.now in
    let l = c.loop-body in
    (going_undefined g.used (roots_of g) (state_of c.args.maker.now.page.now g) c.args.bodies.now (state_of l.maker.page.now l.self) l.body-index l.invariant.0 c.loop-body-test.true
    (sym c.written_in.ensures ∙ c.in_default.is)).1

pub returns-in_default-clause-same : goal.returns-in_default-clause-same
returns-in_default-clause-same c = (c.loop-body.invariant.1, c.loop-body.invariant.2)

pub returns-in_default-clause-beside : goal.returns-in_default-clause-beside
returns-in_default-clause-beside c = c.loop-body.invariant.3

pub returns-in_err-step-clause-value : goal.returns-in_err-step-clause-value
returns-in_err-step-clause-value c =
    let g = c.args.self.now in
    let l = c.loop-body in
    let p = err_from_is_err_and c.from_residual.result c.from_residual.ensures.1 in
    let v = sym (rw (l.invariant.1.4, l.invariant.1.5) at c.step.ensures.value) ∙ c.in_err-step.was in
    rw (p.1, p.2)
    (going_refused g.used (roots_of g) (state_of c.args.maker.now.page.now g) c.args.bodies.now (state_of l.maker.page.now l.self) l.body-index l.invariant.0 c.loop-body-test.true c.in-Some.w
    (sym c.written_in.ensures ∙ c.in-Some.is) _ v).0

pub returns-in_err-step-clause-state : goal.returns-in_err-step-clause-state
returns-in_err-step-clause-state c =
    let g = c.args.self.now in
    let l = c.loop-body in
    let v = sym (rw (l.invariant.1.4, l.invariant.1.5) at c.step.ensures.value) ∙ c.in_err-step.was in
    rw (l.invariant.1.4, l.invariant.1.5) at c.step.ensures.state
    ∙ (going_refused g.used (roots_of g) (state_of c.args.maker.now.page.now g) c.args.bodies.now (state_of l.maker.page.now l.self) l.body-index l.invariant.0 c.loop-body-test.true c.in-Some.w
    (sym c.written_in.ensures ∙ c.in-Some.is) _ v).1

pub returns-in_err-step-clause-same : goal.returns-in_err-step-clause-same
returns-in_err-step-clause-same c =
    let l = c.loop-body in
    let makers = c.step.ensures.same.1 in
    (same_trans c.step.new.self l.self c.args.self.now c.step.ensures.same.0 l.invariant.1, (makers.0 ∙ l.invariant.2.0, makers.1 ∙ l.invariant.2.1))

pub loop-body-preserved : goal.loop-body-preserved
loop-body-preserved c =
    let g = c.args.self.now in
    let l = c.loop-body in
    let v = sym (rw (l.invariant.1.4, l.invariant.1.5) at c.step.ensures.value) ∙ c.in_ok-step.was in (
      rw (rw (l.invariant.1.4, l.invariant.1.5) at c.step.ensures.state)
          (going_next g.used (roots_of g) (state_of c.args.maker.now.page.now g) c.args.bodies.now (state_of l.maker.page.now l.self) l.body-index l.invariant.0 c.loop-body-test.true c.in-Some.w
          (sym c.written_in.ensures ∙ c.in-Some.is) v),
      same_trans c.step.new.self l.self g c.step.ensures.same.0 l.invariant.1,
      (c.step.ensures.same.1.0 ∙ l.invariant.2.0, c.step.ensures.same.1.1 ∙ l.invariant.2.1),
      c.step.ensures.beside,
    )

pub returns-clause-value : goal.returns-clause-value
returns-clause-value c =
    let g = c.args.self.now in
    let l = c.loop-body in
    (going_end g.used (roots_of g) (state_of c.args.maker.now.page.now g) c.args.bodies.now (state_of l.maker.page.now l.self) l.body-index l.invariant.0 c.loop-body-test.false).0

pub returns-clause-state : goal.returns-clause-state
returns-clause-state c =
    let g = c.args.self.now in
    let l = c.loop-body in
    (going_end g.used (roots_of g) (state_of c.args.maker.now.page.now g) c.args.bodies.now (state_of l.maker.page.now l.self) l.body-index l.invariant.0 c.loop-body-test.false).1

pub returns-clause-same : goal.returns-clause-same
returns-clause-same c = (c.loop-body.invariant.1, c.loop-body.invariant.2)

pub returns-clause-beside : goal.returns-clause-beside
returns-clause-beside c = c.loop-body.invariant.3

pub step-requires : goal.step-requires
step-requires c = c.loop-body.invariant.3
