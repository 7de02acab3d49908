use Rattle.std.proofs.lemmas.Result.{err_from_is_err_and}
use mathlib.Core.Path.{sym, ap, ◌∙◌}
use Prim.Native.Nat.{◌<◌}
use native.Mathlib.Omega.{arith}
use lib.ListN.{length}
use Rattle.formulas.specs.Nodes.{State}
use Rattle.formulas.specs.State.{roots_of}
use Rattle.formulas.proofs.Supplied.{placed_by, placed_none, supplied_none, nodes_length, node_there}
use Rattle.formulas.proofs.Whole.{formula_taken, formula_refused}
use Rattle.formulas.proofs.Answering.formula.Goals as goal

pub invariant_of-self : goal.invariant_of-self
invariant_of-self c = record { placed = ∣ placed_none c.args.self.now.nodes.now (placed_by c.args.self.now.placed).places ∣₁ }

pub returns-in_err-first_of-clause-value : goal.returns-in_err-first_of-clause-value
returns-in_err-first_of-clause-value c =
    let g = c.args.self.now in
    let p = err_from_is_err_and c.from_residual.result c.from_residual.ensures.1 in
    let v = rw (c.answer_all-walk.ensures.value, c.root_verdict.ensures) at c.first_of.ensures in
    rw (p.1, p.2) (formula_refused g.used (roots_of g) c.args.maker.now.page.now c.args.bodies.now c.args.root _ (sym v ∙ c.in_err-first_of.was))

pub offset_bounds-self-root : goal.offset_bounds-self-root
offset_bounds-self-root c =
    let g = c.args.self.now in
    let v = rw (c.answer_all-walk.ensures.value, c.root_verdict.ensures) at c.first_of.ensures in
    let taken = formula_taken g.used (roots_of g) c.args.maker.now.page.now c.args.bodies.now c.args.root (sym v ∙ c.in_ok-first_of.was) in
    let k = placed_by c.answer_all-walk.new.self.placed in
    let there = ap (λ (s : State). length s.nodes) c.answer_all-walk.ensures.state in
    omega (arith, nodes_length k, there, taken.count, taken.below, k.few)

pub bounds-self-root : goal.bounds-self-root
bounds-self-root c =
    let g = c.args.self.now in
    let v = rw (c.answer_all-walk.ensures.value, c.root_verdict.ensures) at c.first_of.ensures in
    let taken = formula_taken g.used (roots_of g) c.args.maker.now.page.now c.args.bodies.now c.args.root (sym v ∙ c.in_ok-first_of.was) in
    let k = placed_by c.answer_all-walk.new.self.placed in
    let there = ap (λ (s : State). length s.nodes) c.answer_all-walk.ensures.state in
    omega (arith, nodes_length k, there, taken.count, taken.below, k.few, k.places)

pub error_count-requires : goal.error_count-requires
error_count-requires c =
    let g = c.args.self.now in
    let v = rw (c.answer_all-walk.ensures.value, c.root_verdict.ensures) at c.first_of.ensures in
    let taken = formula_taken g.used (roots_of g) c.args.maker.now.page.now c.args.bodies.now c.args.root (sym v ∙ c.in_ok-first_of.was) in
    let k = placed_by c.answer_all-walk.new.self.placed in
    let there = ap (λ (s : State). length s.nodes) c.answer_all-walk.ensures.state in
    omega (arith, nodes_length k, there, taken.count, taken.below)

pub returns-clause-value : goal.returns-clause-value
returns-clause-value c =
    let g = c.args.self.now in
    let v = rw (c.answer_all-walk.ensures.value, c.root_verdict.ensures) at c.first_of.ensures in
    let taken = formula_taken g.used (roots_of g) c.args.maker.now.page.now c.args.bodies.now c.args.root (sym v ∙ c.in_ok-first_of.was) in
    let k = placed_by c.answer_all-walk.new.self.placed in
    let same = ap (λ (s : State). s.nodes) c.answer_all-walk.ensures.state in
    let there = ap (λ (s : State). length s.nodes) c.answer_all-walk.ensures.state in
    let below : c.args.root < c.answer_all-walk.new.self.count = omega (arith, nodes_length k, there, taken.count, taken.below) in
    rw (← node_there k c.args.root below, c.error_count.ensures.0, c.passes.ensures, same) taken.is

pub answer_all-walk-requires : goal.answer_all-walk-requires
answer_all-walk-requires c = supplied_none c.requires
