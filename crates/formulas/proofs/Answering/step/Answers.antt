use Rattle.std.proofs.Common.{Ok}
use Rattle.std.proofs.lemmas.Result.{err_from_is_err_and}
use Rattle.std.proofs.lemmas.List.{take_more_set}
use mathlib.Core.Path.{◌≡◌, sym, ◌∙◌}
use native.Mathlib.Omega.{arith}
use Rattle.refusals.specs.Lowest.{lowest}
use Rattle.types.proofs.Types.{formed_by, measured_by}
use Rattle.checked.proofs.Calls.{end_there, grown_back, grown_asks}
use Rattle.members.proofs.Tables.{measured_back}
use Rattle.answers.proofs.Proper.{proper_operand}
use Rattle.formulas.specs.Nodes.{as_operand, node_conditions, node_store}
use Rattle.formulas.specs.declared.Node.{Node}
use Rattle.formulas.specs.State.{nodes_of, roots_of}
use Rattle.formulas.proofs.Supplied.{placed_by, nodes_length, nodes_sound, node_below, placed_more, supplied_more, supplied_back}
use Rattle.formulas.proofs.Conditions.{node_same, limits_of, within_limits, not_refused, step_unfit, step_refused, step_limited, step_taken}
use Rattle.formulas.proofs.Answered.{node_entered, operands_lower}
use Rattle.formulas.proofs.Answering.step.Goals as goal

pub returns-in_err-verdict-clause-value : goal.returns-in_err-verdict-clause-value
returns-in_err-verdict-clause-value c =
    let g = c.args.self.now in
    let p = err_from_is_err_and c.from_residual.result c.from_residual.ensures.1 in
    rw (p.1, p.2) (step_unfit g.used (roots_of g) c.args.maker.now.page.now (nodes_of g) c.args.w _ (sym (rw c.store-store.ensures.0 at c.verdict.ensures) ∙ c.in_err-verdict.was)).0

pub returns-in_err-verdict-clause-state : goal.returns-in_err-verdict-clause-state
returns-in_err-verdict-clause-state c =
    let g = c.args.self.now in
    (step_unfit g.used (roots_of g) c.args.maker.now.page.now (nodes_of g) c.args.w _ (sym (rw c.store-store.ensures.0 at c.verdict.ensures) ∙ c.in_err-verdict.was)).1

pub returns-in_default-clause-value : goal.returns-in_default-clause-value
returns-in_default-clause-value c =
    let g = c.args.self.now in
    let v : lowest (node_conditions g.used c.args.maker.now.page.now (nodes_of g) c.args.w) ≡ Ok tt = sym (rw c.store-store.ensures.0 at c.verdict.ensures) ∙ c.in_ok-verdict.was in
    let p = placed_by g.placed in
    let h = c.requires in
    let limit = c.limits-limit.ensures ∙ limits_of (nodes_of g) c.args.w _ _ c.depth_of-depth.ensures.0 (sym (nodes_length p)) in
    rw (c.first_of.ensures, c.in_default.is, limit)
    (step_refused g.used (roots_of g) c.args.maker.now.page.now (nodes_of g) c.args.w v _ (sym c.in_default.ensures.value)).0

pub returns-in_default-clause-state : goal.returns-in_default-clause-state
returns-in_default-clause-state c =
    let g = c.args.self.now in
    let page = c.args.maker.now.page.now in
    let v : lowest (node_conditions g.used page (nodes_of g) c.args.w) ≡ Ok tt = sym (rw c.store-store.ensures.0 at c.verdict.ensures) ∙ c.in_ok-verdict.was in
    let p = placed_by g.placed in
    let h = c.requires in
    let e = sym c.in_default.ensures.value in
    let same = node_same page (roots_of g) (nodes_of g) c.args.w _ e in
    rw (c.in_default.ensures.nodes.0, c.in_default.ensures.nodes.1, c.in_default.ensures.store, same)
    (step_refused g.used (roots_of g) page (nodes_of g) c.args.w v _ e).1

pub take_back-requires-clause-bounds : goal.take_back-requires-clause-bounds
take_back-requires-clause-bounds c =
    let g = c.args.self.now in
    let page = c.args.maker.now.page.now in
    let v : lowest (node_conditions g.used page (nodes_of g) c.args.w) ≡ Ok tt = sym (rw c.store-store.ensures.0 at c.verdict.ensures) ∙ c.in_ok-verdict.was in
    let left = node_entered g.used (roots_of g) page (nodes_of g) (nodes_sound (placed_by g.placed) c.requires (formed_by c.args.maker.now.measured)) c.args.w v c.in-Ok.a (sym c.in-Ok.ensures.value) in
    rw c.in-Ok.ensures.store
    (grown_asks page _ _ (measured_by c.args.maker.now.measured) _ left.grown c.place_of-end.result
    (end_there page c.count.result c.place_of-end.result (rw c.store-store.ensures.0 at c.count.ensures) (rw c.store-store.ensures.0 at c.place_of-end.ensures)))

pub take_back-requires-clause-measured : goal.take_back-requires-clause-measured
take_back-requires-clause-measured c =
    let g = c.args.self.now in
    let page = c.args.maker.now.page.now in
    let f = formed_by c.args.maker.now.measured in
    let v : lowest (node_conditions g.used page (nodes_of g) c.args.w) ≡ Ok tt = sym (rw c.store-store.ensures.0 at c.verdict.ensures) ∙ c.in_ok-verdict.was in
    let left = node_entered g.used (roots_of g) page (nodes_of g) (nodes_sound (placed_by g.placed) c.requires f) c.args.w v c.in-Ok.a (sym c.in-Ok.ensures.value) in
    let grown = rw (← c.in-Ok.ensures.store) at left.grown in
    let back =
    grown_back page _ _ (measured_by c.args.maker.now.measured) c.answer-answer.new.maker.page.now grown c.place_of-end.result
    (end_there page c.count.result c.place_of-end.result (rw c.store-store.ensures.0 at c.count.ensures) (rw c.store-store.ensures.0 at c.place_of-end.ensures)) in
    rw (c.front-front.ensures, c.store-store.ensures.0, back) (measured_back page _ _ _ f grown (measured_by c.answer-answer.new.maker.measured))

pub returns-in-Err-clause-value : goal.returns-in-Err-clause-value
returns-in-Err-clause-value c =
    let g = c.args.self.now in
    let v : lowest (node_conditions g.used c.args.maker.now.page.now (nodes_of g) c.args.w) ≡ Ok tt = sym (rw c.store-store.ensures.0 at c.verdict.ensures) ∙ c.in_ok-verdict.was in
    let limit = limits_of (nodes_of g) c.args.w _ _ c.depth_of-depth.ensures.0 (sym (nodes_length (placed_by g.placed))) in
    (step_limited g.used (roots_of g) c.args.maker.now.page.now (nodes_of g) c.args.w v _ (sym c.in-Ok.ensures.value) _
    (sym limit ∙ sym c.limits-limit.ensures ∙ c.in-Err.is)).0

pub returns-in-Err-clause-state : goal.returns-in-Err-clause-state
returns-in-Err-clause-state c =
    let g = c.args.self.now in
    let page = c.args.maker.now.page.now in
    let p = placed_by g.placed in
    let h = c.requires in
    let v : lowest (node_conditions g.used page (nodes_of g) c.args.w) ≡ Ok tt = sym (rw c.store-store.ensures.0 at c.verdict.ensures) ∙ c.in_ok-verdict.was in
    let left = node_entered g.used (roots_of g) page (nodes_of g) (nodes_sound p h (formed_by c.args.maker.now.measured)) c.args.w v c.in-Ok.a (sym c.in-Ok.ensures.value) in
    let grown = rw (← c.in-Ok.ensures.store) at left.grown in
    let back =
    rw (c.front-front.ensures, c.store-store.ensures.0) at c.take_back.ensures.value
    ∙ grown_back page _ _ (measured_by c.args.maker.now.measured) c.answer-answer.new.maker.page.now grown c.place_of-end.result
    (end_there page c.count.result c.place_of-end.result (rw c.store-store.ensures.0 at c.count.ensures) (rw c.store-store.ensures.0 at c.place_of-end.ensures)) in
    let limit = limits_of (nodes_of g) c.args.w _ _ c.depth_of-depth.ensures.0 (sym (nodes_length p)) in
    rw (back, c.in-Ok.ensures.nodes.0, c.in-Ok.ensures.nodes.1)
    (step_limited g.used (roots_of g) page (nodes_of g) c.args.w v _ (sym c.in-Ok.ensures.value) _ (sym limit ∙ sym c.limits-limit.ensures ∙ c.in-Err.is)).1

pub bounds-self-self : goal.bounds-self-self
bounds-self-self c =
    let g = c.args.self.now in
    let p = placed_by g.placed in
    let h = c.requires in
    let within = within_limits c.depth_of-depth.result g.count _ c.limits-limit.ensures c.in_default-limit.not-Err in
    rw (c.in-Ok.ensures.nodes.0, c.in-Ok.ensures.nodes.1) (omega (arith, within.1, p.places))

pub depth_of-depth-requires : goal.depth_of-depth-requires
depth_of-depth-requires c =
    let g = c.args.self.now in
    let v : lowest (node_conditions g.used c.args.maker.now.page.now (nodes_of g) c.args.w) ≡ Ok tt = sym (rw c.store-store.ensures.0 at c.verdict.ensures) ∙ c.in_ok-verdict.was in
    λ a m. node_below (placed_by g.placed) a (operands_lower g.used c.args.maker.now.page.now (nodes_of g) c.args.w v a m)

pub invariant_of-self : goal.invariant_of-self
invariant_of-self c =
    let g = c.args.self.now in
    let page = c.args.maker.now.page.now in
    let f = formed_by c.args.maker.now.measured in
    let p = placed_by g.placed in
    let v : lowest (node_conditions g.used page (nodes_of g) c.args.w) ≡ Ok tt = sym (rw c.store-store.ensures.0 at c.verdict.ensures) ∙ c.in_ok-verdict.was in
    let within = within_limits c.depth_of-depth.result g.count _ c.limits-limit.ensures c.in_default-limit.not-Err in
    let x = node_entered g.used (roots_of g) page (nodes_of g) (nodes_sound p c.requires f) c.args.w v c.in-Ok.a (sym c.in-Ok.ensures.value) in
    let fit = proper_operand g.used (node_store page (nodes_of g) c.args.w) (as_operand c.in-Ok.a) x.used x.proper in
    record { placed = ∣ rw (c.in-Ok.ensures.nodes.0, c.in-Ok.ensures.nodes.1) (placed_more p _ within.1 (record { formed = fit.1; shallow = within.0; lower = λ a m. node_below p a (operands_lower g.used page (nodes_of g) c.args.w v a m) })) ∣₁ }

pub returns-clause-value : goal.returns-clause-value
returns-clause-value c =
    let g = c.args.self.now in
    let v : lowest (node_conditions g.used c.args.maker.now.page.now (nodes_of g) c.args.w) ≡ Ok tt = sym (rw c.store-store.ensures.0 at c.verdict.ensures) ∙ c.in_ok-verdict.was in
    let limit = limits_of (nodes_of g) c.args.w _ _ c.depth_of-depth.ensures.0 (sym (nodes_length (placed_by g.placed))) in
    (step_taken g.used (roots_of g) c.args.maker.now.page.now (nodes_of g) c.args.w v _ (sym c.in-Ok.ensures.value)
    (sym limit ∙ sym c.limits-limit.ensures ∙ not_refused _ c.in_default-limit.not-Err)).0

pub returns-clause-state : goal.returns-clause-state
returns-clause-state c =
    let g = c.args.self.now in
    let page = c.args.maker.now.page.now in
    let p = placed_by g.placed in
    let h = c.requires in
    let v : lowest (node_conditions g.used page (nodes_of g) c.args.w) ≡ Ok tt = sym (rw c.store-store.ensures.0 at c.verdict.ensures) ∙ c.in_ok-verdict.was in
    let within = within_limits c.depth_of-depth.result g.count _ c.limits-limit.ensures c.in_default-limit.not-Err in
    let limit = limits_of (nodes_of g) c.args.w _ _ c.depth_of-depth.ensures.0 (sym (nodes_length p)) in
    let more = take_more_set g.nodes.now g.count (record { written = c.args.w; depth = c.depth_of-depth.result; answer = c.in-Ok.a }) (omega (arith, p.places, within.1)) in
    rw (c.in-Ok.ensures.nodes.0, c.in-Ok.ensures.nodes.1, more, c.in-Ok.ensures.store, c.depth_of-depth.ensures.0)
    (step_taken g.used (roots_of g) page (nodes_of g) c.args.w v _ (sym c.in-Ok.ensures.value)
    (sym limit ∙ sym c.limits-limit.ensures ∙ not_refused _ c.in_default-limit.not-Err)).1

pub returns-in_err-verdict-clause-beside : goal.returns-in_err-verdict-clause-beside
returns-in_err-verdict-clause-beside c = c.requires

pub returns-clause-beside : goal.returns-clause-beside
returns-clause-beside c =
    let g = c.args.self.now in
    let page = c.args.maker.now.page.now in
    let f = formed_by c.args.maker.now.measured in
    let p = placed_by g.placed in
    let v : lowest (node_conditions g.used page (nodes_of g) c.args.w) ≡ Ok tt = sym (rw c.store-store.ensures.0 at c.verdict.ensures) ∙ c.in_ok-verdict.was in
    let within = within_limits c.depth_of-depth.result g.count _ c.limits-limit.ensures c.in_default-limit.not-Err in
    let x = node_entered g.used (roots_of g) page (nodes_of g) (nodes_sound p c.requires f) c.args.w v c.in-Ok.a (sym c.in-Ok.ensures.value) in
    let fit = proper_operand g.used (node_store page (nodes_of g) c.args.w) (as_operand c.in-Ok.a) x.used x.proper in
    let node : Node = record { written = c.args.w; depth = c.depth_of-depth.result; answer = c.in-Ok.a } in
    let more = take_more_set g.nodes.now g.count node (omega (arith, p.places, within.1)) in
    rw (c.in-Ok.ensures.nodes.0, c.in-Ok.ensures.nodes.1, more)
    (supplied_more (rw (c.in-Ok.ensures.nodes.0, c.in-Ok.ensures.nodes.1) at c.in-Ok.ensures.beside_2) node (rw (c.in-Ok.ensures.same.0.5, c.in-Ok.ensures.store) fit.0))

pub returns-in-Err-clause-beside : goal.returns-in-Err-clause-beside
returns-in-Err-clause-beside c =
    let g = c.args.self.now in
    let page = c.args.maker.now.page.now in
    let f = formed_by c.args.maker.now.measured in
    let p = placed_by g.placed in
    let v : lowest (node_conditions g.used page (nodes_of g) c.args.w) ≡ Ok tt = sym (rw c.store-store.ensures.0 at c.verdict.ensures) ∙ c.in_ok-verdict.was in
    let left = node_entered g.used (roots_of g) page (nodes_of g) (nodes_sound p c.requires f) c.args.w v c.in-Ok.a (sym c.in-Ok.ensures.value) in
    let grown = rw (← c.in-Ok.ensures.store) at left.grown in
    let back =
    rw (c.front-front.ensures, c.store-store.ensures.0) at c.take_back.ensures.value
    ∙ grown_back page _ _ (measured_by c.args.maker.now.measured) c.answer-answer.new.maker.page.now grown c.place_of-end.result
    (end_there page c.count.result c.place_of-end.result (rw c.store-store.ensures.0 at c.count.ensures) (rw c.store-store.ensures.0 at c.place_of-end.ensures)) in
    let k = c.in-Ok.ensures.beside_2 in
    rw (back, c.in-Ok.ensures.nodes.0, c.in-Ok.ensures.nodes.1, c.in-Ok.ensures.same.0.5)
    (supplied_back c.requires f _ (rw (← c.in-Ok.ensures.store) at left.form) grown _ _ _ k.single k.double c.in-Ok.ensures.noted)
