-- What a formula's root answers takes no more places than a unit has (`formula_few`), and a formula passes exactly if it has no errors
-- (`formula_passes`), of which there are few enough for two bytes (`formula_errors`). Assumes nothing.
use Rattle.std.proofs.Common.{Ok, Err, Option, IfOk}
use mathlib.Core.Path.{◌≡◌, refl}
use mathlib.Core.Bool.{Bool, true, false, ◌||◌, cond}
use mathlib.Core.List.{List, [], ◌∷◌}
use Prim.Native.Nat.{ℕ, zero, suc, ◌+◌, ◌*◌, ◌≤◌, ◌<◌}
use native.Mathlib.Omega.{arith}
use lib.Dec.{eqb, ltb, leb}
use lib.ListN.{length, take}
use lib.Seq.{length-take-le}
use borrow.Author.Tests.{leb-false}
use Rattle.refusals.specs.declared.Refusal.TheVariants.{Undefined, Broken, Depth, Full}
use Rattle.refusals.specs.Lowest.{◌when◌, guarded, answer_of}
use Rattle.refusals.specs.Numbers.{Verdict}
use Rattle.refusals.proofs.Lowest.{passed_parts}
use Rattle.names.specs.Table.{names_max}
use Rattle.names.specs.Calls.{used_of}
use Rattle.types.specs.Calls.{store_broken}
use Rattle.types.proofs.Calls.{unbroken_both}
use Rattle.types.specs.Store.{Formed}
use Rattle.units.specs.Unit.{places_max}
use Rattle.units.specs.Calls.{terms_of}
use Rattle.units.proofs.Order.{or_both}
use Rattle.units.proofs.Form.{formed_length, length_terms}
use Rattle.pairs.specs.Calls.{table_broken}
use Rattle.sums.specs.Calls.{or_empty, roots_in}
use Rattle.formulas.specs.Nodes.{nodes_max, depth_max, node_at, depth_of, State}
use Rattle.formulas.specs.Below.{writings, has_part, errors_at, errors_to, error_count}
use Rattle.formulas.specs.Bodies.{nodes_in, formula_verdict, formula_nodes, formula_of, formula_answer}
use Rattle.formulas.specs.Calls.{nodes_lent, is_cut, first_undefined, lent_verdict, check_answer}
use Rattle.formulas.specs.declared.FormulaAnswer.{FormulaAnswer}
use Rattle.formulas.specs.declared.Node.{Node}
use Rattle.formulas.proofs.Steps.{Traced, answers_ran, traced_sound}
use Rattle.formulas.proofs.Below.{errors_few, passes_there}
use Rattle.formulas.proofs.Whole.{formula_taken}
use Rattle.calls.proofs.Answers.{Few}

-- each node has at most two errors
errors_most : (nodes : List Node) (r n : ℕ) → errors_to nodes r n ≤ 2 * n
unfolding errors_to
errors_most nodes r zero = omega arith
errors_most nodes r (suc n) = go (has_part (writings nodes) r n) (errors_most nodes r n)
  where
    go : (b : Bool) → errors_to nodes r n ≤ 2 * n → errors_to nodes r n + cond b (errors_at nodes n) 0 ≤ 2 * suc n
    go true h = omega (arith, h, errors_few (node_at nodes n).answer.errors)
    go false h = omega (arith, h)

-- ---- a formula over a store in form

module _ (used : ℕ) (root : ℕ → ℕ) (store : List ℕ) (f : Formed store) (bs : List (List ℕ)) (r : ℕ) where
  abbrev s : State
  s = formula_nodes used root store bs

  traced : Traced used root s
  traced = (answers_ran used root store f (nodes_in bs)).whole

  module _ (v : formula_verdict used root store bs r ≡ Ok tt) where
    root_there : r < length s.nodes
    unfolding formula_verdict
    root_there = let t = formula_taken used root store bs r v in omega (arith, t.count, t.below)

    root_few : Few (node_at s.nodes r).answer.unit
    root_few =
        let p = ((traced_sound used root s traced).each r root_there).proper in
        let u = or_empty (node_at s.nodes r).answer.unit in
        rw (length_terms u.count 0 u.symbols u.exponents) at (formed_length places_max names_max (terms_of u) p.form)

    -- its number is below 256, so it has at most 512 errors
    root_low : r < nodes_max
    root_low =
        let x = traced.each r root_there in
        let w = (node_at s.nodes r).written in
        let depth = passed_parts Depth (ltb depth_max (depth_of (take r s.nodes) w)) ((Full when leb nodes_max (length (take r s.nodes))) ∷ []) x.limited in
        let full = leb-false nodes_max (length (take r s.nodes)) (passed_parts Full (leb nodes_max (length (take r s.nodes))) [] depth.1).0 in
        omega (arith, full, length-take-le r s.nodes (omega (arith, root_there)))

    errors_low : error_count s.nodes r ≤ 2 * nodes_max
    unfolding error_count
    errors_low = omega (arith, root_low, errors_most s.nodes r (suc r))

  -- what holds of the formula where it is not refused holds of the answer
  answer_if : (P : FormulaAnswer → Type 0) → (formula_verdict used root store bs r ≡ Ok tt → P (formula_of s r)) → IfOk (formula_answer used root store bs r) P
  unfolding formula_answer
  answer_if P h = go (formula_verdict used root store bs r) refl
    where
      go : (v : Verdict) → formula_verdict used root store bs r ≡ v → IfOk (answer_of v (formula_of s r)) P
      go (Ok _) e = h e
      go (Err q) e = tt

-- ---- the call

module _ (page : List ℕ) (names : Option (List ℕ)) (pairs nodes : List ℕ) (root : ℕ) where
  over : (P : FormulaAnswer → Type 0) → (Formed page → IfOk (formula_answer (used_of names) (roots_in pairs) page (nodes_lent nodes) root) P)
      → IfOk (check_answer page names pairs nodes root) P
  unfolding check_answer
  over P h = go (lent_verdict page names pairs nodes) refl
    where
      go : (v : Verdict) → lent_verdict page names pairs nodes ≡ v
          → IfOk (guarded v (formula_answer (used_of names) (roots_in pairs) page (nodes_lent nodes) root)) P
      go (Ok _) e =
          let rest = table_broken pairs names || is_cut nodes in
          let a = passed_parts Undefined (first_undefined (nodes_lent nodes)) ((Broken when (store_broken page names || rest)) ∷ []) e in
          let b = or_both (store_broken page names) rest (passed_parts Broken (store_broken page names || rest) [] a.1).0 in
          h (record { names = used_of names; form = (unbroken_both page names b.0).1 })
      go (Err q) e = tt

  pub formula_few : IfOk (check_answer page names pairs nodes root) (λ x. Few x.answer.unit)
  formula_few = over _ (λ f. answer_if _ _ _ f _ _ _ (root_few _ _ _ f _ _))

  pub formula_passes : IfOk (check_answer page names pairs nodes root) (λ x. x.passes ≡ eqb x.errors 0)
  formula_passes = over _ (λ f. answer_if _ _ _ f _ _ _ (λ v. passes_there _ _ (root_there _ _ _ f _ _ v)))

  pub formula_errors : IfOk (check_answer page names pairs nodes root) (λ x. x.errors ≤ 2 * nodes_max)
  formula_errors = over _ (λ f. answer_if _ _ _ f _ _ _ (errors_low _ _ _ f _ _))
