-- One more node: what its conditions come to, what it answers and leaves by its form, how deep it is, and the step that it takes.
-- Assumes nothing.
use Rattle.std.proofs.Common.{Result, Ok, Err, Option}
use Rattle.refusals.specs.declared.Refusal.{Refusal}
use Rattle.refusals.specs.declared.Refusal.TheVariants.{Undefined, Unused, Depth, Full}
use mathlib.Core.Path.{◌≡◌, refl, sym, ◌∙◌}
use mathlib.Core.Bool.{Bool, true, false, ◌&&◌, not}
use mathlib.Core.List.{List, [], ◌∷◌, ◌++◌}
use Prim.Native.Nat.{ℕ, suc, ◌<◌, ◌≤◌}
use native.Mathlib.Omega.{arith}
use borrow.Author.Tests.{ltb-false, leb-false}
use lib.Dec.{ltb, leb}
use lib.ListN.{length}
use Rattle.refusals.specs.Lowest.{◌when◌, lower, lowest, unless_refused}
use Rattle.refusals.specs.Numbers.{Verdict}
use Rattle.refusals.proofs.Lowest.{passed_parts}
use Rattle.types.specs.Store.{larger}
use Rattle.units.specs.declared.Unit.{Unit}
use Rattle.operators.specs.Operators.{is_operator}
use Rattle.operators.specs.declared.Outcome.{Outcome}
use Rattle.members.specs.Members.{Concluded}
use Rattle.unary.specs.Unary.{check_unary}
use Rattle.indexing.specs.Indexing.{check_index}
use Rattle.answers.specs.Calls.{operand_used, operand_formed, operand_conditions, binary_checked, unary_concluded, unary_checked, concluded_by, store_after}
use Rattle.answers.specs.declared.Answered.{Answered}
use Rattle.formulas.specs.Nodes.{nodes_max, depth_max, value_answer, value_of, is_node, operand_at, node_conditions, node_answer, node_store, depth_at, depth_of, limits, node_verdict, node_of, state, step_verdict, stepped}
use Rattle.formulas.specs.declared.Written.{Written}
use Rattle.formulas.specs.declared.Written.TheVariants.{Value, Unary, Binary, Index}
use Rattle.formulas.specs.declared.Node.{Node}

-- ---- conditions

twice : (b : Bool) → (b && b) ≡ b
twice true = refl
twice false = refl

module _ (used : ℕ) (page : List ℕ) (nodes : List Node) where
  -- a value is judged as two operands that are the same
  pub value_conditions : (t : ℕ) (u : Option Unit)
      → lowest (operand_conditions page used (value_of t u) (value_of t u)) ≡ lowest (node_conditions used page nodes (Value t u))
  unfolding node_conditions
  value_conditions t u = rw (twice (operand_used page used (value_of t u)), twice (operand_formed (value_of t u))) refl

  pub unary_conditions : (op a : ℕ)
      → lowest ((Undefined when not (is_operator op)) ∷ (Unused when not (is_node nodes a && is_node nodes a)) ∷ [])
      ≡ lowest (node_conditions used page nodes (Unary op a))
  unfolding node_conditions
  unary_conditions op a = rw (twice (is_node nodes a)) refl

  pub binary_conditions : (op a b : ℕ)
      → lowest ((Undefined when not (is_operator op)) ∷ (Unused when not (is_node nodes a && is_node nodes b)) ∷ [])
      ≡ lowest (node_conditions used page nodes (Binary op a b))
  unfolding node_conditions
  binary_conditions op a b = refl

  pub index_conditions : (a k : ℕ)
      → lowest ((Unused when not (is_node nodes a && is_node nodes k)) ∷ []) ≡ lowest (node_conditions used page nodes (Index a k))
  unfolding node_conditions
  index_conditions a k = refl

-- ---- what each form answers, and leaves

module _ (page : List ℕ) (root : ℕ → ℕ) (nodes : List Node) where
  pub unary_answered : (op a : ℕ)
      → (unary_checked (check_unary page op (operand_at nodes a).checked) op (operand_at nodes a).unit ≡ node_answer page root nodes (Unary op a))
      × (store_after (check_unary page op (operand_at nodes a).checked) page ≡ node_store page nodes (Unary op a))
  unfolding node_answer node_store
  unary_answered op a = (refl, refl)

  pub binary_answered : (op a b : ℕ)
      → (binary_checked page root op (operand_at nodes a) (operand_at nodes b) ≡ node_answer page root nodes (Binary op a b))
      × (page ≡ node_store page nodes (Binary op a b))
  unfolding node_answer node_store
  binary_answered op a b = (refl, refl)

  pub index_answered : (a k : ℕ)
      → (concluded_by (check_index page (operand_at nodes k).checked (operand_at nodes a).checked).conclusion (operand_at nodes a).unit ≡ node_answer page root nodes (Index a k))
      × (store_after (check_index page (operand_at nodes k).checked (operand_at nodes a).checked) page ≡ node_store page nodes (Index a k))
  unfolding node_answer node_store
  index_answered a k = (refl, refl)

  pub value_answered : (t : ℕ) (u : Option Unit) → (Ok (value_answer t u) ≡ node_answer page root nodes (Value t u)) × (page ≡ node_store page nodes (Value t u))
  unfolding node_answer node_store
  value_answered t u = (refl, refl)

  -- a refused answer leaves the store as it was
  pub node_same : (w : Written) → (r : Refusal) → node_answer page root nodes w ≡ Err r → node_store page nodes w ≡ page
  unfolding node_answer node_store
  node_same (Value t u) r e = absurd (not_both e)
    where
      not_both : {x : Answered} → ◌≡◌ {A = Result Answered Refusal} (Ok x) (Err r) → ⊥
      not_both e = let z : ◌≡◌ {A = ℕ} 0 1 = cc in omega arith
  node_same (Unary op o) r e = go (check_unary page op (operand_at nodes o).checked).conclusion e
    where
      z : Concluded
      z = check_unary page op (operand_at nodes o).checked

      go : (c : Result Outcome Refusal) → unary_concluded c z.store op (operand_at nodes o).unit ≡ Err r → unless_refused c z.store page ≡ page
      go (Ok x) e = absurd (let z : ◌≡◌ {A = ℕ} 0 1 = cc in omega arith)
      go (Err q) e = refl
  node_same (Binary op a b) r e = refl
  node_same (Index a k) r e = go (check_index page (operand_at nodes k).checked (operand_at nodes a).checked).conclusion e
    where
      z : Concluded
      z = check_index page (operand_at nodes k).checked (operand_at nodes a).checked

      go : (c : Result Outcome Refusal) → concluded_by c (operand_at nodes a).unit ≡ Err r → unless_refused c z.store page ≡ page
      go (Ok x) e = absurd (let z : ◌≡◌ {A = ℕ} 0 1 = cc in omega arith)
      go (Err q) e = refl

-- ---- how deep

module _ (nodes : List Node) where
  pub value_depth : (t : ℕ) (u : Option Unit) → 1 ≡ depth_of nodes (Value t u)
  unfolding depth_of
  value_depth t u = refl

  pub unary_depth : (op a : ℕ) → suc (depth_at nodes a) ≡ depth_of nodes (Unary op a)
  unfolding depth_of
  unary_depth op a = refl

  pub binary_depth : (op a b : ℕ) → suc (larger (depth_at nodes a) (depth_at nodes b)) ≡ depth_of nodes (Binary op a b)
  unfolding depth_of
  binary_depth op a b = refl

  pub index_depth : (a k : ℕ) → suc (larger (depth_at nodes a) (depth_at nodes k)) ≡ depth_of nodes (Index a k)
  unfolding depth_of
  index_depth a k = refl

-- ---- the step

-- the limits of a node that is so deep, where there are so many
pub limits_of : (nodes : List Node) (w : Written) (depth count : ℕ) → depth ≡ depth_of nodes w → count ≡ length nodes
    → lowest ((Depth when ltb depth_max depth) ∷ (Full when leb nodes_max count) ∷ []) ≡ lowest (limits nodes w)
limits_of nodes w depth count d n = rw (d, n) refl

-- a verdict that is no refusal
pub not_refused : (d : Verdict) → ((r : Refusal) → d ≡ Err r → ⊥) → d ≡ Ok tt
not_refused (Ok x) n = refl
not_refused (Err r) n = absurd (n r refl)

-- a node that is not refused by a limit is within them
pub within_limits : (depth count : ℕ) (d : Verdict) → d ≡ lowest ((Depth when ltb depth_max depth) ∷ (Full when leb nodes_max count) ∷ [])
    → ((r : Refusal) → d ≡ Err r → ⊥) → (depth ≤ depth_max) × (count < nodes_max)
within_limits depth count d e n =
    let v = sym e ∙ not_refused d n in
    let p = passed_parts Depth (ltb depth_max depth) ((Full when leb nodes_max count) ∷ []) v in
    let q = passed_parts Full (leb nodes_max count) [] p.1 in
    (ltb-false depth_max depth p.0, leb-false nodes_max count q.0)

module _ (used : ℕ) (root : ℕ → ℕ) (store : List ℕ) (nodes : List Node) (w : Written) where
  -- refused before it is answered
  pub step_unfit : (r : Refusal) → lowest (node_conditions used store nodes w) ≡ Err r
      → (Err r ≡ step_verdict used root (state store nodes) w) × (state store nodes ≡ stepped used root (state store nodes) w)
  unfolding stepped node_verdict
  step_unfit r v = (rw v refl, rw v refl)

  module _ (v : lowest (node_conditions used store nodes w) ≡ Ok tt) where
    -- refused by its answer, or by a limit before that
    pub step_refused : (r : Refusal) → node_answer store root nodes w ≡ Err r
        → (lower r (lowest (limits nodes w)) ≡ step_verdict used root (state store nodes) w) × (state store nodes ≡ stepped used root (state store nodes) w)
    unfolding stepped node_verdict
    step_refused r e = (rw (v, e) refl, rw (v, e) (go (lowest (limits nodes w))))
      where
        go : (d : Verdict) → state store nodes ≡ unless_refused (lower r d) (state (node_store store nodes w) nodes) (state store nodes)
        go (Ok x) = refl
        go (Err q) = refl

    -- refused by a limit
    pub step_limited : (a : Answered) → node_answer store root nodes w ≡ Ok a → (r : Refusal) → lowest (limits nodes w) ≡ Err r
        → (Err r ≡ step_verdict used root (state store nodes) w) × (state store nodes ≡ stepped used root (state store nodes) w)
    unfolding stepped node_verdict
    step_limited a e r h = (rw (v, e, h) refl, rw (v, e, h) refl)

    -- taken
    pub step_taken : (a : Answered) → node_answer store root nodes w ≡ Ok a → lowest (limits nodes w) ≡ Ok tt
        → (Ok tt ≡ step_verdict used root (state store nodes) w)
        × (state (node_store store nodes w) (nodes ++ (node_of nodes w a ∷ [])) ≡ stepped used root (state store nodes) w)
    unfolding stepped node_verdict
    step_taken a e h = (rw (v, e, h) refl, rw (v, e, h) refl)
