-- A formula whole: where its list is not refused every node has an answer, and its root is one of them. Assumes nothing.
use Rattle.std.proofs.Common.{Ok, Err, Option, Some, None, is_err, is_none}
use Rattle.refusals.specs.declared.Refusal.{Refusal}
use Rattle.refusals.specs.declared.Refusal.TheVariants.{Undefined, Unused}
use mathlib.Core.Path.{◌≡◌, refl, sym, ap, ◌∙◌}
use mathlib.Core.Bool.{false, ◌||◌, not}
use mathlib.Core.List.{List, [], ◌∷◌}
use Prim.Native.Nat.{ℕ, suc, ◌+◌, ◌<◌}
use native.Mathlib.Omega.{arith}
use lib.Dec.{ltb}
use lib.ListN.{length}
use Rattle.std.proofs.lemmas.List.{length-append}
use borrow.Author.Tests.{not-false, ltb-true}
use Rattle.refusals.specs.Lowest.{◌when◌, lowest, guarded, answer_of, unless_refused}
use Rattle.refusals.specs.Numbers.{Verdict}
use Rattle.refusals.proofs.Lowest.{passed_parts}
use Rattle.types.specs.Store.{Formed}
use Rattle.types.specs.Types.{Measured}
use Rattle.types.specs.Making.{Grows}
use Rattle.formulas.specs.Nodes.{State, state, first_refused, step_verdict, stepped, all_stepped, all_verdict}
use Rattle.formulas.specs.Bodies.{written_in, before_undefined, nodes_in, some_undefined, undefined_verdict, list_verdict, formula_verdict, formula_nodes, formula_of, formula_answer, formula_store}
use Rattle.formulas.specs.declared.Written.{Written}
use Rattle.formulas.specs.declared.FormulaAnswer.{FormulaAnswer}
use Rattle.formulas.proofs.Steps.{stepped_passed, answers_ran}

both_passed : (v u : Verdict) → guarded v u ≡ Ok tt → (v ≡ Ok tt) × (u ≡ Ok tt)
both_passed (Ok x) u e = (refl, e)
both_passed (Err r) u e = absurd (let z : ◌≡◌ {A = ℕ} 0 1 = cc in omega arith)

neither_refused : (v u : Verdict) → first_refused v u ≡ Ok tt → (v ≡ Ok tt) × (u ≡ Ok tt)
neither_refused (Ok x) u e = (refl, e)
neither_refused (Err r) (Ok x) e = absurd (let z : ◌≡◌ {A = ℕ} 0 1 = cc in omega arith)
neither_refused (Err r) (Err q) e = absurd (let z : ◌≡◌ {A = ℕ} 0 1 = cc in omega arith)

-- every node of a list that is not refused has an answer
pub all_answered : (used : ℕ) (root : ℕ → ℕ) (ws : List Written) (s : State) → all_verdict used root s ws ≡ Ok tt
    → length (all_stepped used root s ws).nodes ≡ length s.nodes + length ws
unfolding all_verdict all_stepped
all_answered used root [] s v = omega arith
all_answered used root (w ∷ ws) s v =
    let p = both_passed (step_verdict used root s w) (all_verdict used root (stepped used root s w) ws) v in
    let x = stepped_passed used root s w p.0 in
    let more : length (stepped used root s w).nodes ≡ length s.nodes + 1 =
    ap (λ (a : State). length a.nodes) x.is ∙ length-append s.nodes _ in
    let rest = all_answered used root ws (stepped used root s w) p.1 in
    rw (ap is_err p.0) (rest ∙ omega (arith, more))

-- where every form is defined, every body is a node
all_read : (bs : List (List ℕ)) → some_undefined bs ≡ false → length (nodes_in bs) ≡ length bs
all_read [] e = refl
all_read (b ∷ bs) e = go (written_in b) e (all_read bs)
  where
    go : (o : Option Written) → (is_none o || some_undefined bs) ≡ false → (some_undefined bs ≡ false → length (nodes_in bs) ≡ length bs)
        → length (before_undefined o (nodes_in bs)) ≡ suc (length bs)
    go None h ih = absurd (let z : ◌≡◌ {A = ℕ} 0 1 = cc in omega arith)
    go (Some w) h ih = ap suc (ih h)

module _ (used : ℕ) (root : ℕ → ℕ) (store : List ℕ) (bs : List (List ℕ)) (r : ℕ) where
  -- a formula that is not refused
  pub record Taken : Type 0 where
    pub count : length (formula_nodes used root store bs).nodes ≡ length bs
    pub below : r < length bs
    pub is : Ok (formula_of (formula_nodes used root store bs) r) ≡ formula_answer used root store bs r

  pub formula_taken : first_refused (list_verdict used root (state store []) bs) (lowest ((Unused when not (ltb r (length bs))) ∷ [])) ≡ Ok tt → Taken
  unfolding formula_answer formula_verdict list_verdict
  formula_taken v =
      let p = neither_refused (list_verdict used root (state store []) bs) (lowest ((Unused when not (ltb r (length bs))) ∷ [])) v in
      let q = both_passed (all_verdict used root (state store []) (nodes_in bs)) (undefined_verdict bs) p.0 in
      let read = all_read bs (passed_parts Undefined (some_undefined bs) [] q.1).0 in
      record {
        count = let n = all_answered used root (nodes_in bs) (state store []) q.0 in omega (arith, n, read);
        below = ltb-true r (length bs) (not-false (ltb r (length bs)) (passed_parts Unused (not (ltb r (length bs))) [] p.1).0);
        is = rw v refl;
      }

  pub formula_refused : (q : Refusal)
      → first_refused (list_verdict used root (state store []) bs) (lowest ((Unused when not (ltb r (length bs))) ∷ [])) ≡ Err q
      → Err q ≡ formula_answer used root store bs r
  unfolding formula_answer formula_verdict
  formula_refused q v = rw v refl

-- ---- the store

module _ (used : ℕ) (root : ℕ → ℕ) (store : List ℕ) (f : Formed store) (bs : List (List ℕ)) (r : ℕ) where
  -- the nodes that have an answer leave a store that has grown
  pub formula_grown : (after : List ℕ) → after ≡ (formula_nodes used root store bs).store → Grows store after × Formed after
  formula_grown after e =
      let ran = answers_ran used root store f (nodes_in bs) in
      rw e (ran.grown, ran.whole.form)

  -- it stays where the formula is not refused
  pub store_kept : (x : FormulaAnswer) → Ok x ≡ formula_answer used root store bs r
      → (formula_nodes used root store bs).store ≡ formula_store used root store bs r
  unfolding formula_answer formula_store
  store_kept x e = go (formula_verdict used root store bs r) (sym e)
    where
      go : (v : Verdict) → answer_of v (formula_of (formula_nodes used root store bs) r) ≡ Ok x
          → (formula_nodes used root store bs).store ≡ unless_refused v (formula_nodes used root store bs).store store
      go (Ok y) k = refl
      go (Err q) k = absurd (let z : ◌≡◌ {A = ℕ} 0 1 = cc in omega arith)

  -- and is the old one where it is
  pub store_back : (q : Refusal) → Err q ≡ formula_answer used root store bs r → store ≡ formula_store used root store bs r
  unfolding formula_answer formula_store
  store_back q e = go (formula_verdict used root store bs r) (sym e)
    where
      go : (v : Verdict) → answer_of v (formula_of (formula_nodes used root store bs) r) ≡ Err q
          → store ≡ unless_refused v (formula_nodes used root store bs).store store
      go (Ok y) k = absurd (let z : ◌≡◌ {A = ℕ} 0 1 = cc in omega arith)
      go (Err p) k = refl

-- a page that is another has its tables
pub measured_as : {p q os ps ds es : List ℕ} → Measured p os ds → q ≡ p → ps ≡ os → es ≡ ds → Measured q ps es
measured_as m e f g = rw (e, f, g) m
