-- What the call that runs all three comes to, one law for each return. Assumes nothing.
use Rattle.std.proofs.Common.{Result, Ok, Err, Option}
use Rattle.refusals.specs.declared.Refusal.{Refusal}
use mathlib.Core.Path.{◌≡◌, refl, sym, ◌∙◌, fun_ext}
use mathlib.Core.Bool.{Bool}
use mathlib.Core.List.{List}
use Prim.Native.Nat.{ℕ}
use Rattle.refusals.specs.Numbers.{Verdict}
use Rattle.refusals.specs.Lowest.{unless_refused}
use Rattle.names.specs.Calls.{used_of}
use Rattle.types.specs.Store.{Formed}
use Rattle.types.specs.Making.{Grows}
use Rattle.types.proofs.Grown.{grows_refl, grows_trans}
use Rattle.sums.specs.Calls.{roots_in, convert_answer}
use Rattle.formulas.specs.Bodies.{formula_verdict, formula_nodes, formula_answer, formula_store}
use Rattle.formulas.specs.Calls.{nodes_lent}
use Rattle.formulas.specs.declared.FormulaAnswer.{FormulaAnswer}
use Rattle.formulas.proofs.Whole.{formula_grown}
use Rattle.routes.specs.Run.{FormulaLent, lent, answer_in, store_in, compare_answer, compare_store}

-- ---- the comparison

module _ (page table : List ℕ) (names : Option (List ℕ)) (f g : FormulaLent) (used : ℕ) (is : used ≡ used_of names)
    (roots : ℕ → ℕ) (same : (s : ℕ) → roots s ≡ roots_in table s) where
  left_answer : Result FormulaAnswer Refusal
  left_answer = formula_answer used roots page (nodes_lent f.nodes) f.root

  abbrev left_store : List ℕ
  left_store = formula_store used roots page (nodes_lent f.nodes) f.root

  abbrev right_store : List ℕ
  right_store = formula_store used roots left_store (nodes_lent g.nodes) g.root

  by_roots : roots ≡ roots_in table
  by_roots = fun_ext same

  module _ (a : Result FormulaAnswer Refusal) (e : a ≡ formula_answer used roots page (nodes_lent f.nodes) f.root) where
    left_is : answer_in (lent table names) page f ≡ a
    left_is = sym (rw (is, by_roots) at e)

    pub left_refused : (q : Refusal) → a ≡ Err q → (Err q ≡ compare_answer (lent table names) page f g) × (left_store ≡ compare_store (lent table names) page f g)
    unfolding compare_answer compare_store
    left_refused q h = let k = left_is ∙ h in (rw k refl, rw (is, by_roots, k) refl)

    module _ (x : FormulaAnswer) (h : a ≡ Ok x) where
      left_ok : answer_in (lent table names) page f ≡ Ok x
      left_ok = left_is ∙ h

      pub both_store : right_store ≡ compare_store (lent table names) page f g
      unfolding compare_store
      both_store = rw (is, by_roots, left_ok) refl

      module _ (b : Result FormulaAnswer Refusal) (u : b ≡ formula_answer used roots left_store (nodes_lent g.nodes) g.root) where
        right_is : answer_in (lent table names) (store_in (lent table names) page f) g ≡ b
        right_is = sym (rw (is, by_roots) at u)

        pub right_refused : (q : Refusal) → b ≡ Err q → Err q ≡ compare_answer (lent table names) page f g
        unfolding compare_answer
        right_refused q k = let r = right_is ∙ k in rw (left_ok, r) refl

        module _ (y : FormulaAnswer) (k : b ≡ Ok y) (v : Result Bool Refusal) (w : v ≡ convert_answer table names x.answer.unit y.answer.unit) where
          pub unconverted : (q : Refusal) → v ≡ Err q → Err q ≡ compare_answer (lent table names) page f g
          unfolding compare_answer
          unconverted q n = let r = right_is ∙ k in rw (left_ok, r, ← w, n) refl

          pub converted : (t : Bool) → v ≡ Ok t → Ok (record { left = x; right = y; convertible = t }) ≡ compare_answer (lent table names) page f g
          unfolding compare_answer
          converted t n = let r = right_is ∙ k in rw (left_ok, r, ← w, n) refl

-- ---- the store

-- a formula leaves a store that has grown, or the old one
pub store_grown : (used : ℕ) (root : ℕ → ℕ) (store : List ℕ) → Formed store → (bs : List (List ℕ)) (r : ℕ) (after : List ℕ)
    → after ≡ formula_store used root store bs r → Grows store after × Formed after
unfolding formula_store
store_grown used root store f bs r after e = rw e (go (formula_verdict used root store bs r))
  where
    go : (v : Verdict) → Grows store (unless_refused v (formula_nodes used root store bs).store store) × Formed (unless_refused v (formula_nodes used root store bs).store store)
    go (Ok x) = formula_grown used root store f bs r _ refl
    go (Err q) = (grows_refl store, f)

pub both_grown : (used : ℕ) (root : ℕ → ℕ) (store : List ℕ) → Formed store → (bs cs : List (List ℕ)) (r s : ℕ) (middle after : List ℕ)
    → middle ≡ formula_store used root store bs r → after ≡ formula_store used root middle cs s → Grows store after
both_grown used root store f bs cs r s middle after e k =
    let first = store_grown used root store f bs r middle e in
    let second = store_grown used root middle first.1 cs s after k in
    grows_trans store middle after f first.0 second.0
