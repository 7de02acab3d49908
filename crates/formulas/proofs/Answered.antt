-- What one more node's answer comes to, over a store in form and nodes whose types are in use in it and whose units are in form with
-- symbols in use (`Sound`): the store grows, and the answer's type and unit are so as well (`node_entered`). Assumes nothing.
use Rattle.std.proofs.Common.{Result, Ok}
use Rattle.std.proofs.lemmas.Result.{IfOk-at_ok}
use Rattle.std.proofs.lemmas.List.{take-append-le}
use mathlib.Core.Path.{◌≡◌, refl, ap}
use mathlib.Core.Logic.{⊎_elim, ◌⊎◌, inl, inr}
use mathlib.Core.Bool.{true, ◌&&◌, not}
use mathlib.Core.List.Memᴰ as Memᴰ
use mathlib.Core.List.{List, Memᴰ, [], ◌∷◌, ◌++◌}
use Prim.Native.Nat.{ℕ, suc, ◌<◌}
use native.Mathlib.Nat.{eq-or-lt_of_le}
use native.Mathlib.Omega.{arith}
use lib.ListN.{length, take, length-append, get_or-append}
use lib.Seq.{get_or-append_seam, take-append_seam}
use borrow.Author.Tests.{not-false, ltb-true}
use Rattle.refusals.specs.Lowest.{◌when◌, lowest}
use Rattle.refusals.specs.declared.Refusal.{Refusal}
use Rattle.refusals.specs.declared.Refusal.TheVariants.{Undefined, Unused, BadUnit}
use Rattle.refusals.proofs.Lowest.{passed_parts}
use Rattle.pages.proofs.Quant.{and_true}
use Rattle.types.specs.Store.{Formed}
use Rattle.types.specs.Making.{Grows}
use Rattle.types.proofs.Grown.{grows_refl}
use Rattle.matching.specs.Matching.{in_use}
use Rattle.matching.proofs.Grown.{in_use_grown}
use Rattle.units.specs.Calls.{present}
use Rattle.units.specs.Unit as units
use Rattle.sums.specs.Calls.{or_empty}
use Rattle.operators.specs.Operators.{is_operator}
use Rattle.unary.specs.Unary.{check_unary}
use Rattle.indexing.specs.Indexing.{check_index}
use Rattle.answers.specs.Calls.{operand_used, operand_formed}
use Rattle.answers.specs.declared.Answered.{Answered}
use Rattle.answers.proofs.Grown.{unary_answer_used, index_answer_used, binary_answer_used, unary_left, index_left}
use Rattle.answers.proofs.Proper.{Proper, operand_proper, binary_proper, unary_proper, index_proper}
use Rattle.formulas.specs.Nodes.{node_at, is_node, operand_at, value_of, node_conditions, node_answer, node_store, State, state}
use Rattle.formulas.specs.Below.{writings, operands_of}
use Rattle.formulas.specs.declared.Written.{Written}
use Rattle.formulas.specs.declared.Written.TheVariants.{Value, Unary, Binary, Index}
use Rattle.formulas.specs.declared.Node.{Node}

-- ---- lists with one more node

-- what holds of each node and those before it holds so with one more, if it holds of that one
pub each_more : (P : List Node → Node → Type 0) (nodes : List Node) (x : Node)
    → ((n : ℕ) → n < length nodes → P (take n nodes) (node_at nodes n)) → P nodes x
    → (n : ℕ) → n < length (nodes ++ (x ∷ [])) → P (take n (nodes ++ (x ∷ []))) (node_at (nodes ++ (x ∷ [])) n)
each_more P nodes x old new n l =
    ⊎_elim
    (λ (e : n ≡ length nodes). rw (e, take-append_seam nodes (x ∷ []), get_or-append_seam nodes x [] _) new)
    (λ (h : n < length nodes).
    rw (take-append-le n nodes (x ∷ []) (omega (arith, h)), get_or-append nodes (x ∷ []) _ n h) (old n h))
    (eq-or-lt_of_le {n = n} {m = length nodes} (omega (arith, l, length-append nodes (x ∷ []))))

pub writings_append : (xs ys : List Node) → writings (xs ++ ys) ≡ writings xs ++ writings ys
writings_append [] ys = refl
writings_append (x ∷ xs) ys = ap (λ ws. x.written ∷ ws) (writings_append xs ys)

pub writings_length : (xs : List Node) → length (writings xs) ≡ length xs
writings_length [] = refl
writings_length (x ∷ xs) = ap suc (writings_length xs)

-- ---- nodes that are sound over a store

-- a node's type is in use, and its unit is in form with symbols in use of n numbers
pub record Settled (n : ℕ) (store : List ℕ) (x : Node) : Type 0 where
  pub used : in_use store x.answer.checked ≡ true
  pub proper : Proper n x.answer.unit

-- the store is in form and every node is so
pub record Sound (n : ℕ) (s : State) : Type 0 where
  pub form : Formed s.store
  pub each : (k : ℕ) → k < length s.nodes → Settled n s.store (node_at s.nodes k)

-- what an answer comes to: the store has grown, its type is in use there, and its unit is in form
pub record Entered (n : ℕ) (store after : List ℕ) (a : Answered) : Type 0 where
  pub grown : Grows store after
  pub form : Formed after
  pub used : in_use after a.checked ≡ true
  pub proper : Proper n a.unit

-- a type stays in use in a store that has grown
pub settled_grown : (n : ℕ) (p q : List ℕ) → Formed p → Formed q → Grows p q → (x : Node) → Settled n p x → Settled n q x
settled_grown n p q f g w x h = record { used = in_use_grown p q f g w x.answer.checked h.used; proper = h.proper }

-- no store of types alone has a node
pub start_sound : (n : ℕ) (store : List ℕ) → Formed store → Sound n (state store [])
start_sound n store f = record { form = f; each = λ k l. absurd (omega (arith, l)) }

-- ---- what the conditions of one more node say

module _ (n : ℕ) (store : List ℕ) (nodes : List Node) where
  -- a value's type and symbols are in use, and its unit is in form
  pub value_passed : (t : ℕ) (u : _) → lowest (node_conditions n store nodes (Value t u)) ≡ Ok tt
      → (operand_used store n (value_of t u) ≡ true) × (operand_formed (value_of t u) ≡ true)
  unfolding node_conditions
  value_passed t u v =
      let a = operand_used store n (value_of t u) in
      let b = operand_formed (value_of t u) in
      let p = passed_parts Unused (not a) ((BadUnit when not b) ∷ []) v in
      (not-false a p.0, not-false b (passed_parts BadUnit (not b) [] p.1).0)

  -- an operator with one operand is one, and the operand is a node
  pub unary_passed : (op a : ℕ) → lowest (node_conditions n store nodes (Unary op a)) ≡ Ok tt → (is_operator op ≡ true) × (a < length nodes)
  unfolding node_conditions
  unary_passed op a v =
      let p = passed_parts Undefined (not (is_operator op)) ((Unused when not (is_node nodes a)) ∷ []) v in
      let q = passed_parts Unused (not (is_node nodes a)) [] p.1 in
      (not-false (is_operator op) p.0, ltb-true a (length nodes) (not-false (is_node nodes a) q.0))

  both_nodes : (a b : ℕ) → lowest ((Unused when not (is_node nodes a && is_node nodes b)) ∷ []) ≡ Ok tt → (a < length nodes) × (b < length nodes)
  both_nodes a b v =
      let q = passed_parts Unused (not (is_node nodes a && is_node nodes b)) [] v in
      let r = and_true (is_node nodes a) (is_node nodes b) (not-false (is_node nodes a && is_node nodes b) q.0) in
      (ltb-true a (length nodes) r.0, ltb-true b (length nodes) r.1)

  -- a binary operator is one, and both operands are nodes
  pub binary_passed : (op a b : ℕ) → lowest (node_conditions n store nodes (Binary op a b)) ≡ Ok tt
      → (is_operator op ≡ true) × (a < length nodes) × (b < length nodes)
  unfolding node_conditions
  binary_passed op a b v =
      let p = passed_parts Undefined (not (is_operator op)) ((Unused when not (is_node nodes a && is_node nodes b)) ∷ []) v in
      let q = both_nodes a b p.1 in
      (not-false (is_operator op) p.0, q.0, q.1)

  -- a target and a key are nodes
  pub index_passed : (a k : ℕ) → lowest (node_conditions n store nodes (Index a k)) ≡ Ok tt → (a < length nodes) × (k < length nodes)
  unfolding node_conditions
  index_passed a k v = both_nodes a k v

  -- so the operands of a node are numbered below it
  pub operands_lower : (w : Written) → lowest (node_conditions n store nodes w) ≡ Ok tt → (a : ℕ) → Memᴰ a (operands_of w) → a < length nodes
  operands_lower (Value t u) v a m = absurd (Memᴰ.not-nil m)
  operands_lower (Unary op x) v a m = let e = Memᴰ.eq_of_singleton m in omega (arith, e, (unary_passed op x v).1)
  operands_lower (Binary op x y) v a m = go (Memᴰ.cases_cons m)
    where
      go : (a ≡ x) ⊎ Memᴰ a (y ∷ []) → a < length nodes
      go (inl e) = omega (arith, e, (binary_passed op x y v).1)
      go (inr i) = omega (arith, Memᴰ.eq_of_singleton i, (binary_passed op x y v).2)
  operands_lower (Index x y) v a m = go (Memᴰ.cases_cons m)
    where
      go : (a ≡ x) ⊎ Memᴰ a (y ∷ []) → a < length nodes
      go (inl e) = omega (arith, e, (index_passed x y v).0)
      go (inr i) = omega (arith, Memᴰ.eq_of_singleton i, (index_passed x y v).1)

-- ---- what one more node's answer comes to

module _ (n : ℕ) (root : ℕ → ℕ) (store : List ℕ) (nodes : List Node) (s : Sound n (state store nodes)) where
  pub node_entered : (w : Written) → lowest (node_conditions n store nodes w) ≡ Ok tt → (a : Answered) → node_answer store root nodes w ≡ Ok a
      → Entered n store (node_store store nodes w) a
  unfolding node_answer node_store
  node_entered (Value t u) v a e =
      let p = value_passed n store nodes t u v in
      let z : _ ≡ a = value_is e in
      rw (← z) (record {
        grown = grows_refl store;
        form = s.form;
        used = (and_true (in_use store (value_of t u).checked) (units.in_use n (present (or_empty u))) p.0).0;
        proper = operand_proper n store (value_of t u) p.0 p.1;
      })
    where
      value_is : {x : Answered} → ◌≡◌ {A = Result Answered Refusal} (Ok x) (Ok a) → x ≡ a
      value_is h = cc
  node_entered (Unary op x) v a e =
      let p = unary_passed n store nodes op x v in
      let h = s.each x p.1 in
      let o = operand_at nodes x in
      let l = unary_left store s.form op p.0 o.checked h.used in
      record {
        grown = l.0;
        form = l.1;
        used = IfOk-at_ok _ e (unary_answer_used store s.form op p.0 o h.used);
        proper = IfOk-at_ok _ e (unary_proper n o.unit h.proper (check_unary store op o.checked) op);
      }
  node_entered (Binary op x y) v a e =
      let p = binary_passed n store nodes op x y v in
      let h = s.each x p.1 in
      let k = s.each y p.2 in
      let o = operand_at nodes x in
      let q = operand_at nodes y in
      record {
        grown = grows_refl store;
        form = s.form;
        used = IfOk-at_ok _ e (binary_answer_used store s.form root op o q h.used k.used);
        proper = IfOk-at_ok _ e (binary_proper n store root op o q h.proper k.proper);
      }
  node_entered (Index x y) v a e =
      let p = index_passed n store nodes x y v in
      let h = s.each x p.0 in
      let o = operand_at nodes x in
      let key = (operand_at nodes y).checked in
      let l = index_left store s.form key o.checked h.used in
      record {
        grown = l.0;
        form = l.1;
        used = IfOk-at_ok _ e (index_answer_used store s.form o key h.used);
        proper = IfOk-at_ok _ e (index_proper n o.unit h.proper (check_index store key o.checked).conclusion);
      }
