-- How each node of a list was answered (`Traced`): from lower nodes, over a store that has them in use, by its operator's check
-- (`at_value`, `at_unary`, `at_binary`, `at_index`); so operands are lower (`traced_lower`), and the nodes that have an answer are
-- written as the list is (`ran_written`). Assumes nothing.
use Rattle.std.proofs.Common.{Result, Ok, Option}
use mathlib.Core.Path.{◌≡◌, refl, sym, ap, ◌∙◌}
use mathlib.Core.Bool.{true}
use mathlib.Core.List.{List, [], ◌∷◌, Memᴰ}
use Prim.Native.Nat.{ℕ, zero, suc, ◌<◌}
use native.Mathlib.Omega.{arith}
use lib.ListN.{length, take}
use lib.Seq.{get_or-take, length-take-le}
use borrow.Author.Tests.{ltb-true}
use Rattle.refusals.specs.declared.Refusal.{Refusal}
use Rattle.refusals.specs.Lowest.{lowest}
use Rattle.types.specs.Types.{types_in, kind_of}
use Rattle.types.proofs.Grown.{kind_grown}
use Rattle.matching.specs.Matching.{in_use}
use Rattle.matching.specs.declared.Checked.TheVariants.{Known}
use Rattle.units.specs.declared.Unit.{Unit}
use Rattle.operators.specs.Operators.{is_operator}
use Rattle.unary.specs.Unary.{check_unary}
use Rattle.indexing.specs.Indexing.{check_index}
use Rattle.answers.specs.Calls.{unary_checked, binary_checked, concluded_by, store_after}
use Rattle.answers.specs.declared.Answered.{Answered}
use Rattle.formulas.specs.Nodes.{node_at, operand_at, value_answer, node_conditions, node_answer, node_store, State, state}
use Rattle.formulas.specs.Below.{writings, written_at, operands_of}
use Rattle.formulas.specs.declared.Written.{Written}
use Rattle.formulas.specs.declared.Written.TheVariants.{Value, Unary, Binary, Index}
use Rattle.formulas.specs.declared.Node.{Node}
use Rattle.formulas.proofs.Answered.{Settled, unary_passed, binary_passed, index_passed, operands_lower}
use Rattle.formulas.proofs.Steps.{Traced, Ran, earlier_entered}
use Rattle.formulas.proofs.Parts.{Lower}

-- how node k of a list is written
pub writings_at : (nodes : List Node) (k : ℕ) → written_at (writings nodes) k ≡ (node_at nodes k).written
writings_at [] k = refl
writings_at (x ∷ xs) zero = refl
writings_at (x ∷ xs) (suc k) = writings_at xs k

-- the nodes that have an answer are written as the list is
pub ran_written : (n : ℕ) (root : ℕ → ℕ) (store : List ℕ) (ws : List Written) (last : State) → Ran n root (state store []) ws last
    → (k : ℕ) → k < length last.nodes → written_at (writings last.nodes) k ≡ written_at ws k
ran_written n root store ws last r k l = ap (λ vs. written_at vs k) r.wrote ∙ get_or-take (length last.nodes) ws k _ l

module _ (n : ℕ) (root : ℕ → ℕ) (s : State) (f : Traced n root s) (k : ℕ) (l : k < length s.nodes) where
  -- the store that node k was answered over
  abbrev pub store_at : List ℕ
  store_at = (f.each k l).store

  before_length : length (take k s.nodes) ≡ k
  before_length = length-take-le k s.nodes (omega (arith, l))

  -- a node before it
  pub before_at : (a : ℕ) → a < k → node_at (take k s.nodes) a ≡ node_at s.nodes a
  before_at a h = get_or-take k s.nodes a _ h

  -- its type is in use in that store, and its unit in form
  pub operand_settled : (a : ℕ) → a < k → Settled n store_at (node_at s.nodes a)
  operand_settled a h = rw (← before_at a h) ((f.each k l).sound.each a (omega (arith, h, before_length)))

  module _ (w : Written) (is : (node_at s.nodes k).written ≡ w) where
    passed : lowest (node_conditions n store_at (take k s.nodes) w) ≡ Ok tt
    passed = rw is at ((f.each k l).passed)

    given : node_answer store_at root (take k s.nodes) w ≡ Ok (node_at s.nodes k).answer
    given = rw is at ((f.each k l).given)

    -- the type that it answers has the kind that it had in the store that it left
    pub kind_last : (t : ℕ) → (node_at s.nodes k).answer.checked ≡ Known t → kind_of s.store t ≡ kind_of (node_store store_at (take k s.nodes) w) t
    unfolding in_use
    kind_last t e =
        let i = earlier_entered n root s.store (take k s.nodes) (node_at s.nodes k) (f.each k l) in
        let u = rw e at (i.used) in
        let left = node_store store_at (take k s.nodes) (node_at s.nodes k).written in
        rw (← is) (kind_grown left s.store i.form (f.each k l).grown t (ltb-true t (types_in left) u))

  -- ---- by how it is written

  pub at_value : (t : ℕ) (u : Option Unit) → (node_at s.nodes k).written ≡ Value t u → (node_at s.nodes k).answer ≡ value_answer t u
  unfolding node_answer
  at_value t u is = sym (value_is (given (Value t u) is))
    where
      value_is : {x y : Answered} → ◌≡◌ {A = Result Answered Refusal} (Ok x) (Ok y) → x ≡ y
      value_is h = cc

  pub at_unary : (op a : ℕ) → (node_at s.nodes k).written ≡ Unary op a
      → (is_operator op ≡ true) × (a < k)
      × (unary_checked (check_unary store_at op (operand_at s.nodes a).checked) op (operand_at s.nodes a).unit ≡ Ok (node_at s.nodes k).answer)
  unfolding node_answer
  at_unary op a is =
      let p = unary_passed n store_at (take k s.nodes) op a (passed (Unary op a) is) in
      let h : a < k = omega (arith, p.1, before_length) in
      (p.0, h, rw (before_at a h) at (given (Unary op a) is))

  pub unary_kind : (op a : ℕ) → (node_at s.nodes k).written ≡ Unary op a → (t : ℕ) → (node_at s.nodes k).answer.checked ≡ Known t
      → kind_of s.store t ≡ kind_of (store_after (check_unary store_at op (operand_at s.nodes a).checked) store_at) t
  unfolding node_store
  unary_kind op a is t e = rw (before_at a (at_unary op a is).1) at (kind_last (Unary op a) is t e)

  pub at_binary : (op a b : ℕ) → (node_at s.nodes k).written ≡ Binary op a b
      → (a < k) × (b < k) × (binary_checked store_at root op (operand_at s.nodes a) (operand_at s.nodes b) ≡ Ok (node_at s.nodes k).answer)
  unfolding node_answer
  at_binary op a b is =
      let p = binary_passed n store_at (take k s.nodes) op a b (passed (Binary op a b) is) in
      let h : a < k = omega (arith, p.1, before_length) in
      let i : b < k = omega (arith, p.2, before_length) in
      (h, i, rw (before_at a h, before_at b i) at (given (Binary op a b) is))

  pub at_index : (a b : ℕ) → (node_at s.nodes k).written ≡ Index a b
      → (a < k) × (b < k)
      × (concluded_by (check_index store_at (operand_at s.nodes b).checked (operand_at s.nodes a).checked).conclusion (operand_at s.nodes a).unit ≡ Ok (node_at s.nodes k).answer)
  unfolding node_answer
  at_index a b is =
      let p = index_passed n store_at (take k s.nodes) a b (passed (Index a b) is) in
      let h : a < k = omega (arith, p.0, before_length) in
      let i : b < k = omega (arith, p.1, before_length) in
      (h, i, rw (before_at a h, before_at b i) at (given (Index a b) is))

  -- operands are lower
  lower_of : (w : Written) → (node_at s.nodes k).written ≡ w → (a : ℕ) → Memᴰ a (operands_of w) → a < k
  lower_of w is a m = let h = operands_lower n store_at (take k s.nodes) w (passed w is) a m in omega (arith, h, before_length)

-- of every node that has an answer
pub traced_lower : (n : ℕ) (root : ℕ → ℕ) (s : State) → Traced n root s → Lower (writings s.nodes) (length s.nodes)
traced_lower n root s f k l a m = lower_of n root s f k l (written_at (writings s.nodes) k) (sym (writings_at s.nodes k)) a m
