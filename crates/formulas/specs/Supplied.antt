-- What src/ holds while it answers nodes: places for them, and what stands beside the store of types.
use mathlib.Core.List.{Memᴰ}
use Rattle.std.specs.Prelude.{◌≡◌, true, false, List, ℕ, ◌≤◌, ◌<◌, length}
use Rattle.types.specs.Types.{types_in}
use Rattle.marks.specs.Marks.{Noted}
use Rattle.matching.specs.Memo.{Found}
use Rattle.members.specs.Leaves.{Leaves}
use Rattle.answers.specs.Calls.{operand_used, operand_formed}
use Rattle.formulas.specs.Nodes.{nodes_max, depth_max, as_operand, node_at, operand_at}
use Rattle.formulas.specs.Below.{operands_of}
use Rattle.formulas.specs.declared.Node.{Node}

-- node k can be an operand: its unit is in form, the formula below it is not too deep, and its own operands are numbered lower
pub record Operable (k : ℕ) (x : Node) : Type 0 where
  pub formed : operand_formed (as_operand x.answer) ≡ true
  pub shallow : x.depth ≤ depth_max
  pub lower : (a : ℕ) → Memᴰ a (operands_of x.written) → a < k

-- places for all nodes, the first of which can be operands
pub record Placed (nodes : List Node) (count : ℕ) : Type 0 where
  pub places : length nodes ≡ nodes_max
  pub few : count ≤ nodes_max
  pub each : (k : ℕ) → k < count → Operable k (node_at nodes k)

-- the leaves of all types of a store, what was found of them, and nodes whose types and symbols, of n names, are in use
pub record Supplied (n : ℕ) (store singles doubles memo : List ℕ) (nodes : List Node) : Type 0 where
  pub single : Leaves true store singles (types_in store)
  pub double : Leaves false store doubles (types_in store)
  pub noted : Noted (Found store) memo
  pub used : (k : ℕ) → k < length nodes → operand_used store n (operand_at nodes k) ≡ true
