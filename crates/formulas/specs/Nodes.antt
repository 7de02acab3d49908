-- The nodes of formulas, and what one more answers (document 01, "Formulas and sheets"): over how many name numbers are in use, the roots
-- of symbols, and the store of types, which a node's answer may leave larger.
use Rattle.std.specs.Prelude.{Bool, ◌&&◌, not, cond, List, [], ◌∷◌, ◌++◌, ℕ, suc, ltb, leb, length, get_or, Option, None, Result, Ok, Err, is_err}
use Rattle.refusals.specs.Lowest.{Condition, ◌when◌, lower, lowest, unless_refused, guarded}
use Rattle.refusals.specs.declared.Refusal.{Refusal}
use Rattle.refusals.specs.declared.Refusal.TheVariants.{Undefined, Unused, BadUnit, Depth, Full}
use Rattle.refusals.specs.Numbers.{Verdict}
use Rattle.kinds.specs.Kinds.{null}
use Rattle.types.specs.Store.{larger}
use Rattle.matching.specs.declared.Checked.TheVariants.{Known}
use Rattle.units.specs.declared.Unit.{Unit}
use Rattle.operators.specs.Operators.{is_operator}
use Rattle.operators.specs.Outcome.{no_error, outcome}
use Rattle.unary.specs.Unary.{check_unary}
use Rattle.indexing.specs.Indexing.{check_index}
use Rattle.answers.specs.Calls.{operand_used, operand_formed, answered, binary_checked, unary_checked, concluded_by, store_after}
use Rattle.answers.specs.declared.CheckedExpr.{CheckedExpr}
use Rattle.answers.specs.declared.Answered.{Answered}
use Rattle.formulas.specs.declared.Written.{Written}
use Rattle.formulas.specs.declared.Written.TheVariants.{Value, Unary, Binary, Index}
use Rattle.formulas.specs.declared.Node.{Node}

-- "Up to 256 nodes"
abbrev pub nodes_max : ℕ
nodes_max = 256

-- "depth at most 32"
abbrev pub depth_max : ℕ
depth_max = 32

-- ---- the nodes so far, the first with number 0

-- what a value answers: its type and its unit
abbrev pub value_answer : ℕ → Option Unit → Answered
value_answer t u = answered (outcome (Known t) no_error) u

-- a node that stands for one that is not there
abbrev pub nothing : Node
nothing = record { written = Value null None; depth = 0; answer = value_answer null None }

-- node n
abbrev pub node_at : List Node → ℕ → Node
node_at nodes n = get_or nodes n nothing

-- is n the number of a node that has its answer: "operands numbered lower"
abbrev pub is_node : List Node → ℕ → Bool
is_node nodes n = ltb n (length nodes)

-- what an answer is as an operand
abbrev pub as_operand : Answered → CheckedExpr
as_operand a = record { checked = a.checked; unit = a.unit }

-- node n as an operand
abbrev pub operand_at : List Node → ℕ → CheckedExpr
operand_at nodes n = as_operand (node_at nodes n).answer

-- ---- why one more is refused before it is answered: 1 the operator, 3 a node, a type or a symbol, 5 the unit

abbrev pub value_of : ℕ → Option Unit → CheckedExpr
value_of t u = record { checked = Known t; unit = u }

unfoldable pub node_conditions : ℕ → List ℕ → List Node → Written → List Condition
node_conditions used page nodes (Value t u) =
    (Unused when not (operand_used page used (value_of t u))) ∷ (BadUnit when not (operand_formed (value_of t u))) ∷ []
node_conditions used page nodes (Unary op a) = (Undefined when not (is_operator op)) ∷ (Unused when not (is_node nodes a)) ∷ []
node_conditions used page nodes (Binary op a b) =
    (Undefined when not (is_operator op)) ∷ (Unused when not (is_node nodes a && is_node nodes b)) ∷ []
node_conditions used page nodes (Index a k) = (Unused when not (is_node nodes a && is_node nodes k)) ∷ []

-- ---- its answer, from those of its operands: "A node is answered once", "An index keeps its target's unit"

unfoldable pub node_answer : List ℕ → (ℕ → ℕ) → List Node → Written → Result Answered Refusal
node_answer page root nodes (Value t u) = Ok (value_answer t u)
node_answer page root nodes (Unary op a) =
    unary_checked (check_unary page op (operand_at nodes a).checked) op (operand_at nodes a).unit
node_answer page root nodes (Binary op a b) = binary_checked page root op (operand_at nodes a) (operand_at nodes b)
node_answer page root nodes (Index a k) =
    concluded_by (check_index page (operand_at nodes k).checked (operand_at nodes a).checked).conclusion (operand_at nodes a).unit

-- the store that it leaves: a result union may enter
unfoldable pub node_store : List ℕ → List Node → Written → List ℕ
node_store page nodes (Value t u) = page
node_store page nodes (Unary op a) = store_after (check_unary page op (operand_at nodes a).checked) page
node_store page nodes (Binary op a b) = page
node_store page nodes (Index a k) = store_after (check_index page (operand_at nodes k).checked (operand_at nodes a).checked) page

-- ---- how deep the formula below it is: a value is one deep

abbrev pub depth_at : List Node → ℕ → ℕ
depth_at nodes n = (node_at nodes n).depth

unfoldable pub depth_of : List Node → Written → ℕ
depth_of nodes (Value t u) = 1
depth_of nodes (Unary op a) = suc (depth_at nodes a)
depth_of nodes (Binary op a b) = suc (larger (depth_at nodes a) (depth_at nodes b))
depth_of nodes (Index a k) = suc (larger (depth_at nodes a) (depth_at nodes k))

-- ---- one more node

-- why it is refused beside what its answer comes to: 7 it is deeper than 32, 10 it is the 257th
abbrev pub limits : List Node → Written → List Condition
limits nodes w = (Depth when ltb depth_max (depth_of nodes w)) ∷ (Full when leb nodes_max (length nodes)) ∷ []

-- of an answer, which may be refused itself by 6, 8, 9 or 10, and a verdict: the lower refusal, if there is one
abbrev pub first_refused : {A : Type 0} → Result A Refusal → Verdict → Verdict
first_refused (Ok a) v = v
first_refused (Err r) v = lower r v

-- why it is refused, if it is
unfoldable pub node_verdict : ℕ → List ℕ → (ℕ → ℕ) → List Node → Written → Verdict
node_verdict used page root nodes w =
    guarded (lowest (node_conditions used page nodes w)) (first_refused (node_answer page root nodes w) (lowest (limits nodes w)))

-- the node, with its answer
abbrev pub node_of : List Node → Written → Answered → Node
node_of nodes w a = record { written = w; depth = depth_of nodes w; answer = a }

-- the nodes with this one behind them, where it has an answer
abbrev pub with_answer : List Node → Written → Result Answered Refusal → List Node
with_answer nodes w (Ok a) = nodes ++ (node_of nodes w a ∷ [])
with_answer nodes w (Err r) = nodes

-- the store of types, and the nodes that have an answer
pub record State : Type 0 where
  pub store : List ℕ
  pub nodes : List Node

abbrev pub state : List ℕ → List Node → State
state store nodes = record { store = store; nodes = nodes }

-- why one more node is refused, if it is
abbrev pub step_verdict : ℕ → (ℕ → ℕ) → State → Written → Verdict
step_verdict used root s w = node_verdict used s.store root s.nodes w

-- with one more node; a refused one changes nothing
unfoldable pub stepped : ℕ → (ℕ → ℕ) → State → Written → State
stepped used root s w =
    unless_refused (step_verdict used root s w)
    (state (node_store s.store s.nodes w) (with_answer s.nodes w (node_answer s.store root s.nodes w))) s

-- ---- a list of nodes, one after another, up to the first that is refused

unfoldable pub all_stepped : ℕ → (ℕ → ℕ) → State → List Written → State
all_stepped used root s [] = s
all_stepped used root s (w ∷ ws) = cond (is_err (step_verdict used root s w)) s (all_stepped used root (stepped used root s w) ws)

-- why that one is refused, if there is one
unfoldable pub all_verdict : ℕ → (ℕ → ℕ) → State → List Written → Verdict
all_verdict used root s [] = Ok tt
all_verdict used root s (w ∷ ws) = guarded (step_verdict used root s w) (all_verdict used root (stepped used root s w) ws)

-- the nodes of a list that have an answer, over a store
abbrev pub answers_of : ℕ → (ℕ → ℕ) → List ℕ → List Written → State
answers_of used root store ws = all_stepped used root (state store []) ws
