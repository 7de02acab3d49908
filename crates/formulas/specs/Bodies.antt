-- Nodes as bytes, and a list of them answered: "Nodes: 0, type (2 bytes), symbol count (255 for no unit), then symbol (1 byte) and signed
-- exponent (2) each; 1, operator, operand; 2, operator, left, right; 3, target, key" (document 01, "Formulas and sheets").
use Rattle.std.specs.Prelude.{Bool, false, ◌||◌, not, cond, List, [], ◌∷◌, ℕ, ◌+◌, ltb, eqb, length, get_or, drop, Option, Some, None, is_none, Result}
use Rattle.refusals.specs.Lowest.{◌when◌, lowest, guarded, answer_of, unless_refused}
use Rattle.refusals.specs.declared.Refusal.{Refusal}
use Rattle.refusals.specs.declared.Refusal.TheVariants.{Undefined, Unused}
use Rattle.refusals.specs.Numbers.{Verdict}
use Rattle.pages.specs.Bytes.{word_at}
use Rattle.values.specs.Value.{unit_max, unit_said}
use Rattle.formulas.specs.Nodes.{node_at, State, state, all_stepped, all_verdict, first_refused}
use Rattle.formulas.specs.Below.{error_count, passes}
use Rattle.formulas.specs.declared.Written.{Written}
use Rattle.formulas.specs.declared.Written.TheVariants.{Value, Unary, Binary, Index}
use Rattle.formulas.specs.declared.FormulaAnswer.{FormulaAnswer}

-- where the unit of a value begins, after its form and its type
abbrev pub unit_place : ℕ
unit_place = 3

-- how many bytes a node takes: as many as the longest body
abbrev pub node_bytes : ℕ
node_bytes = unit_place + unit_max

-- how a node is written whose bytes these are, all that a node takes, if its form is defined; what stands after its body is not looked at
unfoldable pub written_in : List ℕ → Option Written
written_in body =
    cond (eqb (get_or body 0 0) 0) (Some (Value (word_at body 1) (unit_said (drop unit_place body))))
    (cond (eqb (get_or body 0 0) 1) (Some (Unary (get_or body 1 0) (get_or body 2 0)))
    (cond (eqb (get_or body 0 0) 2) (Some (Binary (get_or body 1 0) (get_or body 2 0) (get_or body 3 0)))
    (cond (eqb (get_or body 0 0) 3) (Some (Index (get_or body 1 0) (get_or body 2 0))) None)))

-- ---- a list of nodes

-- a node before others, all up to the first whose form is undefined
abbrev pub before_undefined : Option Written → List Written → List Written
before_undefined None ws = []
before_undefined (Some w) ws = w ∷ ws

abbrev pub nodes_in : List (List ℕ) → List Written
nodes_in [] = []
nodes_in (b ∷ bs) = before_undefined (written_in b) (nodes_in bs)

-- is the form of one undefined
abbrev pub some_undefined : List (List ℕ) → Bool
some_undefined [] = false
some_undefined (b ∷ bs) = is_none (written_in b) || some_undefined bs

-- 1 where it is
abbrev pub undefined_verdict : List (List ℕ) → Verdict
undefined_verdict bs = lowest ((Undefined when some_undefined bs) ∷ [])

-- why a list is refused, if it is: by the first node that is
unfoldable pub list_verdict : ℕ → (ℕ → ℕ) → State → List (List ℕ) → Verdict
list_verdict used root s bs = guarded (all_verdict used root s (nodes_in bs)) (undefined_verdict bs)

-- ---- a formula: a list of nodes, and the number of its root

-- why it is refused, if it is: by the first node that is, or 3 by its root
unfoldable pub formula_verdict : ℕ → (ℕ → ℕ) → List ℕ → List (List ℕ) → ℕ → Verdict
formula_verdict used root store bs r =
    first_refused (list_verdict used root (state store []) bs) (lowest ((Unused when not (ltb r (length bs))) ∷ []))

-- the nodes that have an answer, and the store that they leave
abbrev pub formula_nodes : ℕ → (ℕ → ℕ) → List ℕ → List (List ℕ) → State
formula_nodes used root store bs = all_stepped used root (state store []) (nodes_in bs)

-- what its root answers, how many errors it has, and whether it passes
abbrev pub formula_of : State → ℕ → FormulaAnswer
formula_of s r = record { answer = (node_at s.nodes r).answer; errors = error_count s.nodes r; passes = passes s.nodes r }

unfoldable pub formula_answer : ℕ → (ℕ → ℕ) → List ℕ → List (List ℕ) → ℕ → Result FormulaAnswer Refusal
formula_answer used root store bs r = answer_of (formula_verdict used root store bs r) (formula_of (formula_nodes used root store bs) r)

-- the store afterwards: with a refusal the old one
unfoldable pub formula_store : ℕ → (ℕ → ℕ) → List ℕ → List (List ℕ) → ℕ → List ℕ
formula_store used root store bs r = unless_refused (formula_verdict used root store bs r) (formula_nodes used root store bs).store store
