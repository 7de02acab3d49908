-- "A formula's nodes are its root and all below it, keys included", when it passes, and how many errors it has (document 01, "Formulas
-- and sheets").
use mathlib.Core.List.{Memᴰ}
use Rattle.std.specs.Prelude.{◌≡◌, Bool, false, ◌&&◌, ◌||◌, not, cond, List, [], ◌∷◌, ℕ, zero, suc, ◌+◌, ◌<◌, eqb, length, get_or, None}
use Rattle.std.specs.List.{list_any}
use Rattle.pages.specs.Quant.{all_to}
use Rattle.kinds.specs.Kinds.{null}
use Rattle.types.specs.Recur.{cov}
use Rattle.operators.specs.Outcome.{count_of}
use Rattle.formulas.specs.Nodes.{node_at, is_node}
use Rattle.formulas.specs.declared.Written.{Written}
use Rattle.formulas.specs.declared.Written.TheVariants.{Value, Unary, Binary, Index}
use Rattle.formulas.specs.declared.Node.{Node}

-- how nodes are written
abbrev pub writings : List Node → List Written
writings [] = []
writings (x ∷ xs) = x.written ∷ writings xs

-- the node of a list with number n
abbrev pub written_at : List Written → ℕ → Written
written_at ws n = get_or ws n (Value null None)

-- node n of a list is there, and written so
abbrev pub Stands : List Written → ℕ → Written → Type 0
Stands ws n w = (n < length ws) × (written_at ws n ≡ w)

-- ---- the nodes below a root

-- the operands of a node, a key among them
abbrev pub operands_of : Written → List ℕ
operands_of (Value t u) = []
operands_of (Unary op a) = a ∷ []
operands_of (Binary op a b) = a ∷ b ∷ []
operands_of (Index a k) = a ∷ k ∷ []

-- node n is one of the formula whose root is r: the root itself, or an operand of such a node
pub data Part (ws : List Written) (r : ℕ) : ℕ → Type 0 where
  itself : Part ws r r
  below : {n a : ℕ} → Part ws r n → Memᴰ a (operands_of (written_at ws n)) → Part ws r a

-- the same, computed where operands are lower: n is the root itself, or a node of the formula below one of the root's operands
unfoldable pub has_part : List Written → ℕ → ℕ → Bool
has_part ws = cov {R = ℕ → Bool} (λ n. false) (λ r rule n. eqb r n || list_any (λ a. rule a n) (operands_of (written_at ws r)))

-- ---- errors

-- how many errors node n has
abbrev pub errors_at : List Node → ℕ → ℕ
errors_at nodes n = count_of (node_at nodes n).answer.errors

-- what the nodes with numbers less than n add up to, each that is of the formula with root r once: "A shared node's errors count once a
-- question"
unfoldable pub errors_to : List Node → ℕ → ℕ → ℕ
errors_to nodes r zero = 0
errors_to nodes r (suc n) = errors_to nodes r n + cond (has_part (writings nodes) r n) (errors_at nodes n) 0

-- the errors of the formula with root r, none of whose nodes has a higher number
unfoldable pub error_count : List Node → ℕ → ℕ
error_count nodes r = errors_to nodes r (suc r)

-- "A formula passes if every node has an answer and none an error"
unfoldable pub passes : List Node → ℕ → Bool
passes nodes r =
    is_node nodes r
    && all_to (suc r) (λ n. not (has_part (writings nodes) r n) || (is_node nodes n && eqb (errors_at nodes n) 0))
