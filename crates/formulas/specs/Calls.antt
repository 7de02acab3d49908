-- What the call for a formula answers, and leaves in the store's page (document 01, "Formulas and sheets" and the table of refusals).
use Rattle.std.specs.Prelude.{Bool, true, false, ◌||◌, not, List, [], ◌∷◌, ℕ, ◌/◌, ◌%◌, eqb, length, Option, Some, None, Result}
use Rattle.std.specs.Simd.{first_chunks}
use Rattle.refusals.specs.Lowest.{◌when◌, lowest, guarded, unless_refused}
use Rattle.refusals.specs.declared.Refusal.{Refusal}
use Rattle.refusals.specs.declared.Refusal.TheVariants.{Undefined, Broken}
use Rattle.refusals.specs.Numbers.{Verdict}
use Rattle.names.specs.Calls.{used_of}
use Rattle.types.specs.Calls.{store_broken}
use Rattle.pairs.specs.Calls.{table_broken}
use Rattle.sums.specs.Calls.{roots_in}
use Rattle.operators.specs.Operators.{is_operator}
use Rattle.formulas.specs.Bodies.{node_bytes, written_in, formula_answer, formula_store}
use Rattle.formulas.specs.declared.Written.{Written}
use Rattle.formulas.specs.declared.Written.TheVariants.{Value, Unary, Binary, Index}
use Rattle.formulas.specs.declared.FormulaAnswer.{FormulaAnswer}

-- a list of nodes that is lent: so many bytes for each
abbrev pub nodes_lent : List ℕ → List (List ℕ)
nodes_lent bytes = first_chunks node_bytes (length bytes / node_bytes) bytes

-- is it cut inside a node
abbrev pub is_cut : List ℕ → Bool
is_cut bytes = not (eqb (length bytes % node_bytes) 0)

-- is the form of a node undefined, or its operator
abbrev pub is_undefined : Option Written → Bool
is_undefined None = true
is_undefined (Some (Value t u)) = false
is_undefined (Some (Unary op a)) = not (is_operator op)
is_undefined (Some (Binary op a b)) = not (is_operator op)
is_undefined (Some (Index a k)) = false

-- is that of the first node, which is reached whatever is lent beside the list
abbrev pub first_undefined : List (List ℕ) → Bool
first_undefined [] = false
first_undefined (b ∷ bs) = is_undefined (written_in b)

-- 1 the first node; 2 the names, the store, the pairs, or a list of nodes that is cut: no node is answered before
abbrev pub lent_verdict : List ℕ → Option (List ℕ) → List ℕ → List ℕ → Verdict
lent_verdict page names pairs nodes =
    lowest
    ((Undefined when first_undefined (nodes_lent nodes))
    ∷ (Broken when (store_broken page names || (table_broken pairs names || is_cut nodes)))
    ∷ [])

unfoldable pub check_answer : List ℕ → Option (List ℕ) → List ℕ → List ℕ → ℕ → Result FormulaAnswer Refusal
check_answer page names pairs nodes root =
    guarded (lent_verdict page names pairs nodes) (formula_answer (used_of names) (roots_in pairs) page (nodes_lent nodes) root)

unfoldable pub check_page : List ℕ → Option (List ℕ) → List ℕ → List ℕ → ℕ → List ℕ
check_page page names pairs nodes root =
    unless_refused (lent_verdict page names pairs nodes) (formula_store (used_of names) (roots_in pairs) page (nodes_lent nodes) root) page
