-- The call that runs all three: insertions, two formulas answered, and the comparison of their results' units (document 01, "Formulas and
-- sheets", and the table of refusals).
use Rattle.std.specs.Prelude.{◌≡◌, Bool, true, false, ◌||◌, not, List, [], ◌∷◌, ℕ, ◌/◌, ◌%◌, eqb, length, map, Option, Result, Ok, Err}
use Rattle.std.specs.Simd.{first_chunks}
use mathlib.Core.Logic.{◌↔◌}
use Rattle.refusals.specs.Lowest.{◌when◌, lowest, guarded, unless_refused}
use Rattle.refusals.specs.declared.Refusal.{Refusal}
use Rattle.refusals.specs.declared.Refusal.TheVariants.{Undefined, Broken}
use Rattle.refusals.specs.Numbers.{Verdict}
use Rattle.names.specs.Calls.{used_of}
use Rattle.types.specs.Calls.{store_broken}
use Rattle.units.specs.Unit.{Term}
use Rattle.pairs.specs.Table.{pair_bytes, said}
use Rattle.pairs.specs.Calls.{table_broken, factor_said}
use Rattle.pairs.specs.Runs.{Request, page_after_all}
use Rattle.sums.specs.Calls.{roots_in, convert_answer}
use Rattle.formulas.specs.Bodies.{nodes_in, formula_answer, formula_store}
use Rattle.formulas.specs.Calls.{nodes_lent, is_cut, first_undefined}
use Rattle.formulas.specs.declared.FormulaAnswer.{FormulaAnswer}
use Rattle.routes.specs.Routes.{Route}
use Rattle.routes.specs.Rule.{Lent, lent_after, Formula, Fine, SameTotals}
use Rattle.routes.specs.declared.Compared.{Compared}

-- ---- insertions that are asked for, a P body each

-- what the bytes of a pair ask for
abbrev pub request_in : Option (List ℕ) → List ℕ → Request
request_in names body = record { names = names; symbol = (said body).symbol; factor = (factor_said body).factor; base = (said body).base }

-- the pairs of a list that is lent
abbrev pub pairs_lent : List ℕ → List (List ℕ)
pairs_lent bytes = first_chunks pair_bytes (length bytes / pair_bytes) bytes

-- what they ask for
abbrev pub requests_in : Option (List ℕ) → List ℕ → List Request
requests_in names bytes = map (request_in names) (pairs_lent bytes)

-- ---- a formula that is lent: a list of nodes, and the number of its root

pub record FormulaLent : Type 0 where
  pub nodes : List ℕ
  pub root : ℕ

abbrev pub formula_lent : List ℕ → ℕ → FormulaLent
formula_lent nodes root = record { nodes = nodes; root = root }

-- a table and names, or none
abbrev pub lent : List ℕ → Option (List ℕ) → Lent
lent table names = record { table = table; names = names }

-- how it is written
abbrev pub formula_in : FormulaLent → Formula
formula_in f = record { nodes = nodes_in (nodes_lent f.nodes); root = f.root }

-- what it comes to, over a store
abbrev pub answer_in : Lent → List ℕ → FormulaLent → Result FormulaAnswer Refusal
answer_in by store f = formula_answer (used_of by.names) (roots_in by.table) store (nodes_lent f.nodes) f.root

-- the store that it leaves
abbrev pub store_in : Lent → List ℕ → FormulaLent → List ℕ
store_in by store f = formula_store (used_of by.names) (roots_in by.table) store (nodes_lent f.nodes) f.root

-- ---- the comparison of two formulas, the second answered over the store that the first left

-- with what the convertibility call says of their results' units
abbrev pub compared : FormulaAnswer → FormulaAnswer → Result Bool Refusal → Result Compared Refusal
compared x y (Ok b) = Ok (record { left = x; right = y; convertible = b })
compared x y (Err q) = Err q

-- the right one, beside the left one's answer
abbrev pub with_right : Lent → FormulaAnswer → Result FormulaAnswer Refusal → Result Compared Refusal
with_right by x (Ok y) = compared x y (convert_answer by.table by.names x.answer.unit y.answer.unit)
with_right by x (Err q) = Err q

abbrev pub with_left : Lent → List ℕ → FormulaLent → Result FormulaAnswer Refusal → Result Compared Refusal
with_left by left g (Ok x) = with_right by x (answer_in by left g)
with_left by left g (Err q) = Err q

unfoldable pub compare_answer : Lent → List ℕ → FormulaLent → FormulaLent → Result Compared Refusal
compare_answer by store f g = with_left by (store_in by store f) g (answer_in by store f)

-- the store that both leave
unfoldable pub compare_store : Lent → List ℕ → FormulaLent → FormulaLent → List ℕ
compare_store by store f g = unless_refused (answer_in by store f) (store_in by (store_in by store f) g) (store_in by store f)

-- ---- the call

-- is a list of pairs cut inside one
abbrev pub pairs_cut : List ℕ → Bool
pairs_cut bytes = not (eqb (length bytes % pair_bytes) 0)

-- 1 the first node of the left formula; 2 the names, the store, the table, or a list that is cut
abbrev pub run_verdict : List ℕ → Option (List ℕ) → List ℕ → List ℕ → FormulaLent → FormulaLent → Verdict
run_verdict page names table requests f g =
    lowest
    ((Undefined when first_undefined (nodes_lent f.nodes))
    ∷ (Broken when (store_broken page names || (table_broken table names || (pairs_cut requests || (is_cut f.nodes || is_cut g.nodes)))))
    ∷ [])

-- what is lent to the formulas once the insertions are done; a refused insertion is no refusal of the call
abbrev pub lent_then : Option (List ℕ) → List ℕ → List ℕ → Lent
lent_then names table requests = lent_after table (requests_in names requests) names

unfoldable pub run_answer : List ℕ → Option (List ℕ) → List ℕ → List ℕ → FormulaLent → FormulaLent → Result Compared Refusal
run_answer page names table requests f g =
    guarded (run_verdict page names table requests f g) (compare_answer (lent_then names table requests) page f g)

-- the store afterwards, and the table: with a refusal the old ones
unfoldable pub run_page : List ℕ → Option (List ℕ) → List ℕ → List ℕ → FormulaLent → FormulaLent → List ℕ
run_page page names table requests f g =
    unless_refused (run_answer page names table requests f g) (compare_store (lent_then names table requests) page f g) page

unfoldable pub run_table : List ℕ → Option (List ℕ) → List ℕ → List ℕ → FormulaLent → FormulaLent → List ℕ
run_table page names table requests f g =
    unless_refused (run_answer page names table requests f g) (page_after_all table (requests_in names requests)) table

-- ---- demand 3, of what the call answers

-- for every route down the left formula and every route down the right one, the answer says convertible exactly if the two have the same
-- exponent total in every group, and not convertible exactly if they have not
unfoldable pub RunRule : List ℕ → Option (List ℕ) → List ℕ → List ℕ → FormulaLent → FormulaLent → Result Compared Refusal → Type 0
RunRule page names table requests f g answer =
    (c : Compared) → answer ≡ Ok c
    → Fine (lent_then names table requests) page (formula_in f)
    → Fine (lent_then names table requests) (store_in (lent_then names table requests) page f) (formula_in g)
    → (xs ys : List Term) → Route (formula_in f).nodes f.root xs → Route (formula_in g).nodes g.root ys
    → ((c.convertible ≡ true) ↔ SameTotals table (requests_in names requests) xs ys)
    × ((c.convertible ≡ false) ↔ (¬ (SameTotals table (requests_in names requests) xs ys)))
