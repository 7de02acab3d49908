-- Demand 3 (the mission; document 01, "Formulas and sheets"): what is asked of two formulas, and what is claimed of their routes.
use mathlib.Core.Logic.{◌↔◌}
use Rattle.std.specs.Prelude.{◌≡◌, Bool, true, false, ◌||◌, not, List, ℕ, Option, Result, Ok}
use Rattle.refusals.specs.declared.Refusal.{Refusal}
use Rattle.pages.specs.Quant.{any_to}
use Rattle.names.specs.Table.{names_max}
use Rattle.names.specs.Calls.{used_of}
use Rattle.kinds.specs.Kinds.{is_union}
use Rattle.types.specs.Store.{Formed}
use Rattle.types.specs.Types.{kind_of, arity, child_of}
use Rattle.types.specs.Recur.{cov}
use Rattle.matching.specs.declared.Checked.{Checked}
use Rattle.matching.specs.declared.Checked.TheVariants.{Known, Unknown, Function}
use Rattle.units.specs.Unit.{Term}
use Rattle.units.specs.Calls.{unitless}
use Rattle.units.specs.declared.Unit.{Unit}
use Rattle.pairs.specs.Runs.{Request, page_after_all, accepted_pairs}
use Rattle.sums.specs.Sums.{SameSums}
use Rattle.sums.specs.Calls.{roots_in, convert_answer}
use Rattle.operators.specs.Operators.{is_number}
use Rattle.formulas.specs.Nodes.{node_at, State, answers_of}
use Rattle.formulas.specs.Below.{Stands, Part, passes}
use Rattle.formulas.specs.declared.Written.{Written}
use Rattle.formulas.specs.declared.Written.TheVariants.{Binary}
use Rattle.routes.specs.Routes.{Adds, Route}

-- ---- a formula and its answers

-- a formula as it is written: nodes, and the number of its root
pub record Formula : Type 0 where
  pub nodes : List Written
  pub root : ℕ

-- what is lent to both formulas: a table of pairs, and names or none
pub record Lent : Type 0 where
  pub table : List ℕ
  pub names : Option (List ℕ)

-- its nodes answered, over a store of types
abbrev pub answers_in : Lent → List ℕ → Formula → State
answers_in lent store f = answers_of (used_of lent.names) (roots_in lent.table) store f.nodes

-- the type and the unit that node n answers
abbrev pub checked_at : State → ℕ → Checked
checked_at s n = (node_at s.nodes n).answer.checked

abbrev pub unit_at : State → ℕ → Option Unit
unit_at s n = (node_at s.nodes n).answer.unit

-- "A side is unitless by its answer's unit"
abbrev pub is_unitless : State → ℕ → Bool
is_unitless s n = unitless (unit_at s n)

-- "A number has kind 1 to 6, 11 or 12"
abbrev pub is_number_in : List ℕ → Checked → Bool
is_number_in store (Known t) = is_number (kind_of store t)
is_number_in store Unknown = false
is_number_in store (Function t) = false

-- "is or holds one of kind 29 or 30"
unfoldable pub holds_union : List ℕ → ℕ → Bool
holds_union store = cov false (λ t rule. is_union (kind_of store t) || any_to (arity store t) (λ i. rule (child_of store t i)))

-- "no union in any type", of an answered type: the predicate by which the rule admits a formula's answers
abbrev pub admitted : List ℕ → Checked → Bool
admitted store (Known t) = not (holds_union store t)
admitted store Unknown = true
admitted store (Function t) = not (holds_union store t)

-- ---- what is asked of a formula: "that pass .., with number results, no union in any type, and no sum or difference with exactly one
-- unitless side"

pub record Fine (lent : Lent) (store : List ℕ) (f : Formula) : Type 0 where
  pub sound : Formed store
  pub pass : passes (answers_in lent store f).nodes f.root ≡ true
  pub number : is_number_in (answers_in lent store f).store (checked_at (answers_in lent store f) f.root) ≡ true
  pub plain : (n : ℕ) → Part f.nodes f.root n → admitted (answers_in lent store f).store (checked_at (answers_in lent store f) n) ≡ true
  pub sides : (n op a b : ℕ) → Part f.nodes f.root n → Stands f.nodes n (Binary op a b) → Adds op
      → is_unitless (answers_in lent store f) a ≡ is_unitless (answers_in lent store f) b

-- ---- what is claimed of two formulas, over a table that any insertions left, and of two routes

-- the table after the insertions, and the names
abbrev pub lent_after : List ℕ → List Request → Option (List ℕ) → Lent
lent_after start requests names = record { table = page_after_all start requests; names = names }

-- the convertibility call on the two results' units
abbrev pub called : Lent → List ℕ → Formula → List ℕ → Formula → Result Bool Refusal
called lent store f other g = convert_answer lent.table lent.names (unit_at (answers_in lent store f) f.root) (unit_at (answers_in lent other g) g.root)

-- "the same exponent total in every group", groups being those of the accepted pairs
abbrev pub SameTotals : List ℕ → List Request → List Term → List Term → Type 0
SameTotals start requests xs ys = SameSums names_max (accepted_pairs start requests) xs ys

-- "the two results are called convertible exactly when the two routes have the same exponent total in every group, and inconvertible
-- exactly when they do not"
abbrev pub Tells : Result Bool Refusal → List ℕ → List Request → List Term → List Term → Type 0
Tells answer start requests xs ys =
    ((answer ≡ Ok true) ↔ SameTotals start requests xs ys) × ((answer ≡ Ok false) ↔ (¬ (SameTotals start requests xs ys)))

-- demand 3, of the names, stores and formulas that are lent and written once the insertions are done; each formula has its store of types,
-- which may be one that the other has left
abbrev pub RouteRule : List ℕ → List Request → Option (List ℕ) → Type 0
RouteRule start requests names =
    (store other : List ℕ) (f g : Formula) → Fine (lent_after start requests names) store f → Fine (lent_after start requests names) other g
    → (xs ys : List Term) → Route f.nodes f.root xs → Route g.nodes g.root ys
    → Tells (called (lent_after start requests names) store f other g) start requests xs ys
