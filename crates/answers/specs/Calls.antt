-- What the calls for operators and indexing answer, and leave in the store's page (document 01, "Answers" and the table of refusals).
use Rattle.units.specs.declared.Unit.{Unit}
use Rattle.std.specs.Prelude.{Bool, ◌&&◌, ◌||◌, not, cond, List, [], ◌∷◌, ℕ, eqb, Result, Ok, Err, Option}
use Rattle.refusals.specs.Lowest.{Condition, ◌when◌, lowest, unless_refused, guarded}
use Rattle.refusals.specs.declared.Refusal.TheVariants.{Undefined, Broken, Unused, BadUnit}
use Rattle.refusals.specs.declared.Refusal.{Refusal}
use Rattle.refusals.specs.Numbers.{Verdict}
use Rattle.names.specs.Table.{names_max}
use Rattle.names.specs.Calls.{used_of}
use Rattle.kinds.specs.Kinds.{is_union}
use Rattle.types.specs.Types.{kind_of}
use Rattle.types.specs.Calls.{store_broken}
use Rattle.matching.specs.Matching as matching
use Rattle.matching.specs.declared.Checked.{Checked}
use Rattle.units.specs.Unit.{places_max, in_use, formed}
use Rattle.units.specs.Calls.{terms_of, present}
use Rattle.pairs.specs.Calls.{table_broken}
use Rattle.sums.specs.Calls.{roots_in, or_empty}
use Rattle.operators.specs.Operators.{is_operator, minus}
use Rattle.operators.specs.Outcome.{number_of, passes}
use Rattle.operators.specs.declared.Outcome.{Outcome}
use Rattle.members.specs.Members.{Concluded}
use Rattle.binary.specs.Binary.{check_binary}
use Rattle.unary.specs.Unary.{check_unary}
use Rattle.indexing.specs.Indexing.{check_index}
use Rattle.answers.specs.Units.{no_unit, clashes, binary_unit, negation_unit}
use Rattle.answers.specs.declared.CheckedExpr.{CheckedExpr}
use Rattle.answers.specs.declared.Answered.{Answered}

-- ---- refusals of what a call is given

-- are an operand's type and, of n numbers, its unit's symbols in use; where it has no unit, what stands there is not looked at
abbrev pub operand_used : List ℕ → ℕ → CheckedExpr → Bool
operand_used page n x = matching.in_use page x.checked && in_use n (present (or_empty x.unit))

-- is its unit in form
abbrev pub operand_formed : CheckedExpr → Bool
operand_formed x = formed places_max names_max (terms_of (or_empty x.unit))

-- 3 a number, 5 a unit: tested of both operands together
abbrev pub operand_conditions : List ℕ → ℕ → CheckedExpr → CheckedExpr → List Condition
operand_conditions page n left right =
    (Unused when not (operand_used page n left && operand_used page n right))
    ∷ (BadUnit when not (operand_formed left && operand_formed right))
    ∷ []

-- ---- answers

-- "a checked type, a unit or none, and errors in order"
abbrev pub answered : Outcome → Option Unit → Answered
answered o u = record { checked = o.checked; unit = u; errors = o.errors }

-- ---- `check_binary_operator`

-- 1 the operator; 2 the names, the store or the pairs
abbrev pub binary_verdict : List ℕ → Option (List ℕ) → List ℕ → ℕ → CheckedExpr → CheckedExpr → Verdict
binary_verdict page names pairs op left right =
    lowest
    ((Undefined when not (is_operator op))
    ∷ (Broken when (store_broken page names || table_broken pairs names))
    ∷ operand_conditions page (used_of names) left right)

-- what an answer comes to with its unit, which 8 and 9 may refuse
abbrev pub beside : Outcome → Result (Option Unit) Refusal → Result Answered Refusal
beside o (Ok u) = Ok (answered o u)
beside o (Err r) = Err r

-- a check that passes has the unit of its operator's rule; with an error there is none, and no 8 or 9
unfoldable pub with_unit : Outcome → Result (Option Unit) Refusal → Result Answered Refusal
with_unit o u = cond (passes o) (beside o u) (Ok (answered o no_unit))

-- the operands' units enter the check by one test, whether they clash by the roots of the groups
unfoldable pub binary_checked : List ℕ → (ℕ → ℕ) → ℕ → CheckedExpr → CheckedExpr → Result Answered Refusal
binary_checked page root op left right =
    with_unit (check_binary page op (clashes root left.unit right.unit) left.checked right.checked)
    (binary_unit op left.unit right.unit)

unfoldable pub binary_answer : List ℕ → Option (List ℕ) → List ℕ → ℕ → CheckedExpr → CheckedExpr → Result Answered Refusal
binary_answer page names pairs op left right =
    guarded (binary_verdict page names pairs op left right) (binary_checked page (roots_in pairs) op left right)

-- ---- calls whose answer may enter a union into the store

-- what a conclusion answers with a unit beside it: 6 and 10 for a union that cannot be entered
abbrev pub concluded_by : Result Outcome Refusal → Option Unit → Result Answered Refusal
concluded_by (Ok o) u = Ok (answered o u)
concluded_by (Err r) u = Err r

-- the store that a conclusion leaves: with a refusal the old one
abbrev pub store_after : Concluded → List ℕ → List ℕ
store_after q page = unless_refused q.conclusion q.store page

-- ---- `check_unary_operator`

-- the operand is judged as if it were given twice
abbrev pub unary_verdict : List ℕ → Option (List ℕ) → ℕ → CheckedExpr → Verdict
unary_verdict page names op x =
    lowest
    ((Undefined when not (is_operator op))
    ∷ (Broken when store_broken page names)
    ∷ operand_conditions page (used_of names) x x)

-- − has a negation's unit where it passes, ! has none
unfoldable pub unary_unit : List ℕ → ℕ → Outcome → Option Unit → Option Unit
unary_unit store op o u =
    cond (eqb op minus && passes o) (negation_unit (is_union (kind_of store (number_of o.checked))) u) no_unit

-- a conclusion, and its unit by the store that it leaves
abbrev pub unary_concluded : Result Outcome Refusal → List ℕ → ℕ → Option Unit → Result Answered Refusal
unary_concluded (Ok o) store op u = Ok (answered o (unary_unit store op o u))
unary_concluded (Err r) store op u = Err r

abbrev pub unary_checked : Concluded → ℕ → Option Unit → Result Answered Refusal
unary_checked q op u = unary_concluded q.conclusion q.store op u

unfoldable pub unary_answer : List ℕ → Option (List ℕ) → ℕ → CheckedExpr → Result Answered Refusal
unary_answer page names op x =
    guarded (unary_verdict page names op x) (unary_checked (check_unary page op x.checked) op x.unit)

unfoldable pub unary_page : List ℕ → Option (List ℕ) → ℕ → CheckedExpr → List ℕ
unary_page page names op x =
    unless_refused (unary_verdict page names op x) (store_after (check_unary page op x.checked) page) page

-- ---- `check_index_target` and `check_index_any`

-- a key has no unit
abbrev pub keyed : Checked → CheckedExpr
keyed key = record { checked = key; unit = no_unit }

abbrev pub index_verdict : List ℕ → Option (List ℕ) → CheckedExpr → Checked → Verdict
index_verdict page names target key =
    lowest ((Broken when store_broken page names) ∷ operand_conditions page (used_of names) target (keyed key))

-- "An index keeps its target's unit"
unfoldable pub index_answer : List ℕ → Option (List ℕ) → CheckedExpr → Checked → Result Answered Refusal
index_answer page names target key =
    guarded (index_verdict page names target key) (concluded_by (check_index page key target.checked).conclusion target.unit)

unfoldable pub index_page : List ℕ → Option (List ℕ) → CheckedExpr → Checked → List ℕ
index_page page names target key =
    unless_refused (index_verdict page names target key) (store_after (check_index page key target.checked) page) page
