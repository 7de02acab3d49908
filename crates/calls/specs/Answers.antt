-- The answers of operators and indexing as numbers and bytes, for callers in other languages.
use Rattle.refusals.specs.declared.Refusal.{Refusal}
use Rattle.units.specs.declared.Unit.{Unit}
use Rattle.std.specs.Prelude.{Bool, ◌&&◌, ◌||◌, not, List, [], ◌∷◌, ◌++◌, ℕ, ◌+◌, Option, Some, None, Result}
use Rattle.refusals.specs.Lowest.{Condition, ◌when◌, lowest, unless_refused, guarded}
use Rattle.refusals.specs.declared.Refusal.TheVariants.{Undefined, Broken, Unused, BadUnit}
use Rattle.refusals.specs.Numbers.{Verdict}
use Rattle.pages.specs.Bytes.{count_bytes, big_endian}
use Rattle.pages.specs.Pad.{pad}
use Rattle.names.specs.Calls.{used_of}
use Rattle.types.specs.Calls.{store_broken}
use Rattle.matching.specs.Matching.{in_use}
use Rattle.pairs.specs.Calls.{table_broken}
use Rattle.sums.specs.Calls.{roots_in}
use Rattle.values.specs.Value.{none_count, unit_max, unit_in, symbols_used}
use Rattle.operators.specs.Operators.{is_operator}
use Rattle.operators.specs.declared.Errors.{Errors}
use Rattle.unary.specs.Unary.{check_unary}
use Rattle.indexing.specs.Indexing.{check_index}
use Rattle.answers.specs.Calls.{binary_checked, unary_checked, concluded_by, store_after}
use Rattle.answers.specs.declared.CheckedExpr.{CheckedExpr}
use Rattle.answers.specs.declared.Answered.{Answered}
use Rattle.calls.specs.Codes.{code_by, out_after, bytes_of_unit, maybe_formed_in}
use Rattle.calls.specs.Types.{checked_of, number_in}
use Rattle.operators.specs.Outcome.{count_of, first_of, second_of, failing_of, left_of, right_of}

-- an operand: a checked type in one number, and bytes that say a unit or none
abbrev pub operand_of : ℕ → List ℕ → CheckedExpr
operand_of c unit = record { checked = checked_of c; unit = unit_in unit }

-- ---- an answer in one number: its checked type's

abbrev pub answered_code : Result Answered Refusal → ℕ
answered_code = code_by (λ a. number_in a.checked)

-- ---- what stands beside it in bytes: errors, and a unit or none

-- how many bytes errors take: their number, two reasons, how many members fail, and the first of them
abbrev pub error_bytes : ℕ
error_bytes = 11

-- how many bytes it says how many members fail in
abbrev pub failing_bytes : ℕ
failing_bytes = 4

-- the bytes of errors, of each number its lowest
unfoldable pub bytes_of_errors : Errors → List ℕ
bytes_of_errors e =
    big_endian 1 (count_of e)
    ++ (big_endian 1 (first_of e)
    ++ (big_endian 1 (second_of e)
    ++ (big_endian failing_bytes (failing_of e) ++ (big_endian count_bytes (left_of e) ++ big_endian count_bytes (right_of e)))))

-- a unit's bytes or, for no unit, 255; and zeros after them
unfoldable pub bytes_of_maybe : Option Unit → List ℕ
bytes_of_maybe (Some u) = bytes_of_unit u
bytes_of_maybe None = pad unit_max 0 (none_count ∷ [])

-- how many bytes all takes
abbrev pub answer_bytes : ℕ
answer_bytes = error_bytes + unit_max

abbrev pub bytes_of_answer : Answered → List ℕ
bytes_of_answer a = bytes_of_errors a.errors ++ bytes_of_maybe a.unit

-- the array lent for them, afterwards: as it was where the call is refused
abbrev pub out_after_answer : Result Answered Refusal → List ℕ → List ℕ
out_after_answer = out_after bytes_of_answer

-- ---- refusals of what a call is given

-- are an operand's type, and the symbols that stand in its unit's bytes, in use
abbrev pub operand_used_in : List ℕ → ℕ → ℕ → List ℕ → Bool
operand_used_in page used c unit = in_use page (checked_of c) && symbols_used used unit

-- 3 a number, 5 a unit: tested of both operands together
abbrev pub operands_in : List ℕ → ℕ → ℕ → List ℕ → ℕ → List ℕ → List Condition
operands_in page used left unit right other =
    (Unused when not (operand_used_in page used left unit && operand_used_in page used right other))
    ∷ (BadUnit when not (maybe_formed_in unit && maybe_formed_in other))
    ∷ []

-- and 2 the names or the store
unfoldable pub operands_verdict_in : List ℕ → Option (List ℕ) → ℕ → List ℕ → ℕ → List ℕ → Verdict
operands_verdict_in page names left unit right other =
    lowest ((Broken when store_broken page names) ∷ operands_in page (used_of names) left unit right other)

-- ---- a binary operator on two operands

-- 1 the operator; 2 the names, the store or the pairs
unfoldable pub binary_verdict_in : List ℕ → Option (List ℕ) → List ℕ → ℕ → ℕ → List ℕ → ℕ → List ℕ → Verdict
binary_verdict_in page names pairs op left unit right other =
    lowest
    ((Undefined when not (is_operator op))
    ∷ (Broken when (store_broken page names || table_broken pairs names))
    ∷ operands_in page (used_of names) left unit right other)

abbrev pub binary_in : List ℕ → Option (List ℕ) → List ℕ → ℕ → ℕ → List ℕ → ℕ → List ℕ → Result Answered Refusal
binary_in page names pairs op left unit right other =
    guarded (binary_verdict_in page names pairs op left unit right other)
    (binary_checked page (roots_in pairs) op (operand_of left unit) (operand_of right other))

-- ---- an operator on one, and the store afterwards

-- the operand is judged as if it were given twice
unfoldable pub unary_verdict_in : List ℕ → Option (List ℕ) → ℕ → ℕ → List ℕ → Verdict
unary_verdict_in page names op operand unit =
    lowest
    ((Undefined when not (is_operator op))
    ∷ (Broken when store_broken page names)
    ∷ operands_in page (used_of names) operand unit operand unit)

abbrev pub unary_in : List ℕ → Option (List ℕ) → ℕ → ℕ → List ℕ → Result Answered Refusal
unary_in page names op operand unit =
    guarded (unary_verdict_in page names op operand unit) (unary_checked (check_unary page op (checked_of operand)) op (unit_in unit))

abbrev pub unary_page_in : List ℕ → Option (List ℕ) → ℕ → ℕ → List ℕ → List ℕ
unary_page_in page names op operand unit =
    unless_refused (unary_verdict_in page names op operand unit) (store_after (check_unary page op (checked_of operand)) page) page

-- ---- a target indexed by a key, and the store afterwards

-- a key has no unit, which the byte 255 says
abbrev pub index_verdict_in : List ℕ → Option (List ℕ) → ℕ → List ℕ → ℕ → Verdict
index_verdict_in page names target unit key = operands_verdict_in page names target unit key (none_count ∷ [])

abbrev pub index_in : List ℕ → Option (List ℕ) → ℕ → List ℕ → ℕ → Result Answered Refusal
index_in page names target unit key =
    guarded (index_verdict_in page names target unit key) (concluded_by (check_index page (checked_of key) (checked_of target)).conclusion (unit_in unit))

abbrev pub index_page_in : List ℕ → Option (List ℕ) → ℕ → List ℕ → ℕ → List ℕ
index_page_in page names target unit key =
    unless_refused (index_verdict_in page names target unit key) (store_after (check_index page (checked_of key) (checked_of target)) page) page
