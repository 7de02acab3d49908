-- The answer of a formula as a number and bytes, and of two formulas compared as a number, for callers in other languages.
use Rattle.std.specs.Prelude.{List, ◌++◌, ℕ, ◌+◌, Result}
use Rattle.refusals.specs.declared.Refusal.{Refusal}
use Rattle.pages.specs.Bytes.{word_bytes, big_endian}
use Rattle.formulas.specs.declared.FormulaAnswer.{FormulaAnswer}
use Rattle.routes.specs.declared.Compared.{Compared}
use Rattle.calls.specs.Codes.{code_by, yes_number, out_after}
use Rattle.calls.specs.Types.{number_in}
use Rattle.calls.specs.Answers.{answer_bytes, bytes_of_answer}

-- in one number: its root's checked type's
abbrev pub formula_code : Result FormulaAnswer Refusal → ℕ
formula_code = code_by (λ f. number_in f.answer.checked)

-- how many bytes stand beside it: what its root answers, and how many errors the formula has
abbrev pub formula_bytes : ℕ
formula_bytes = answer_bytes + word_bytes

-- these bytes. There are at most 512 errors (`formula_errors` in proofs/Formulas.antt), and a formula passes exactly if there are none
-- (`formula_passes`)
abbrev pub bytes_of_formula : FormulaAnswer → List ℕ
bytes_of_formula f = bytes_of_answer f.answer ++ big_endian word_bytes f.errors

-- the array lent for them, afterwards: as it was where the call is refused
abbrev pub out_after_formula : Result FormulaAnswer Refusal → List ℕ → List ℕ
out_after_formula = out_after bytes_of_formula

-- what comparing two formulas answers: 1 where their results' units are convertible
abbrev pub compared_code : Result Compared Refusal → ℕ
compared_code = code_by (λ c. yes_number c.convertible)
