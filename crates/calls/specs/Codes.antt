-- The answers of the entry calls as numbers, for callers in other languages: the refusal's number (0 for none) in the upper
-- half, the value's sixteen bits in the lower.
use Rattle.std.specs.Prelude.{Bool, false, ◌&&◌, ◌||◌, not, cond, List, [], ◌∷◌, ℕ, ◌+◌, ◌*◌, ◌%◌, ℤ, pos, Option, Some, None, Result, Ok, Err}
use Rattle.refusals.specs.Numbers.{code_of, Verdict}
use Rattle.refusals.specs.Lowest.{◌when◌, lowest, answer_of, guarded}
use Rattle.refusals.specs.declared.Refusal.{Refusal}
use Rattle.refusals.specs.declared.Refusal.TheVariants.{Broken, Unused, BadUnit}
use Rattle.pages.specs.Bytes.{count_of, big_endian, long_bytes}
use Rattle.pages.specs.Pad.{pad, padded}
use Rattle.pages.specs.declared.Padded.{Padded}
use Rattle.names.specs.Table.{names_max}
use Rattle.names.specs.Table as names
use Rattle.names.specs.Calls.{used_of}
use Rattle.units.specs.Unit.{places_max, Term, formed}
use Rattle.units.specs.Calls.{terms_of, product_answer, unitless_answer}
use Rattle.units.specs.declared.Unit.{Unit}
use Rattle.pairs.specs.declared.Factor.{Factor}
use Rattle.pairs.specs.Calls.{table_broken}
use Rattle.sums.specs.Sums.{group_sums, convertible, sums_in, sums_of}
use Rattle.sums.specs.Calls.{roots_in, or_empty}
use Rattle.sums.specs.declared.Sums.{Sums}
use Rattle.text.specs.Text.{unit_text}
use Rattle.text.specs.Calls.{text_max}
use Rattle.values.specs.Value.{is_none, readable, raw_of, unit_max, unit_bytes, value_verdict, unit_in, symbols_used}

-- a verdict and a value as one number
abbrev pub packed : Verdict → ℕ → ℕ
packed v n = code_of v * 65536 + n % 65536

-- an answer as one number, by the number of its value: 0 beside a refusal
abbrev pub code_by : {A : Type 0} → (A → ℕ) → Result A Refusal → ℕ
code_by number (Ok a) = packed (Ok tt) (number a)
code_by number (Err r) = packed (Err r) 0

-- the array lent for an answer's bytes, afterwards: the bytes of its value, or as it was where the call is refused
abbrev pub out_after : {A : Type 0} → (A → List ℕ) → Result A Refusal → List ℕ → List ℕ
out_after bytes (Ok a) out = bytes a
out_after bytes (Err r) out = out

-- what a call answers whose value is a number: adding a name, asking for a root, making a type
abbrev pub number_code : Result ℕ Refusal → ℕ
number_code = code_by (λ n. n)

-- 65,535, which is never in use: a name or a factor that a table does not have, and a checked type that is Unknown
abbrev pub absent : ℕ
absent = 65535

-- the number of what is found, or that
abbrev pub found_number : Option ℕ → ℕ
found_number (Some n) = n
found_number None = absent

-- what looking for a name answers
abbrev pub found_code : Result (Option ℕ) Refusal → ℕ
found_code = code_by found_number

-- a name or a text: how many bytes it has, and its bytes
-- a call whose value says nothing more than its bytes
abbrev pub nothing_code : {A : Type 0} → Result A Refusal → ℕ
nothing_code = code_by (λ a. 0)

abbrev pub size_code : {n : ℕ} → Result (Padded n) Refusal → ℕ
size_code = code_by (λ b. b.size)

abbrev pub out_after_bytes : {n : ℕ} → Result (Padded n) Refusal → List ℕ → List ℕ
out_after_bytes = out_after (λ b. b.bytes)

-- an exponent as its sixteen bits
abbrev pub power_code : Result ℤ Refusal → ℕ
power_code = code_by raw_of

-- what a plain question answers: 1 for yes
abbrev pub yes_number : Bool → ℕ
yes_number holds = cond holds 1 0

abbrev pub answer_code : Result Bool Refusal → ℕ
answer_code = code_by yes_number

-- ---- units in bytes

-- a unit that breaks its form, having more symbols than places
abbrev pub broken_unit : Unit
broken_unit = record { count = places_max + 1; symbols = pad places_max 0 []; exponents = pad places_max (pos 0) [] }

abbrev pub or_broken : Option Unit → Unit
or_broken (Some u) = u
or_broken None = broken_unit

-- where no symbol is looked up: the unit that the bytes say; where they say "no unit", or nothing that can be read, one that breaks
-- its form
unfoldable pub unit_or_broken : List ℕ → Unit
unit_or_broken bytes = or_broken (unit_in bytes)

-- unitless or not, of bytes that say a unit or none
unfoldable pub unitless_in : List ℕ → Result Bool Refusal
unitless_in bytes = guarded (value_verdict bytes) (unitless_answer (unit_in bytes))

-- the product or quotient of the units that two slices say
abbrev pub product_in : Bool → List ℕ → List ℕ → Result Unit Refusal
product_in quotient a b = product_answer quotient (unit_or_broken a) (unit_or_broken b)

-- where symbols are looked up: is there a unit in form
abbrev pub unit_formed : Option Unit → Bool
unit_formed None = false
unit_formed (Some u) = formed places_max names_max (terms_of u)

-- do the bytes say one
unfoldable pub unit_formed_in : List ℕ → Bool
unit_formed_in bytes = unit_formed (unit_in bytes)

-- or that there is none
unfoldable pub maybe_formed_in : List ℕ → Bool
maybe_formed_in bytes = is_none bytes || unit_formed_in bytes

-- why a text is refused, if it is: 2 the names page, 3 a symbol that stands in the bytes and is not in use, 5 the unit
unfoldable pub text_verdict_in : List ℕ → List ℕ → Verdict
text_verdict_in page bytes =
    lowest
    ((Broken when not (names.formed page))
    ∷ (Unused when not (symbols_used (count_of page) bytes))
    ∷ (BadUnit when not (unit_formed_in bytes))
    ∷ [])

-- the terms of the unit that the bytes say, "no unit counting as empty"
abbrev pub terms_in : List ℕ → List Term
terms_in bytes = terms_of (or_empty (unit_in bytes))

-- the text of the unit that a slice says
abbrev pub text_in : List ℕ → List ℕ → Result (Padded text_max) Refusal
text_in page bytes = answer_of (text_verdict_in page bytes) (padded text_max (unit_text page (terms_in bytes)))

-- a unit's bytes, and zeros after them
abbrev pub bytes_of_unit : Unit → List ℕ
bytes_of_unit u = pad unit_max 0 (unit_bytes (terms_of u))

-- ---- pairs and group sums

-- the base of a symbol's first factor, if a pair has the symbol
abbrev pub base_number : Option Factor → ℕ
base_number (Some f) = f.base
base_number None = absent

-- what asking for it answers
abbrev pub factor_code : Result (Option Factor) Refusal → ℕ
factor_code = code_by base_number

-- the array lent for a factor's bytes, afterwards: the factor's bytes, or as it was where none is found or the call is refused
abbrev pub out_after_factor : Result (Option Factor) Refusal → List ℕ → List ℕ
out_after_factor (Ok (Some f)) out = big_endian long_bytes f.factor
out_after_factor (Ok None) out = out
out_after_factor (Err r) out = out

-- why two units, or none, are refused: 2 the names or the pairs, 3 a symbol that stands in the bytes and is not in use, 5 a unit
unfoldable pub units_verdict_in : List ℕ → Option (List ℕ) → List ℕ → List ℕ → Verdict
units_verdict_in page names left right =
    lowest
    ((Broken when table_broken page names)
    ∷ (Unused when not (symbols_used (used_of names) left && symbols_used (used_of names) right))
    ∷ (BadUnit when not (maybe_formed_in left && maybe_formed_in right))
    ∷ [])

-- the group sums, over the pairs of a page, of the unit that a slice says, which is judged as if it were given twice
abbrev pub group_sums_in : List ℕ → Option (List ℕ) → List ℕ → Result Sums Refusal
group_sums_in page names bytes =
    answer_of (units_verdict_in page names bytes bytes) (sums_of (group_sums names_max (roots_in page) (terms_in bytes)))

-- group sums in the form of a unit's bytes, and zeros after them
abbrev pub bytes_of_sums : Sums → List ℕ
bytes_of_sums w = pad unit_max 0 (unit_bytes (sums_in w))

-- convertible or not, of bytes that each say a unit or none
abbrev pub convertible_in : List ℕ → Option (List ℕ) → List ℕ → List ℕ → Result Bool Refusal
convertible_in page names left right =
    answer_of (units_verdict_in page names left right) (convertible names_max (roots_in page) (terms_in left) (terms_in right))

-- ---- two units read from bytes

-- the units that two slices say, or none of them, where both can be read
abbrev pub units_in : List ℕ → List ℕ → Option (Option Unit × Option Unit)
units_in left right = cond (readable left && readable right) (Some (unit_in left, unit_in right)) None
