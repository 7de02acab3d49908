-- The answers of the entry calls on types as numbers, and what they are lent, for callers in other languages.
use Rattle.std.specs.Prelude.{Option, unwrap_or}
use Rattle.refusals.specs.declared.Refusal.{Refusal}
use Rattle.std.specs.Prelude.{Bool, cond, List, ◌∷◌, ◌++◌, ℕ, ◌+◌, ◌-◌, ◌*◌, ◌%◌, ltb, get_or, take, drop, Result}
use Rattle.refusals.specs.Lowest.{unless_refused}
use Rattle.pages.specs.Bytes.{words, words_at, low_bytes}
use Rattle.pages.specs.Pad.{pad}
use Rattle.types.specs.Store.{child_bytes}
use Rattle.types.specs.Making.{entry_of, entry_max}
use Rattle.types.specs.declared.Shape.{Shape}
use Rattle.matching.specs.declared.Checked.{Checked}
use Rattle.matching.specs.declared.Checked.TheVariants.{Known, Unknown, Function}
use Rattle.bindings.specs.Bindings.{bindings_max}
use Rattle.bindings.specs.declared.Bindings.{Bindings}
use Rattle.unification.specs.declared.Unified.{Unified}
use Rattle.checked.specs.Calls.{unify_answer, unify_arg_answer}
use Rattle.calls.specs.Codes.{code_by, absent}

-- ---- a type that is read

-- how many bytes it takes: its depth, and its entry
abbrev pub type_bytes : ℕ
type_bytes = 1 + entry_max

-- its depth, its entry as a store has it, and zeros after them
unfoldable pub bytes_of_type : Shape → List ℕ
bytes_of_type s = pad type_bytes 0 (s.depth ∷ entry_of s.kind (take s.count s.children) (unwrap_or s.name 0))

-- ---- a checked type, in one number

-- from which number on it is a Function
abbrev pub functions_from : ℕ
functions_from = 65536

-- and from which one none is known
abbrev pub unknown_from : ℕ
unknown_from = 2 * functions_from

unfoldable pub checked_of : ℕ → Checked
checked_of c = cond (ltb c functions_from) (Known c) (cond (ltb c unknown_from) (Function (c - functions_from)) Unknown)

-- an answer has sixteen bits for it, which is enough for 4,096 types: from which number on it is a Function there
abbrev pub answered_functions : ℕ
answered_functions = 32768

-- the number of a type that is known; a Function's, that much higher (the remainder is the number itself for every type that there
-- can be); 65,535 where none is known
abbrev pub number_in : Checked → ℕ
number_in (Known t) = t
number_in (Function t) = answered_functions + t % answered_functions
number_in Unknown = absent

-- what making a checked type const answers
abbrev pub const_code : Result Checked Refusal → ℕ
const_code = code_by number_in

-- ---- bindings, in 97 bytes: the count, the 32 places of the names, those of the types as two bytes each

abbrev pub types_from : ℕ
types_from = 1 + bindings_max

abbrev pub binding_bytes : ℕ
binding_bytes = types_from + child_bytes * bindings_max

-- the bindings that the bytes say; a count above 32 breaks their form
unfoldable pub bindings_in : List ℕ → Bindings
bindings_in bytes = record { count = get_or bytes 0 0; names = take bindings_max (drop 1 bytes); types = words_at bytes types_from bindings_max }

-- the bytes of bindings
unfoldable pub bytes_of_bindings : Bindings → List ℕ
bytes_of_bindings b = b.count ∷ (low_bytes b.names ++ words b.types)

-- the bytes lent for bindings, afterwards: those of the bindings beside a yes or a no, as they were where the call is refused
abbrev pub bindings_after : Result Bool Refusal → Bindings → List ℕ → List ℕ
bindings_after answer b old = unless_refused answer (bytes_of_bindings b) old

-- an actual type against an expected one, beside the bindings that the bytes say
abbrev pub unify_in : List ℕ → Option (List ℕ) → List ℕ → ℕ → ℕ → Unified
unify_in page names bytes e a = unify_answer page names (bindings_in bytes) e a

-- the same of an argument, a checked type in one number
abbrev pub unify_arg_in : List ℕ → Option (List ℕ) → List ℕ → ℕ → ℕ → Unified
unify_arg_in page names bytes e c = unify_arg_answer page names (bindings_in bytes) e (checked_of c)
