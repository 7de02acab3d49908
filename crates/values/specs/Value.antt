-- The unit of a value node, in bytes: "symbol count (255 for no unit), then symbol (1 byte) and signed exponent (2) each"
-- (document 01, "Formulas and sheets"). Here bytes of another length break a unit's form; in a sheet that is the length of a body,
-- which the record's reader judges.
use Rattle.units.specs.declared.Unit.{Unit}
use Rattle.std.specs.Prelude.{Bool, ◌&&◌, ◌||◌, not, cond, List, [], ◌∷◌, ◌++◌, ℕ, zero, suc, ◌+◌, ◌-◌, ◌*◌, ◌%◌, ltb, leb, eqb, length, get_or, ℤ, pos, negsuc, Option, Some, None, Result}
use Rattle.refusals.specs.Lowest.{◌when◌, lowest, answer_of}
use Rattle.refusals.specs.declared.Refusal.{Refusal}
use Rattle.refusals.specs.declared.Refusal.TheVariants.{BadUnit}
use Rattle.refusals.specs.Numbers.{Verdict}
use Rattle.pages.specs.Quant.{all_to}
use Rattle.pages.specs.Bytes.{word_at, bytes_of}
use Rattle.names.specs.Calls.{is_used}
use Rattle.units.specs.Unit.{places_max, Term, term}
use Rattle.units.specs.Calls.{unit_of}

-- the count that says that there is no unit
abbrev pub none_count : ℕ
none_count = 255

-- how many bytes a term takes: its symbol, and two for its exponent
abbrev pub term_bytes : ℕ
term_bytes = 3

-- how many bytes a unit takes at most
abbrev pub unit_max : ℕ
unit_max = 1 + places_max * term_bytes

-- ---- reading

-- sixteen bits as a signed number
abbrev pub signed_of : ℕ → ℤ
signed_of raw = cond (ltb raw 32768) (pos raw) (negsuc (65535 - raw))

-- n terms, from index at on
abbrev pub terms_at : List ℕ → ℕ → ℕ → List Term
terms_at bytes zero at = []
terms_at bytes (suc n) at = term (get_or bytes at 0) (signed_of (word_at bytes (at + 1))) ∷ terms_at bytes n (at + term_bytes)

-- a count of 255 and nothing after it
abbrev pub is_none : List ℕ → Bool
is_none bytes = eqb (length bytes) 1 && eqb (get_or bytes 0 0) none_count

-- a count of at most eight, and as many terms
abbrev pub is_some : List ℕ → Bool
is_some bytes = leb 1 (length bytes) && (leb (get_or bytes 0 0) places_max && eqb (length bytes) (1 + term_bytes * get_or bytes 0 0))

-- do the bytes say a unit, in form or not, or none
unfoldable pub readable : List ℕ → Bool
readable bytes = is_none bytes || is_some bytes

-- 5 for bytes that say neither
unfoldable pub value_verdict : List ℕ → Verdict
value_verdict bytes = lowest ((BadUnit when not (readable bytes)) ∷ [])

-- the unit that the bytes say, in form or not, or none
unfoldable pub unit_in : List ℕ → Option Unit
unit_in bytes = cond (is_some bytes) (Some (unit_of (terms_at bytes (get_or bytes 0 0) 1))) None

-- what reading answers
abbrev pub value_in : List ℕ → Result (Option Unit) Refusal
value_in bytes = answer_of (value_verdict bytes) (unit_in bytes)

-- ---- reading from a place that has room for any unit

-- a unit that says so many symbols, with the terms that stand in its places
abbrev pub counted : ℕ → Unit → Unit
counted n u = record { count = n; symbols = u.symbols; exponents = u.exponents }

-- the unit that the bytes say, or none: a count from 9 to 254 makes a unit that breaks its form, with the first eight terms
unfoldable pub unit_said : List ℕ → Option Unit
unit_said bytes =
    cond (eqb (get_or bytes 0 0) none_count) None
    (Some (counted (get_or bytes 0 0) (unit_of (terms_at bytes (cond (ltb (get_or bytes 0 0) places_max) (get_or bytes 0 0) places_max) 1))))

-- ---- looking symbols up: "the fields wholly present judged too" (below the table of refusals)

-- how many symbols the bytes say, whether or not all of them stand there
unfoldable pub said_in : List ℕ → ℕ
said_in bytes = cond (eqb (get_or bytes 0 0) none_count) 0 (get_or bytes 0 0)

-- symbol i is in use, where n names are in use, or its byte is not there
unfoldable pub symbol_used : ℕ → List ℕ → ℕ → Bool
symbol_used n bytes i = leb (length bytes) (1 + term_bytes * i) || is_used n (get_or bytes (1 + term_bytes * i) 0)

-- every symbol that is there is in use: the ninth as well as the first, and one whose exponent is cut off
unfoldable pub symbols_used : ℕ → List ℕ → Bool
symbols_used n bytes = all_to (said_in bytes) (symbol_used n bytes)

-- ---- writing

-- a signed number as sixteen bits
abbrev pub raw_of : ℤ → ℕ
raw_of (pos n) = n
raw_of (negsuc n) = 65535 - n

-- the bytes of terms, one after another; a symbol that a page can number is a byte
abbrev pub bytes_in : List Term → List ℕ
bytes_in [] = []
bytes_in (x ∷ xs) = x.symbol % 256 ∷ (bytes_of (raw_of x.exp) ++ bytes_in xs)

-- the bytes of a unit
abbrev pub unit_bytes : List Term → List ℕ
unit_bytes xs = length xs ∷ bytes_in xs
