-- The cases that document 01 marks *, as rows of one list. Each module adds its kinds of row and its rows.
use Rattle.refusals.specs.declared.Refusal.{Refusal}
use Rattle.std.specs.Prelude.{◌≡◌, Bool, true, false, List, [], ◌∷◌, ℕ, pos, negsuc, length, replicate, Result, Ok, Some, None}
use Rattle.pages.specs.Pad.{pad}
use Rattle.names.specs.Table.{names_max}
use Rattle.matching.specs.Matching.{matches}
use Rattle.matching.specs.declared.Checked.TheVariants.{Known, Unknown}
use Rattle.bindings.specs.Bindings.{bindings_max}
use Rattle.bindings.specs.declared.Bindings.{Bindings}
use Rattle.unification.specs.Unification.{unified, unify}
use Rattle.units.specs.Unit.{places_max, Term, term}
use Rattle.units.specs.Product.{product_of, product_verdict}
use Rattle.units.specs.Calls.{unit_of}
use Rattle.groups.specs.Groups.{Pair, pair, root_of}
use Rattle.pairs.specs.Page.{size_of}
use Rattle.pairs.specs.Calls.{empty_page}
use Rattle.sums.specs.Sums.{convertible}
use Rattle.operators.specs.Operators.{minus}
use Rattle.operators.specs.Outcome.{no_error, one_error, two_errors, outcome}
use Rattle.operators.specs.declared.Reason.TheVariants.{BadUnits, LeftNotBool, RightNotBool, NoMember}
use Rattle.operators.specs.declared.Outcome.{Outcome}
use Rattle.answers.specs.Units.{no_unit}
use Rattle.answers.specs.Calls.{answered, binary_answer, unary_answer, unary_page}
use Rattle.answers.specs.declared.CheckedExpr.{CheckedExpr}

-- ---- types: those of one store, and others that are always there

-- a store of the types 19 to 31, one to a line behind the count
unfoldable pub store : List ℕ
store =
    0 ∷ 13
    ∷ 1 ∷ 19 ∷ 0 ∷ 1  -- Array Int
    ∷ 1 ∷ 20 ∷ 0 ∷ 5  -- CArray Float
    ∷ 1 ∷ 19 ∷ 0 ∷ 5  -- Array Float
    ∷ 0 ∷ 27  -- Tuple()
    ∷ 1 ∷ 27 ∷ 0 ∷ 1  -- Tuple(Int)
    ∷ 2 ∷ 27 ∷ 0 ∷ 0 ∷ 0 ∷ 1  -- Tuple(Null, Int)
    ∷ 2 ∷ 27 ∷ 0 ∷ 1 ∷ 0 ∷ 1  -- Tuple(Int, Int)
    ∷ 0 ∷ 37 ∷ 0  -- A, the Generic with name 0
    ∷ 2 ∷ 27 ∷ 0 ∷ 26 ∷ 0 ∷ 7  -- Tuple(A, Bool)
    ∷ 2 ∷ 27 ∷ 0 ∷ 1 ∷ 0 ∷ 5  -- Tuple(Int, Float)
    ∷ 1 ∷ 19 ∷ 0 ∷ 26  -- Array A
    ∷ 1 ∷ 19 ∷ 0 ∷ 0  -- Array Null
    ∷ 0 ∷ 29  -- Any()
    ∷ []

abbrev null : ℕ
null = 0

abbrev int : ℕ
int = 1

abbrev const_int : ℕ
const_int = 2

abbrev uint : ℕ
uint = 3

abbrev bool : ℕ
bool = 7

abbrev array_int : ℕ
array_int = 19

abbrev const_array_float : ℕ
const_array_float = 20

abbrev array_float : ℕ
array_float = 21

abbrev tuple : ℕ
tuple = 22

abbrev tuple_int : ℕ
tuple_int = 23

abbrev tuple_null_int : ℕ
tuple_null_int = 24

abbrev tuple_int_int : ℕ
tuple_int_int = 25

abbrev tuple_a_bool : ℕ
tuple_a_bool = 27

abbrev tuple_int_float : ℕ
tuple_int_float = 28

abbrev array_a : ℕ
array_a = 29

abbrev array_null : ℕ
array_null = 30

abbrev any_of_none : ℕ
any_of_none = 31

-- the name of A
abbrev name_a : ℕ
name_a = 0

-- these names bound to these types, in order, and zeros after them
abbrev bound : List ℕ → List ℕ → Bindings
bound names types = record { count = length names; names = pad bindings_max 0 names; types = pad bindings_max 0 types }

-- ---- operands and tables

-- a type with a symbol as its unit
abbrev in_unit : ℕ → ℕ → CheckedExpr
in_unit t s = record { checked = Known t; unit = Some (unit_of (term s (pos 1) ∷ [])) }

-- a type without a unit
abbrev plain : ℕ → CheckedExpr
plain t = record { checked = Known t; unit = no_unit }

-- a table without pairs
abbrev no_pairs : List ℕ
no_pairs = empty_page (replicate (size_of 0) 0)

-- ---- what rows there are

pub data Case : Type 0 where
  -- the product of two units or, with true, their quotient is this unit, and is not refused
  product : Bool → List Term → List Term → List Term → Case
  -- a symbol's root, of a list of pairs inserted into a table without pairs
  root : List Pair → ℕ → ℕ → Case
  -- two units are convertible by such a list or, with false, are not
  converts : Bool → List Pair → List Term → List Term → Case
  -- the first type, actual, matches the second, expected, or, with false, does not
  against : Bool → ℕ → ℕ → Case
  -- the first type, expected, unified with the second, actual, comes to this answer and, of no bindings, to these
  unifies : Result Bool Refusal → ℕ → ℕ → Bindings → Case
  -- the operator with this code, without names lent and by no pair, answers this type and these errors for two operands, and no unit
  binary : ℕ → CheckedExpr → CheckedExpr → Outcome → Case
  -- and for one operand, entering nothing
  unary : ℕ → CheckedExpr → Outcome → Case

-- what a row says
abbrev pub Holds : Case → Type 0
Holds (product quotient xs ys zs) =
    (product_verdict places_max names_max quotient xs ys ≡ Ok tt) × (product_of names_max quotient xs ys ≡ zs)
Holds (root ps s r) = root_of names_max ps s ≡ r
Holds (converts yes! ps xs ys) = convertible names_max (root_of names_max ps) xs ys ≡ yes!
Holds (against yes! a b) = matches store (Known a) (Known b) ≡ yes!
Holds (unifies r e a b) = unify store e a (bound [] []) ≡ unified r b
Holds (binary op x y o) = binary_answer store None no_pairs op x y ≡ Ok (answered o no_unit)
Holds (unary op x o) = (unary_answer store None op x ≡ Ok (answered o no_unit)) × (unary_page store None op x ≡ store)

-- ---- symbols

abbrev metre : ℕ
metre = 0

abbrev second : ℕ
second = 1

abbrev inch : ℕ
inch = 2

abbrev millimetre : ℕ
millimetre = 3

-- ---- operators

abbrev less : ℕ
less = 5

abbrev equals : ℕ
equals = 9

abbrev and : ℕ
and = 11

-- ---- the rows

-- every case marked *, in the order of document 01 within a module
unfoldable pub cases : List Case
cases =
    -- "m/s times s is m" ("Units and pairs")
    product false (term metre (pos 1) ∷ term second (negsuc 0) ∷ []) (term second (pos 1) ∷ []) (term metre (pos 1) ∷ [])
    -- "Pair (in, mm): in is the root, in and mm convert; in and mm² do not"
    ∷ root (pair inch millimetre ∷ []) inch inch
    ∷ root (pair inch millimetre ∷ []) millimetre inch
    ∷ converts true (pair inch millimetre ∷ []) (term inch (pos 1) ∷ []) (term millimetre (pos 1) ∷ [])
    ∷ converts false (pair inch millimetre ∷ []) (term inch (pos 1) ∷ []) (term millimetre (pos 2) ∷ [])
    -- "Null against Int matches, Int against Null not" ("Types")
    ∷ against true null int
    ∷ against false int null
    -- "CInt against Int yes, reversed no"
    ∷ against true const_int int
    ∷ against false int const_int
    -- "Array Int against CArray Float yes, against Array Float no"
    ∷ against true array_int const_array_float
    ∷ against false array_int array_float
    -- "Tuple() against Tuple(Int) yes"
    ∷ against true tuple tuple_int
    -- "Tuple(Null, Int) against Tuple(Int, Int) no"
    ∷ against false tuple_null_int tuple_int_int
    -- "Unify Tuple(A, Bool) with Tuple(Int, Float), A a Generic: no, yet A is bound to Int"
    ∷ unifies (Ok false) tuple_a_bool tuple_int_float (bound (name_a ∷ []) (int ∷ []))
    -- "Array A with Array Null: yes, A unbound"
    ∷ unifies (Ok true) array_a array_null (bound [] [])
    -- "UInt mm < UInt s: no error; == : reason 2, still Bool" ("Answers")
    ∷ binary less (in_unit uint millimetre) (in_unit uint second) (outcome (Known bool) no_error)
    ∷ binary equals (in_unit uint millimetre) (in_unit uint second) (outcome (Known bool) (one_error BadUnits))
    -- "Int and Int under `and`: reasons 3, 4, Bool"
    ∷ binary and (plain int) (plain int) (outcome (Known bool) (two_errors LeftNotBool RightNotBool))
    -- "Unary − on Any(): reason 8"
    ∷ unary minus (plain any_of_none) (outcome Unknown (one_error NoMember))
    ∷ []
