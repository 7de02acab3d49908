-- The operators and the table of their rules: "Operator codes 1 to 13: + − × / < > <= >= == != and or !" (document 01, "Answers").
use Rattle.std.specs.Prelude.{Bool, true, false, ◌&&◌, ◌||◌, not, cond, ℕ, suc, ◌-◌, ◌%◌, eqb}
use Rattle.pages.specs.Bytes.{within}
use Rattle.operators.specs.declared.Class.{Class}
use Rattle.operators.specs.declared.Class.TheVariants.{NotBinary, Arithmetic, Ordering, Equality, Logic}
use Rattle.operators.specs.declared.UnitRule.{UnitRule}
use Rattle.operators.specs.declared.UnitRule.TheVariants.{Ignored, Adopted, Multiplied, Divided, Compared}
use Rattle.operators.specs.declared.ResultRule.{ResultRule}
use Rattle.operators.specs.declared.ResultRule.TheVariants.{Nothing, Operands, Truth}
use Rattle.operators.specs.declared.Row.{Row}

-- the last code
abbrev pub operator_last : ℕ
operator_last = 13

-- is it the code of an operator
abbrev pub is_operator : ℕ → Bool
is_operator op = within 1 operator_last op

-- the two that have one operand, − among them
abbrev pub minus : ℕ
minus = 2

abbrev pub bang : ℕ
bang = 13

-- ---- the table: of each operator its class, its unit rule and its result rule

-- classes: not binary; + − × /; < > <= >=; == !=; and, or
unfoldable pub class_of : ℕ → Class
class_of op =
    cond (within 1 4 op) Arithmetic (cond (within 5 8 op) Ordering (cond (within 9 10 op) Equality (cond (within 11 12 op) Logic NotBinary)))

-- unit rules: units are not looked at; a unitless side adopts the other's; they are multiplied; divided; compared
unfoldable pub unit_rule : ℕ → UnitRule
unit_rule op =
    cond (within 1 2 op) Adopted (cond (eqb op 3) Multiplied (cond (eqb op 4) Divided (cond (within 5 10 op) Compared Ignored)))

-- result rules: none; the operands' family; Bool
unfoldable pub result_rule : ℕ → ResultRule
result_rule op = cond (within 1 4 op) Operands (cond (within 5 12 op) Truth Nothing)

abbrev pub row_of : ℕ → Row
row_of op = record { class = class_of op; unit = unit_rule op; result = result_rule op }

-- ---- families

-- families that the rules name
abbrev pub int : ℕ
int = 1

abbrev pub uint : ℕ
uint = 3

abbrev pub float : ℕ
float = 5

abbrev pub bool : ℕ
bool = 7

-- no family: Null's code
abbrev pub no_family : ℕ
no_family = 0

-- the plain one of a kind and its const form, of Int to Char, Record and Enum, the kinds that some operator takes
unfoldable pub family_of : ℕ → ℕ
family_of k = cond (within 1 14 k) (k - suc k % 2) (cond (within 32 35 k) (k - k % 2) no_family)

-- "A number has kind 1 to 6, 11 or 12"
abbrev pub is_number : ℕ → Bool
is_number k = within 1 6 k || within 11 12 k

-- ---- binary operators on two families f and g

-- does an operator of a class take two operands of family f
abbrev pub class_takes : Class → ℕ → Bool
class_takes NotBinary f = false
class_takes Arithmetic f = is_number f
class_takes Ordering f = is_number f
class_takes Equality f = not (eqb f no_family)
class_takes Logic f = eqb f bool

unfoldable pub takes : ℕ → ℕ → Bool
takes op f = class_takes (class_of op) f

-- does it look at their units: < > <= >= only at those of Int and Float, == and != at all
abbrev pub is_equality : Class → Bool
is_equality NotBinary = false
is_equality Arithmetic = false
is_equality Ordering = false
is_equality Equality = true
is_equality Logic = false

abbrev pub rule_looks : UnitRule → Class → ℕ → Bool
rule_looks Ignored c f = false
rule_looks Adopted c f = true
rule_looks Multiplied c f = false
rule_looks Divided c f = false
rule_looks Compared c f = is_equality c || (eqb f int || eqb f float)

unfoldable pub looks : ℕ → ℕ → Bool
looks op f = rule_looks (unit_rule op) (class_of op) f

-- the kind of its answer: the operands' family or Bool
abbrev pub rule_gives : ResultRule → ℕ → ℕ
rule_gives Nothing f = bool
rule_gives Operands f = f
rule_gives Truth f = bool

unfoldable pub gives : ℕ → ℕ → ℕ
gives op f = rule_gives (result_rule op) f

-- are the operands of one family, which it takes
unfoldable pub suits : ℕ → ℕ → ℕ → Bool
suits op f g = eqb f g && takes op f

-- no error: they suit, and where it looks at their units those do not clash
unfoldable pub fits : ℕ → Bool → ℕ → ℕ → Bool
fits op clash f g = suits op f g && not (clash && looks op f)

-- ---- operators with one operand

-- which of the two takes an operand of that kind without an error: − Int and Float, ! Bool; 0 for neither
unfoldable pub taker_of : ℕ → ℕ
taker_of k = cond (eqb (family_of k) int || eqb (family_of k) float) minus (cond (eqb (family_of k) bool) bang 0)
