-- What a check comes to: a checked type, and errors in order (document 01, "Answers"); and each operator's own rule.
use Rattle.std.specs.Prelude.{Option, Bool, true, false, ◌&&◌, cond, ℕ, eqb}
use Rattle.std.specs.Option.{unwrap_or}
use Rattle.matching.specs.declared.Checked.{Checked}
use Rattle.matching.specs.declared.Checked.TheVariants.{Known, Unknown, Function}
use Rattle.operators.specs.Operators.{minus, bang, class_of, uint, bool, family_of, gives, suits, fits, taker_of}
use Rattle.operators.specs.declared.Class.{Class}
use Rattle.operators.specs.declared.Class.TheVariants.{NotBinary, Arithmetic, Ordering, Equality, Logic}
use Rattle.operators.specs.declared.Reason.{Reason}
use Rattle.operators.specs.declared.Reason.TheVariants.{BadTypes, BadUnits, LeftNotBool, RightNotBool, UnknownHere, UintNegated, NoMember, BadKey, NotIndexable}
use Rattle.operators.specs.declared.Failing.{Failing}
use Rattle.operators.specs.declared.Errors.{Errors}
use Rattle.operators.specs.declared.Outcome.{Outcome}

-- ---- "Reasons: 1 types, 2 units, 3 left not bool, 4 right not bool, 5 operator unknown here, 6 uint negated, 7 some members fail
-- (with their count and the first in Rust order), 8 no member, 9 map key, 10 not indexable"

abbrev pub reason_number : Reason → ℕ
reason_number BadTypes = 1
reason_number BadUnits = 2
reason_number LeftNotBool = 3
reason_number RightNotBool = 4
reason_number UnknownHere = 5
reason_number UintNegated = 6
reason_number NoMember = 8
reason_number BadKey = 9
reason_number NotIndexable = 10

abbrev pub members_fail : ℕ
members_fail = 7

-- ---- errors in order

abbrev pub no_error : Errors
no_error = Errors.None

abbrev pub one_error : Reason → Errors
one_error reason = Errors.One reason

abbrev pub two_errors : Reason → Reason → Errors
two_errors reason next = Errors.Two reason next

-- how many members fail, and the first of them: one member, or a pair
abbrev pub failures : ℕ → ℕ → Option ℕ → Failing
failures n x y = record { count = n; left = x; right = y }

-- reason 7, with those
abbrev pub some_fail : ℕ → ℕ → Option ℕ → Errors
some_fail n x y = Errors.SomeFail (failures n x y)

-- how many there are
abbrev pub count_of : Errors → ℕ
count_of Errors.None = 0
count_of (Errors.One r) = 1
count_of (Errors.Two r s) = 2
count_of (Errors.SomeFail f) = 1

-- the numbers of their reasons, 0 standing for none
abbrev pub first_of : Errors → ℕ
first_of Errors.None = 0
first_of (Errors.One r) = reason_number r
first_of (Errors.Two r s) = reason_number r
first_of (Errors.SomeFail f) = members_fail

abbrev pub second_of : Errors → ℕ
second_of Errors.None = 0
second_of (Errors.One r) = 0
second_of (Errors.Two r s) = reason_number s
second_of (Errors.SomeFail f) = 0

-- how many members fail, and the first of them, 0 standing for none
abbrev pub failing_of : Errors → ℕ
failing_of Errors.None = 0
failing_of (Errors.One r) = 0
failing_of (Errors.Two r s) = 0
failing_of (Errors.SomeFail f) = f.count

abbrev pub left_of : Errors → ℕ
left_of Errors.None = 0
left_of (Errors.One r) = 0
left_of (Errors.Two r s) = 0
left_of (Errors.SomeFail f) = f.left

abbrev pub right_of : Errors → ℕ
right_of Errors.None = 0
right_of (Errors.One r) = 0
right_of (Errors.Two r s) = 0
right_of (Errors.SomeFail f) = unwrap_or f.right 0

-- ---- outcomes

abbrev pub outcome : Checked → Errors → Outcome
outcome c e = record { checked = c; errors = e }

-- the number of a Known type
abbrev pub number_of : Checked → ℕ
number_of (Known t) = t
number_of Unknown = 0
number_of (Function t) = 0

abbrev pub is_known : Checked → Bool
is_known (Known t) = true
is_known Unknown = false
is_known (Function t) = false

-- a Known type without an error
unfoldable pub passes : Outcome → Bool
passes o = is_known o.checked && eqb (count_of o.errors) 0

-- ---- a binary operator's own rule on operands of families f and g, whose units clash or not

-- `and`, `or`: Bool, with an error for each side that is none
unfoldable pub not_bools : ℕ → ℕ → Errors
not_bools f g = cond (eqb f bool) (one_error RightNotBool) (cond (eqb g bool) (one_error LeftNotBool) (two_errors LeftNotBool RightNotBool))

-- with an error, by the operator's class: for two of one family that it takes, which suit, it answers kind k, and their units clash
abbrev pub class_misfit : Class → Bool → ℕ → Errors → Outcome
class_misfit NotBinary suit k e = outcome Unknown (one_error UnknownHere)
class_misfit Arithmetic suit k e = cond suit (outcome (Known k) (one_error BadUnits)) (outcome Unknown (one_error BadTypes))
class_misfit Ordering suit k e = cond suit (outcome (Known k) (one_error BadUnits)) (outcome Unknown (one_error BadTypes))
class_misfit Equality suit k e = cond suit (outcome (Known k) (one_error BadUnits)) (outcome (Known bool) (one_error BadTypes))
class_misfit Logic suit k e = outcome (Known bool) e

unfoldable pub misfit : ℕ → ℕ → ℕ → Outcome
misfit op f g = class_misfit (class_of op) (suits op f g) (gives op f) (not_bools f g)

unfoldable pub plain_binary : ℕ → Bool → ℕ → ℕ → Outcome
plain_binary op clash f g = cond (fits op clash f g) (outcome (Known (gives op f)) no_error) (misfit op f g)

-- ---- an operator's own rule on one operand of kind k

-- why it fails: an operator that has two operands; an unsigned number negated; the type
unfoldable pub unary_reason : ℕ → ℕ → Reason
unary_reason op k =
    cond (eqb op minus) (cond (eqb (family_of k) uint) UintNegated BadTypes) (cond (eqb op bang) BadTypes UnknownHere)

-- − of Int is Int, of Float Float; ! of Bool is Bool
unfoldable pub plain_unary : ℕ → ℕ → Outcome
plain_unary op k = cond (eqb (taker_of k) op) (outcome (Known (family_of k)) no_error) (outcome Unknown (one_error (unary_reason op k)))
