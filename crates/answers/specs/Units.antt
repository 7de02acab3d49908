-- Units in answers (document 01, "Answers" and "Units and pairs"; `add_unit_mismatch` and `combine_units` of the source's binary.rs).
use Rattle.std.specs.Prelude.{Bool, true, false, ◌&&◌, not, cond, ℕ, eqb, Ok, Option, Some, None, Result, Err}
use Rattle.names.specs.Table.{names_max}
use Rattle.units.specs.Calls.{terms_of, product_answer, unitless}
use Rattle.refusals.specs.declared.Refusal.{Refusal}
use Rattle.units.specs.declared.Unit.{Unit}
use Rattle.sums.specs.Sums.{convertible}
use Rattle.sums.specs.Calls.{or_empty}
use Rattle.operators.specs.Operators.{unit_rule}
use Rattle.operators.specs.declared.UnitRule.TheVariants.{Adopted, Multiplied, Divided, Ignored, Compared}
use Rattle.operators.specs.declared.UnitRule.{UnitRule}

-- no unit
abbrev pub no_unit : Option Unit
no_unit = None

-- the units of two operands clash: neither is unitless, and by the roots of the groups they are not convertible
unfoldable pub clashes : (ℕ → ℕ) → Option Unit → Option Unit → Bool
clashes root left right =
    not (unitless left) && (not (unitless right) && not (convertible names_max root (terms_of (or_empty left)) (terms_of (or_empty right))))

-- ---- the unit of a binary operator's answer, where its check passes

-- "Sums with one unitless side adopt the other's unit"; two unitless sides have none
unfoldable pub adopted_by : Option Unit → Option Unit → Option Unit
adopted_by left right = cond (unitless left) (cond (unitless right) no_unit right) left

-- a product that has a symbol; one that cancels is no unit
abbrev pub or_none : Unit → Option Unit
or_none u = cond (eqb u.count 0) no_unit (Some u)

-- a product or quotient, no unit counting as empty, or its refusal: 8 and 9
abbrev pub of_product : Result Unit Refusal → Result (Option Unit) Refusal
of_product (Ok u) = Ok (or_none u)
of_product (Err r) = Err r

unfoldable pub combined : Bool → Option Unit → Option Unit → Result (Option Unit) Refusal
combined quotient left right = of_product (product_answer quotient (or_empty left) (or_empty right))

-- by the operator's unit rule; a comparison has no unit
abbrev pub unit_by : UnitRule → Option Unit → Option Unit → Result (Option Unit) Refusal
unit_by Ignored left right = Ok no_unit
unit_by Adopted left right = Ok (adopted_by left right)
unit_by Multiplied left right = combined false left right
unit_by Divided left right = combined true left right
unit_by Compared left right = Ok no_unit

unfoldable pub binary_unit : ℕ → Option Unit → Option Unit → Result (Option Unit) Refusal
binary_unit op left right = unit_by (unit_rule op) left right

-- ---- the unit of a negation's answer: "Unary − on Any(Int, Float) with mm: that union, no unit"; any other type keeps its operand's

unfoldable pub negation_unit : Bool → Option Unit → Option Unit
negation_unit union unit = cond union no_unit unit
