-- Each row of operators and indexing is what the definitions compute. Assumes nothing.
use Rattle.units.specs.declared.Unit.{Unit}
use Rattle.std.proofs.Common.{Err, Option, Some}
use mathlib.Core.Path.{refl}
use mathlib.Core.List.{[], ◌∷◌}
use Prim.Native.Nat.{ℕ}
use lib.IntN.{ℤ, pos}
use Rattle.refusals.specs.declared.Refusal.TheVariants.{Exponent}
use Rattle.pages.specs.Quant.{all_to, any_to, first_to}
use Rattle.pages.specs.Bytes.{eqs, zeros, words}
use Rattle.pages.specs.Pad.{pad}
use Rattle.names.specs.Table.{digit, name_byte, well_named, offset as name_offset, name_at, named, good_at as good_name_at, formed as names_formed}
use Rattle.names.specs.Calls.{lent_broken, used_of, is_used}
use Rattle.kinds.specs.Kinds.{fewest, most}
use Rattle.types.specs.Store.{size_at, offset, deepest, depths, depth_in, parts_at, good_at, formed as store_formed}
use Rattle.types.specs.Types.{kind_of, arity, child_of}
use Rattle.types.specs.Recur.{below, run, cov}
use Rattle.types.specs.Making.{entry_of, is_made, enter_verdict, enter_answer, enter_page}
use Rattle.types.specs.Calls.{store_broken}
use Rattle.matching.specs.Matching.{in_use as type_in_use}
use Rattle.matching.specs.declared.Checked.TheVariants.{Known, Unknown}
use Rattle.units.specs.Unit.{term, formed, in_use as symbols_in_use}
use Rattle.units.specs.Product.{product_of, product_verdict}
use Rattle.units.specs.Calls.{unit_of, product_answer, unitless}
use Rattle.groups.specs.Groups.{root_of, parents_of, enter_all, enter, walk, selves}
use Rattle.pairs.specs.Table.{pairs_in, formed as table_formed, with_pair}
use Rattle.pairs.specs.Page.{table_in, holds, formed as page_formed, with_table}
use Rattle.pairs.specs.Calls.{empty_verdict, empty_page, table_broken, pair_verdict, page_after}
use Rattle.sums.specs.Sums.{convertible}
use Rattle.operators.specs.Operators.{minus, class_of, unit_rule, result_rule, int, uint, float, family_of, takes, looks, gives, suits, fits, taker_of}
use Rattle.operators.specs.Outcome.{no_error, one_error, some_fail, passes, misfit, plain_binary}
use Rattle.operators.specs.declared.Reason.TheVariants.{BadUnits, NotIndexable}
use Rattle.members.specs.Members.{gather, share_of, members_of, has, merged, union_of}
use Rattle.members.specs.Trials.{fold_to, joined, settled}
use Rattle.binary.specs.Binary.{row_tried, rows_tried, outcome_of, any_rule, binary_rule, binary_by, binary_known, check_binary}
use Rattle.unary.specs.Unary.{pass_rule, unary_passes, failing, unary_errors, one_more, result_next, results_to, together, answer_rule, unary_result, check_unary}
use Rattle.indexing.specs.Indexing.{index_target, check_index}
use Rattle.answers.specs.Units.{no_unit, clashes, adopted_by, combined, binary_unit, negation_unit}
use Rattle.answers.specs.Calls.{with_unit, binary_checked, binary_answer, unary_unit, unary_answer, unary_page, index_answer, index_page}
use Rattle.answers.specs.declared.CheckedExpr.{CheckedExpr}
use Rattle.executed.specs.Rows.{passed, BinaryRow, UnaryRow, IndexRow}

-- a symbol to a power: 0 is m, 1 is s, 2 is mm, 3 is in
abbrev pub power : ℕ → ℤ → Option Unit
power s e = Some (unit_of (term s e ∷ []))

abbrev pub mm : Option Unit
mm = power 2 (pos 1)

abbrev pub inch : Option Unit
inch = power 3 (pos 1)

-- a type with a unit or none
abbrev pub operand : ℕ → Option Unit → CheckedExpr
operand t u = record { checked = Known t; unit = u }

-- the rows: type 19 is Any(Int, Float), 20 Any(Int), 21 Tuple(Int), 22 Array Float; + has code 1, × code 3
pub record Rows : Type 0 where
  pub same_unit : BinaryRow 1 (operand uint mm) (operand uint mm) (passed (Known uint) mm no_error)
  pub adopted : BinaryRow 1 (operand uint no_unit) (operand uint mm) (passed (Known uint) mm no_error)
  pub kept_left : BinaryRow 1 (operand uint mm) (operand uint no_unit) (passed (Known uint) mm no_error)
  pub in_mm : BinaryRow 1 (operand uint inch) (operand uint mm) (passed (Known uint) inch no_error)
  pub mm_in : BinaryRow 1 (operand uint mm) (operand uint inch) (passed (Known uint) mm no_error)
  pub sum : BinaryRow 1 (operand uint mm) (operand uint (power 1 (pos 1))) (passed (Known uint) no_unit (one_error BadUnits))
  pub difference : BinaryRow minus (operand uint mm) (operand uint (power 1 (pos 1))) (passed (Known uint) no_unit (one_error BadUnits))
  pub member : BinaryRow 3 (operand 19 (power 0 (pos 1000))) (operand int (power 0 (pos 1))) (passed Unknown no_unit (some_fail 1 float (Some int)))
  pub limit : BinaryRow 3 (operand 20 (power 0 (pos 1000))) (operand int (power 0 (pos 1))) (Err Exponent)
  pub negated : UnaryRow minus (operand 19 mm) (passed (Known 19) no_unit no_error)
  pub null : IndexRow (operand 0 no_unit) (passed Unknown no_unit no_error)
  pub tuple : IndexRow (operand 21 no_unit) (passed Unknown no_unit no_error)
  pub element : IndexRow (operand 22 mm) (passed (Known float) mm no_error)
  pub kept : IndexRow (operand int mm) (passed Unknown mm (one_error NotIndexable))

pub rows : Rows
unfolding binary_answer store_broken lent_broken used_of names_formed good_name_at named name_at name_offset well_named name_byte digit
    store_formed good_at parts_at fewest most offset size_at depths deepest depth_in eqs zeros all_to any_to first_to
    table_broken page_formed holds table_in table_formed pairs_in empty_verdict empty_page root_of parents_of enter_all enter walk selves pad
    page_after pair_verdict with_table with_pair
    type_in_use symbols_in_use formed kind_of arity child_of cov run below
    binary_checked with_unit passes clashes unitless convertible binary_unit adopted_by combined product_answer product_verdict product_of
    check_binary binary_known binary_by binary_rule any_rule outcome_of rows_tried row_tried fold_to joined settled merged has
    plain_binary misfit fits suits looks takes gives family_of class_of unit_rule result_rule members_of share_of gather
    unary_answer unary_page unary_unit negation_unit check_unary unary_errors failing unary_passes pass_rule taker_of
    unary_result answer_rule together results_to result_next one_more union_of enter_answer enter_page enter_verdict is_made entry_of words is_used
    index_answer index_page check_index index_target
rows = record {
  same_unit = refl;
  adopted = refl;
  kept_left = refl;
  in_mm = refl;
  mm_in = refl;
  sum = refl;
  difference = refl;
  member = refl;
  limit = refl;
  negated = (refl, refl);
  null = (refl, refl);
  tuple = (refl, refl);
  element = (refl, refl);
  kept = (refl, refl);
}
