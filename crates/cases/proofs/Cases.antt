-- Every case that document 01 marks * holds of the definitions. Assumes nothing.
use mathlib.Core.Path.{◌≡◌, refl}
use mathlib.Core.Bool.{true}
use Rattle.units.specs.Unit.{formed, in_use as symbols_in_use}
use Rattle.units.specs.Product.{product_of, product_verdict}
use Rattle.units.specs.Calls.{unitless}
use Rattle.groups.specs.Groups.{root_of, parents_of, enter_all, enter, walk, selves}
use Rattle.sums.specs.Sums.{convertible}
use Rattle.pages.specs.Quant.{all_to, any_to, first_to, Every}
use Rattle.pages.specs.Bytes.{eqs, zeros}
use Rattle.pages.specs.Pad.{pad}
use Rattle.kinds.specs.Kinds.{fewest, most, const_matches}
use Rattle.types.specs.Store.{name_bytes, size_at, offset, deepest, depths, depth_in, parts_at, good_at, formed as store_formed}
use Rattle.types.specs.Types.{kind_of, arity, child_of, name_of}
use Rattle.types.specs.Recur.{below, run, cov}
use Rattle.matching.specs.Matching.{smaller, null_or, array_elision, null_array_elision, map_elision, null_map_elision, record_matches, enum_matches, set_matches, handle_matches, flat_matches, wild, plain_matches, any_rule, known_matches, matches, in_use as type_in_use}
use Rattle.bindings.specs.Bindings.{is_bound, with_binding}
use Rattle.unification.specs.Unification.{and_then, pairs_to, all_pairs, generic_unify, is_adopted, unify_rule, unify}
use Rattle.names.specs.Calls.{lent_broken, used_of, is_used}
use Rattle.types.specs.Calls.{store_broken}
use Rattle.pairs.specs.Table.{pairs_in, formed as table_formed}
use Rattle.pairs.specs.Page.{table_in, holds, formed as page_formed}
use Rattle.pairs.specs.Calls.{empty_verdict, empty_page, table_broken}
use Rattle.operators.specs.Operators.{class_of, unit_rule, result_rule, family_of, takes, looks, gives, suits, fits}
use Rattle.operators.specs.Outcome.{passes, not_bools, misfit, plain_binary}
use Rattle.members.specs.Members.{gather, members_of}
use Rattle.members.specs.Trials.{fold_to}
use Rattle.binary.specs.Binary.{binary_rule, binary_by, binary_known, check_binary}
use Rattle.unary.specs.Unary.{failing, unary_errors, check_unary}
use Rattle.answers.specs.Units.{clashes, binary_unit}
use Rattle.answers.specs.Calls.{with_unit, binary_checked, binary_answer, unary_unit, unary_answer, unary_page}
use Rattle.cases.specs.Cases.{store, Holds, cases}

pub every_case_holds : Every Holds cases
unfolding cases product_verdict product_of formed root_of parents_of enter_all enter walk selves convertible all_to
    store matches known_matches plain_matches wild any_rule flat_matches record_matches enum_matches set_matches handle_matches const_matches
    null_map_elision map_elision null_array_elision array_elision null_or smaller cov run below kind_of arity child_of name_of offset size_at name_bytes
    unify unify_rule is_adopted generic_unify all_pairs pairs_to and_then is_bound with_binding first_to pad
    binary_answer store_broken lent_broken used_of store_formed good_at parts_at fewest most depths deepest depth_in eqs zeros any_to
    table_broken page_formed holds table_in table_formed pairs_in type_in_use symbols_in_use empty_verdict empty_page
    binary_checked with_unit passes clashes unitless binary_unit check_binary binary_known binary_by binary_rule
    plain_binary misfit not_bools fits suits looks takes gives family_of class_of unit_rule result_rule
    unary_answer unary_page unary_unit check_unary unary_errors failing fold_to members_of gather is_used
every_case_holds = ((refl, refl), (refl, (refl, (refl, (refl, (refl, (refl, (refl, (refl, (refl, (refl, (refl, (refl, (refl, (refl, (refl, (refl, (refl, ((refl, refl), tt)))))))))))))))))))

-- the types of the rows stand in a store in form, with one name in use
pub store_formed_lem : store_formed store 1 ≡ true
unfolding store_formed store good_at parts_at fewest most offset size_at name_bytes depths deepest depth_in eqs zeros all_to any_to first_to is_used
store_formed_lem = refl
