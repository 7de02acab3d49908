-- Each row is what the definitions compute. Assumes nothing.
use mathlib.Core.Path.{refl}
use native.Mathlib.Omega.{arith}
use Rattle.pages.specs.Quant.{all_to, any_to, first_to}
use Rattle.pages.specs.Bytes.{eqs, zeros}
use Rattle.names.specs.Calls.{is_used}
use Rattle.kinds.specs.Kinds.{fewest, most, const_matches}
use Rattle.types.specs.Store.{name_bytes, size_at, offset, deepest, depths, depth_in, parts_at, good_at, formed}
use Rattle.types.specs.Types.{kind_of, arity, child_of}
use Rattle.types.specs.Recur.{run, cov}
use Rattle.matching.specs.Matching.{null_array_elision, array_elision, null_map_elision, map_elision, record_matches, enum_matches, set_matches, handle_matches, flat_matches, wild, plain_matches, any_rule, known_matches}
use Rattle.unification.specs.Unification.{all_pairs, is_adopted, unify_rule, unify}
use Rattle.executed.proofs.expect_types.Goals as goal

pub expect_unified-requires : goal.expect_unified-requires
unfolding formed good_at parts_at fewest most offset size_at depths deepest depth_in eqs zeros all_to any_to first_to
    unify unify_rule is_adopted cov run kind_of child_of
expect_unified-requires c = record { page_value = refl; e_bound = (omega arith, omega arith); unbound_value = refl }

pub expect_unified-requires-2 : goal.expect_unified-requires-2
unfolding formed good_at parts_at fewest most offset size_at depths deepest depth_in eqs zeros all_to any_to first_to
    unify unify_rule cov run kind_of
    known_matches plain_matches wild any_rule null_array_elision array_elision null_map_elision map_elision
    flat_matches const_matches record_matches enum_matches set_matches handle_matches
expect_unified-requires-2 c = record { page_value = refl; e_bound = (omega arith, omega arith); unbound_value = refl }

pub expect_unified-requires-3 : goal.expect_unified-requires-3
unfolding formed good_at parts_at fewest most offset size_at name_bytes depths deepest depth_in eqs zeros all_to any_to first_to
    unify unify_rule all_pairs cov run kind_of arity is_used
expect_unified-requires-3 c = record { page_value = refl; e_bound = (omega arith, omega arith); unbound_value = refl }
