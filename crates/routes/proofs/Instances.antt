-- Two instances that meet every hypothesis of the route rule, computed: a table with the pair (in, mm), a second pair being refused since
-- the page has no room for it, and the formulas s / ((mm + in) / s) with s / (ins[k] / s), which are convertible (`convertible_pair`),
-- and with −(s / (in * s / s)), which are not (`inconvertible_pair`). In each a node is shared, and a quotient stands in a quotient. Assumes nothing.
use Rattle.std.specs.Prelude.{replicate, None, Some, Option, Ok}
use mathlib.Core.Path.{◌≡◌, refl, sym, subst}
use mathlib.Core.Logic.{◌↔◌, inl}
use mathlib.Core.Bool.{true, false}
use mathlib.Core.List.{List, [], ◌∷◌, ◌++◌}
use mathlib.Core.List.Memᴰ as Memᴰ
use Prim.Native.Nat.{ℕ}
use native.Mathlib.Omega.{arith}
use lib.IntN.{pos}
use Rattle.pages.specs.Quant.{all_to, any_to, first_to}
use Rattle.pages.specs.Pad.{pad}
use Rattle.pages.specs.Bytes.{eqs, zeros}
use Rattle.names.specs.Table.{names_max}
use Rattle.names.specs.Calls.{lent_broken, used_of, is_used}
use Rattle.types.specs.Store.{Formed, offset, size_at, good_at, parts_at, depths, deepest, depth_in}
use Rattle.kinds.specs.Kinds.{fewest, most}
use Rattle.types.specs.Store.{formed as store_formed}
use Rattle.types.specs.Types.{kind_of, arity, child_of}
use Rattle.types.specs.Recur.{cov, run, below}
use Rattle.matching.specs.Matching.{in_use as type_in_use}
use Rattle.units.specs.Unit.{Term, term, in_use}
use Rattle.units.specs.Unit.{formed as unit_formed}
use Rattle.units.specs.Product.{product_of, product_verdict}
use Rattle.units.specs.Calls.{unit_of, unitless, product_answer}
use Rattle.units.specs.declared.Unit.{Unit}
use Rattle.groups.specs.Groups.{Pair, pair, Within, root_of, walk, parents_of, enter_all, enter, selves}
use Rattle.pairs.specs.Table.{pairs_in, with_pair}
use Rattle.pairs.specs.Table.{formed as table_formed}
use Rattle.pairs.specs.Page.{table_in, holds, formed, with_table}
use Rattle.pairs.specs.Calls.{table_broken, empty_verdict, empty_page, pair_verdict, page_after}
use Rattle.pairs.specs.Runs.{Request, page_after_all, accepted_pairs}
use Rattle.sums.specs.Sums.{convertible, SameSums}
use Rattle.sums.proofs.Convert.{convertible_groups}
use Rattle.operators.specs.Operators.{minus, taker_of, class_of, unit_rule, result_rule, family_of, takes, looks, gives, suits, fits}
use Rattle.operators.specs.Outcome.{plain_binary, plain_unary}
use Rattle.operators.specs.Outcome.{passes as outcome_passes}
use Rattle.binary.specs.Binary.{binary_rule, binary_by, binary_known, check_binary}
use Rattle.unary.specs.Unary.{unary_errors, answer_rule, unary_result, check_unary}
use Rattle.indexing.specs.Indexing.{index_target, check_index}
use Rattle.answers.specs.Units.{negation_unit, clashes, adopted_by, combined, binary_unit}
use Rattle.answers.specs.Calls.{with_unit, binary_checked, unary_unit}
use Rattle.formulas.specs.Nodes.{node_conditions, node_answer, node_store, depth_of, node_verdict, stepped, all_stepped}
use Rattle.formulas.specs.Below.{has_part, passes}
use Rattle.formulas.specs.declared.Written.{Written}
use Rattle.formulas.specs.declared.Written.TheVariants.{Value, Unary, Binary, Index}
use Rattle.routes.specs.Routes.{plus, times, over, value_terms, negated, Route}
use Rattle.routes.specs.Routes.Route.{value, negation, left, product, quotient, target}
use Rattle.routes.specs.Rule.{Formula, Lent, holds_union, Fine, lent_after, called, SameTotals}
use Rattle.routes.proofs.Rule.{route_rule}
use Rattle.routes.proofs.Tested.{fine_tested}

-- ---- the table

-- a page with room for one pair
abbrev pub start : List ℕ
start = empty_page (replicate 268 0)

abbrev request : ℕ → ℕ → ℕ → Request
request s f b = record { names = None; symbol = s; factor = f; base = b }

-- (in, mm) and a pair that is refused
abbrev pub requests : List Request
requests = request 1 25 0 ∷ request 2 1 1 ∷ []

abbrev pub lent : Lent
lent = lent_after start requests None

pub start_formed : formed start names_max ≡ true
unfolding formed holds table_in table_formed all_to pad eqs zeros pairs_in parents_of enter_all enter selves empty_page empty_verdict with_table with_pair page_after pair_verdict table_broken lent_broken used_of is_used walk
start_formed = refl

pub unbroken : table_broken (page_after_all start requests) None ≡ false
unfolding formed holds table_in table_formed all_to pad eqs zeros pairs_in parents_of enter_all enter selves empty_page empty_verdict with_table with_pair page_after pair_verdict table_broken lent_broken used_of is_used walk
unbroken = refl

pub accepted_is : accepted_pairs start requests ≡ pair 1 0 ∷ []
unfolding formed holds table_in table_formed all_to pad eqs zeros pairs_in parents_of enter_all enter selves empty_page empty_verdict with_table with_pair page_after pair_verdict table_broken lent_broken used_of is_used walk
accepted_is = refl

-- ---- the formulas

-- the fixed types, and type 19, an array of Float
abbrev pub store : List ℕ
store = 0 ∷ 1 ∷ 1 ∷ 19 ∷ 0 ∷ 5 ∷ []

pub store_sound : Formed store
unfolding store_formed all_to any_to first_to zeros eqs offset size_at good_at parts_at depths deepest depth_in fewest most
store_sound = record { names = 0; form = refl }

-- a Float of one symbol
abbrev pub of : ℕ → Option Unit
of s = Some (unit_of (term s (pos 1) ∷ []))

abbrev pub float : ℕ → Written
float s = Value 5 (of s)

-- s / ((mm + in) / s)
abbrev pub mixed : Formula
mixed = record { nodes = float 0 ∷ float 1 ∷ float 2 ∷ Binary plus 0 1 ∷ Binary over 3 2 ∷ Binary over 2 4 ∷ []; root = 5 }

-- s / (ins[k] / s), of an array of in
abbrev pub same : Formula
same = record { nodes = Value 19 (of 1) ∷ float 2 ∷ Value 3 None ∷ Index 0 2 ∷ Binary over 3 1 ∷ Binary over 1 4 ∷ []; root = 5 }

-- −(s / (in * s / s))
abbrev pub other : Formula
other = record { nodes = float 1 ∷ float 2 ∷ Binary times 0 1 ∷ Binary over 2 1 ∷ Binary over 1 3 ∷ Unary minus 4 ∷ []; root = 5 }

-- ---- they are as asked: a sum in `mixed` has two sides that convert, an index in `same` an array, a negation in `other` a Float

pub all_fine : Fine lent store mixed × Fine lent store same × Fine lent store other
unfolding formed holds table_in table_formed all_to pad eqs zeros pairs_in parents_of enter_all enter selves empty_page empty_verdict with_table with_pair page_after pair_verdict table_broken lent_broken used_of is_used walk root_of any_to kind_of arity child_of cov run below type_in_use in_use unit_formed product_of product_verdict unitless product_answer convertible class_of unit_rule result_rule family_of takes looks gives suits fits plain_binary outcome_passes binary_rule binary_by binary_known check_binary clashes adopted_by combined binary_unit with_unit binary_checked node_conditions node_answer node_store depth_of node_verdict stepped all_stepped passes has_part holds_union offset size_at check_index index_target check_unary unary_errors plain_unary taker_of unary_result answer_rule unary_unit negation_unit
all_fine = (
  fine_tested lent store mixed store_sound refl refl refl refl refl,
  fine_tested lent store same store_sound refl refl refl refl refl,
  fine_tested lent store other store_sound refl refl refl refl refl,
)

-- ---- routes down them

abbrev pub mixed_terms : List Term
mixed_terms = value_terms (of 2) ++ negated (value_terms (of 0) ++ negated (value_terms (of 2)))

abbrev pub same_terms : List Term
same_terms = value_terms (of 2) ++ negated (value_terms (of 1) ++ negated (value_terms (of 2)))

abbrev pub other_terms : List Term
other_terms = value_terms (of 2) ++ negated ((value_terms (of 1) ++ value_terms (of 2)) ++ negated (value_terms (of 2)))

-- over the side mm of the sum
pub mixed_route : Route mixed.nodes mixed.root mixed_terms
mixed_route =
    let seconds : Route mixed.nodes 2 (value_terms (of 2)) = value {t = 5} (omega arith, refl) in
    quotient {a = 2} {b = 4} (omega arith, refl) seconds
    (quotient {a = 3} {b = 2} (omega arith, refl) (left {op = plus} {a = 0} {b = 1} (omega arith, refl) (inl refl) (value {t = 5} (omega arith, refl))) seconds)

pub same_route : Route same.nodes same.root same_terms
same_route =
    let seconds : Route same.nodes 1 (value_terms (of 2)) = value {t = 5} (omega arith, refl) in
    quotient {a = 1} {b = 4} (omega arith, refl) seconds
    (quotient {a = 3} {b = 1} (omega arith, refl) (target {a = 0} {k = 2} (omega arith, refl) (value {t = 19} (omega arith, refl))) seconds)

pub other_route : Route other.nodes other.root other_terms
other_route =
    let seconds : Route other.nodes 1 (value_terms (of 2)) = value {t = 5} (omega arith, refl) in
    negation {a = 4} (omega arith, refl)
    (quotient {a = 1} {b = 3} (omega arith, refl) seconds
    (quotient {a = 2} {b = 1} (omega arith, refl) (product {a = 0} {b = 1} (omega arith, refl) (value {t = 5} (omega arith, refl)) seconds) seconds))

-- ---- their exponent totals, in the groups of the accepted pairs

one_within : Within names_max (pair 1 0 ∷ [])
unfolding Within
one_within q m = let e = Memᴰ.eq_of_singleton m in rw e (omega arith, omega arith)

-- by the roots that the pair gives
totals : (ys : List Term) → in_use names_max mixed_terms ≡ true → in_use names_max ys ≡ true
    → (convertible names_max (root_of names_max (pair 1 0 ∷ [])) mixed_terms ys ≡ true) ↔ SameTotals start requests mixed_terms ys
totals ys u v =
    subst (λ (ps : List Pair). (convertible names_max (root_of names_max (pair 1 0 ∷ [])) mixed_terms ys ≡ true) ↔ SameSums names_max ps mixed_terms ys)
    (sym accepted_is) (convertible_groups names_max (pair 1 0 ∷ []) one_within mixed_terms ys u v)

same_totals : SameTotals start requests mixed_terms same_terms
unfolding convertible all_to root_of walk parents_of enter_all enter selves pad in_use is_used
same_totals = (totals same_terms refl refl).0 refl

other_totals : ¬ (SameTotals start requests mixed_terms other_terms)
unfolding convertible all_to root_of walk parents_of enter_all enter selves pad in_use is_used
other_totals h = let e : false ≡ true = (totals other_terms refl refl).1 h in absurd cc

-- ---- by the route rule

pub convertible_pair : called lent store mixed store same ≡ Ok true
convertible_pair =
    (route_rule start start_formed requests None unbroken store store mixed same all_fine.0 all_fine.1 mixed_terms same_terms mixed_route same_route).0.1
    same_totals

pub inconvertible_pair : called lent store mixed store other ≡ Ok false
inconvertible_pair =
    (route_rule start start_formed requests None unbroken store store mixed other all_fine.0 all_fine.2 mixed_terms other_terms mixed_route other_route).1.1
    other_totals
