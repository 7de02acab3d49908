-- The check of a binary operator on two types (document 01, "Answers"; `check_binary_operator` and `check_binary_any` of the source's
-- binary.rs). The operands' units enter as one test: they clash, or they do not.
use Rattle.refusals.specs.declared.Refusal.{Refusal}
use Rattle.std.specs.Prelude.{Some, Bool, ◌||◌, cond, List, [], ℕ, ◌+◌, Result, Ok, Err}
use Rattle.kinds.specs.Kinds.{is_union}
use Rattle.types.specs.Types.{kind_of}
use Rattle.types.specs.Recur.{cov}
use Rattle.matching.specs.declared.Checked.{Checked}
use Rattle.matching.specs.declared.Checked.TheVariants.{Known, Unknown, Function}
use Rattle.operators.specs.Operators.{no_family, family_of}
use Rattle.operators.specs.Outcome.{no_error, one_error, outcome, plain_binary}
use Rattle.operators.specs.declared.Reason.TheVariants.{NoMember}
use Rattle.operators.specs.declared.Outcome.{Outcome}
use Rattle.members.specs.Members.{size_of, member}
use Rattle.members.specs.Trials.{fold_to, no_failure, Tried, tried, joined, settled}

-- the family of type t
abbrev pub family_in : List ℕ → ℕ → ℕ
family_in page t = family_of (kind_of page t)

-- is one of two types a union
abbrev pub either : List ℕ → ℕ → ℕ → Bool
either page l r = is_union (kind_of page l) || is_union (kind_of page r)

-- ---- `check_binary_any`: every pair of members, the left one's in the outer loop

-- member i of l with the first n members of r, tried by a rule after the trials q
unfoldable pub row_tried : List ℕ → (ℕ → ℕ → Outcome) → ℕ → ℕ → ℕ → ℕ → Tried → Tried
row_tried page rule l r i n q =
    fold_to n (λ j p. joined (member page l i) (Some (member page r j)) (rule (member page l i) (member page r j)) p) q

-- the first m members of l, each with all of r
unfoldable pub rows_tried : List ℕ → (ℕ → ℕ → Outcome) → ℕ → ℕ → ℕ → Tried
rows_tried page rule l r m = fold_to m (λ i q. row_tried page rule l r i (size_of page r) q) (tried [] no_failure)

-- the outcome of a check; one that is refused has none
unfoldable pub outcome_of : Result Outcome Refusal → Outcome
outcome_of (Ok o) = o
outcome_of (Err r) = outcome Unknown no_error

-- what the trials come to. Of several results the Rust makes a union, which would enter the store; in a binary check there is at most
-- one where no pair fails, and with a failure none is looked at, so that the store stays as it is and nothing is refused
-- (`any_settled` in proofs/Binary.antt)
unfoldable pub any_rule : List ℕ → (ℕ → ℕ → Outcome) → ℕ → ℕ → Outcome
any_rule page rule l r = outcome_of (settled page (rows_tried page rule l r (size_of page l))).conclusion

-- ---- `check_binary_operator`: the operator's own rule, where neither type is a union

unfoldable pub binary_rule : List ℕ → ℕ → Bool → (ℕ → ℕ → Outcome) → ℕ → ℕ → Outcome
binary_rule page op clash rule l r =
    cond (either page l r) (any_rule page rule l r) (plain_binary op clash (family_in page l) (family_in page r))

-- by recursion on the sum of the numbers, since of two members the sum is lower
unfoldable pub binary_by : List ℕ → ℕ → Bool → ℕ → ℕ → ℕ → Outcome
binary_by page op clash =
    cov {R = ℕ → ℕ → Outcome} (λ l r. outcome Unknown no_error) (λ n rule. binary_rule page op clash (λ x y. rule (x + y) x y))

-- the check on two Known types
unfoldable pub binary_known : List ℕ → ℕ → Bool → ℕ → ℕ → Outcome
binary_known page op clash l r = binary_by page op clash (l + r) l r

-- and its part for unions
unfoldable pub binary_any : List ℕ → ℕ → Bool → ℕ → ℕ → Outcome
binary_any page op clash l r = any_rule page (binary_known page op clash) l r

-- ---- on checked types: an Unknown operand comes first; "a Function has none" of members, and no family

-- a Function beside type t
unfoldable pub beside_function : List ℕ → ℕ → Outcome → Outcome
beside_function page t plain = cond (is_union (kind_of page t)) (outcome Unknown (one_error NoMember)) plain

unfoldable pub check_binary : List ℕ → ℕ → Bool → Checked → Checked → Outcome
check_binary page op clash Unknown r = outcome Unknown no_error
check_binary page op clash (Known l) Unknown = outcome Unknown no_error
check_binary page op clash (Known l) (Known r) = binary_known page op clash l r
check_binary page op clash (Known l) (Function g) = beside_function page l (plain_binary op clash (family_in page l) no_family)
check_binary page op clash (Function f) Unknown = outcome Unknown no_error
check_binary page op clash (Function f) (Known r) = beside_function page r (plain_binary op clash no_family (family_in page r))
check_binary page op clash (Function f) (Function g) = plain_binary op clash no_family no_family
