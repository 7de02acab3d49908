-- Answers that keep their operand's unit, and calls that keep the store: − of a type that is no union (`negation_keeps`), an index
-- (`index_keeps`), and the store that a call leaves where its check leaves it (`store_same`). Assumes nothing.
use Rattle.refusals.specs.Lowest.{guarded, unless_refused}
use Rattle.std.proofs.Common.{IfOk}
use Rattle.units.specs.declared.Unit.{Unit}
use Rattle.std.proofs.Common.{Result, Ok, Err, Option}
use Rattle.refusals.specs.declared.Refusal.{Refusal}
use mathlib.Core.Path.{◌≡◌, refl}
use mathlib.Core.Bool.{true, false}
use mathlib.Core.List.{List}
use Prim.Native.Nat.{ℕ}
use Rattle.refusals.specs.Numbers.{Verdict}
use Rattle.kinds.specs.Kinds.{is_union}
use Rattle.types.specs.Types.{kind_of}
use Rattle.matching.specs.declared.Checked.{Checked}
use Rattle.operators.specs.Operators.{minus}
use Rattle.operators.specs.Outcome.{number_of, passes}
use Rattle.operators.specs.declared.Outcome.{Outcome}
use Rattle.members.specs.Members.{Concluded}
use Rattle.indexing.specs.Indexing.{check_index}
use Rattle.answers.specs.Units.{negation_unit}
use Rattle.answers.specs.Calls.{concluded_by, store_after, unary_unit, unary_checked, index_verdict, index_answer}
use Rattle.answers.specs.declared.CheckedExpr.{CheckedExpr}

-- ---- operators with one operand

-- − that passes has its operand's unit, where the type that it answers is no union
pub negation_unit_lem : (store : List ℕ) (o : Outcome) (u : Option Unit) → passes o ≡ true → is_union (kind_of store (number_of o.checked)) ≡ false
    → unary_unit store minus o u ≡ u
unfolding unary_unit negation_unit
negation_unit_lem store o u p h = rw (p, h) refl

-- and so has the answer
pub negation_keeps : (z : Concluded) (o : Outcome) (u : Option Unit) → z.conclusion ≡ Ok o → passes o ≡ true
    → is_union (kind_of z.store (number_of o.checked)) ≡ false → IfOk (unary_checked z minus u) (λ a. a.unit ≡ u)
negation_keeps z o u e p h = rw e (negation_unit_lem z.store o u p h)

-- ---- indexing

-- a conclusion that is not refused has the unit beside it
pub concluded_unit : (c : Result Outcome Refusal) (u : Option Unit) → IfOk (concluded_by c u) (λ a. a.unit ≡ u)
concluded_unit (Ok o) u = refl
concluded_unit (Err r) u = tt

-- an index that is not refused has its target's unit
pub index_keeps : (page : List ℕ) (names : Option (List ℕ)) (target : CheckedExpr) (key : Checked)
    → IfOk (index_answer page names target key) (λ a. a.unit ≡ target.unit)
unfolding index_answer
index_keeps page names target key = go (index_verdict page names target key)
  where
    c : Result Outcome Refusal
    c = (check_index page key target.checked).conclusion

    go : (v : Verdict) → IfOk (guarded v (concluded_by c target.unit)) (λ a. a.unit ≡ target.unit)
    go (Ok _) = concluded_unit c target.unit
    go (Err r) = tt

-- ---- the store

-- a call leaves the store as it was where its check does
pub store_same : (z : Concluded) (page : List ℕ) → z.store ≡ page → store_after z page ≡ page
store_same z page e = go z.conclusion
  where
    go : (c : Result Outcome Refusal) → unless_refused c z.store page ≡ page
    go (Ok o) = e
    go (Err r) = refl
