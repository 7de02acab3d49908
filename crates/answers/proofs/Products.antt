-- The unit of a product or quotient that passes: its terms, no unit counting as empty, are `product_of` the operands', the cancelled case
-- included (`product_terms`); and of two unitless sides a sum has no unit (`unitless_none`). Assumes nothing.
use Rattle.operators.specs.declared.Outcome.{Outcome}
use Rattle.answers.specs.declared.Answered.{Answered}
use Rattle.refusals.specs.declared.Refusal.{Refusal}
use Rattle.std.proofs.lemmas.Result.{IfOk-at_ok}
use Rattle.refusals.specs.Lowest.{answer_of}
use Rattle.std.proofs.Common.{Ok, Err, Option, IfOk, Result}
use mathlib.Core.Path.{◌≡◌, refl, sym, ap, ◌∙◌}
use mathlib.Core.Bool.{Bool, true, false, cond}
use mathlib.Core.List.{List}
use Prim.Native.Nat.{ℕ, ◌≤◌}
use native.Mathlib.Omega.{arith}
use lib.Dec.{eqb}
use borrow.Author.Tests.{eqb-true}
use Rattle.refusals.specs.Numbers.{Verdict}
use Rattle.names.specs.Table.{names_max}
use Rattle.units.specs.Unit.{Term, places_max}
use Rattle.units.specs.Product.{product_of, product_verdict}
use Rattle.units.specs.Calls.{terms_of, unit_of, product_answer, unitless}
use Rattle.units.specs.declared.Unit.{Unit}
use Rattle.units.proofs.Held.{terms_unit}
use Rattle.units.proofs.Calls.{result_few}
use Rattle.sums.specs.Calls.{or_empty}
use Rattle.operators.specs.Operators.{unit_rule}
use Rattle.operators.specs.declared.UnitRule.TheVariants.{Adopted, Multiplied, Divided}
use Rattle.operators.specs.Outcome.{passes}
use Rattle.binary.specs.Binary.{check_binary}
use Rattle.answers.specs.Units.{no_unit, clashes, adopted_by, or_none, combined, binary_unit, of_product}
use Rattle.answers.specs.Calls.{answered, with_unit, binary_checked, beside}
use Rattle.answers.specs.declared.CheckedExpr.{CheckedExpr}
use Rattle.operators.specs.declared.UnitRule.{UnitRule}

-- of two sides without a unit a sum has none
pub unitless_none : (left right : Option Unit) → unitless left ≡ true → unitless right ≡ true → adopted_by left right ≡ no_unit
unfolding adopted_by
unitless_none left right l r = rw (l, r) refl

-- where the cancelled product stands for no unit, its terms are the empty unit's
or_none_lem : (u : Unit) → terms_of (or_empty (or_none u)) ≡ terms_of u
or_none_lem u = go (eqb u.count 0) refl
  where
    go : (b : Bool) → eqb u.count 0 ≡ b → terms_of (or_empty (or_none u)) ≡ terms_of u
    go true e = let n = eqb-true u.count 0 e in rw (e, n) refl
    go false e = rw e refl

-- what a product that is no refusal gives has the terms of the product
combined_terms : (d : Bool) (left right : Option Unit)
    → IfOk (combined d left right) (λ m. terms_of (or_empty m) ≡ product_of names_max d (terms_of (or_empty left)) (terms_of (or_empty right)))
unfolding combined product_answer
combined_terms d left right =
    go (product_verdict places_max names_max d (terms_of (or_empty left)) (terms_of (or_empty right))) (result_few d (or_empty left) (or_empty right))
  where
    l : List Term
    l = product_of names_max d (terms_of (or_empty left)) (terms_of (or_empty right))

    go : (v : Verdict) → IfOk (answer_of v (unit_of l)) (λ u. u.count ≤ places_max)
        → IfOk (of_product (answer_of v (unit_of l))) (λ m. terms_of (or_empty m) ≡ l)
    go (Ok _) few = or_none_lem (unit_of l) ∙ terms_unit l few
    go (Err r) few = tt

-- the rule of a product or, with true, of a quotient
abbrev pub rule_of : Bool → UnitRule
rule_of d = cond d Divided Multiplied

by_rule : (op : ℕ) (d : Bool) → unit_rule op ≡ rule_of d → (left right : Option Unit) → binary_unit op left right ≡ combined d left right
unfolding binary_unit
by_rule op true e left right = rw e refl
by_rule op false e left right = rw e refl

module _ (page : List ℕ) (root : ℕ → ℕ) (op : ℕ) (left right : CheckedExpr)
    (passed : passes (check_binary page op (clashes root left.unit right.unit) left.checked right.checked) ≡ true)
    (a : Answered) (given : binary_checked page root op left right ≡ Ok a) where
  -- an answer that is no refusal has the unit of the operator's rule
  pub unit_by_rule : binary_unit op left.unit right.unit ≡ Ok a.unit
  unfolding binary_checked with_unit
  unit_by_rule = go (binary_unit op left.unit right.unit) (rw passed at given)
    where
      o : Outcome
      o = check_binary page op (clashes root left.unit right.unit) left.checked right.checked

      go : (m : Result (Option Unit) Refusal) → beside o m ≡ Ok a → m ≡ Ok a.unit
      go (Ok u) e = let z : answered o u ≡ a = cc in ap (λ (x : Answered). Ok x.unit) z
      go (Err r) e = absurd (let z : ◌≡◌ {A = ℕ} 0 1 = cc in omega arith)

  pub product_terms : (d : Bool) → unit_rule op ≡ rule_of d
      → terms_of (or_empty a.unit) ≡ product_of names_max d (terms_of (or_empty left.unit)) (terms_of (or_empty right.unit))
  product_terms d e =
      IfOk-at_ok (λ m. terms_of (or_empty m) ≡ product_of names_max d (terms_of (or_empty left.unit)) (terms_of (or_empty right.unit)))
      (sym (by_rule op d e left.unit right.unit) ∙ unit_by_rule) (combined_terms d left.unit right.unit)

  -- a sum of two unitless sides has no unit
  pub sum_none : unit_rule op ≡ Adopted → unitless left.unit ≡ true → unitless right.unit ≡ true → a.unit ≡ no_unit
  unfolding binary_unit
  sum_none e l r =
      let z : ◌≡◌ {A = Result (Option Unit) Refusal} (Ok (adopted_by left.unit right.unit)) (Ok a.unit) = rw e at unit_by_rule in
      let y : adopted_by left.unit right.unit ≡ a.unit = cc in
      sym y ∙ unitless_none left.unit right.unit l r
