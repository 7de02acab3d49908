-- What a node's answer says of its operands, where it is a Known type without an error: they are Known types, and its unit follows
-- from theirs. For − of one operand (`negation_is`), an index (`index_is`), a sum or difference (`sum_sides`), and a product or
-- quotient (`product_sums`). Assumes nothing.
use Rattle.std.proofs.Common.{Result, Ok, Err, Option}
use mathlib.Core.Path.{◌≡◌, refl, sym, ap, ◌∙◌}
use mathlib.Core.Logic.{inl, inr}
use mathlib.Core.Bool.{Bool, true, false, cond}
use mathlib.Core.List.{List, []}
use Prim.Native.Nat.{ℕ, ◌<◌}
use native.Mathlib.Omega.{arith}
use Rattle.refusals.specs.declared.Refusal.{Refusal}
use Rattle.names.specs.Table.{names_max}
use Rattle.kinds.specs.Kinds.{is_union}
use Rattle.types.specs.Store.{Formed}
use Rattle.types.specs.Types.{kind_of}
use Rattle.matching.specs.Matching.{in_use}
use Rattle.matching.specs.declared.Checked.{Checked}
use Rattle.matching.specs.declared.Checked.TheVariants.{Known}
use Rattle.units.specs.Unit.{places_max}
use Rattle.units.specs.Product.{combine}
use Rattle.units.specs.Calls.{unitless}
use Rattle.units.specs.declared.Unit.{Unit}
use Rattle.units.proofs.Form.{formed_ordered}
use Rattle.sums.specs.Sums.{sum_at}
use Rattle.sums.proofs.Convert.{convertible_each}
use Rattle.sums.proofs.Product.{product_sum}
use Rattle.operators.specs.Operators.{minus, unit_rule}
use Rattle.operators.specs.declared.UnitRule.TheVariants.{Adopted}
use Rattle.operators.specs.Outcome.{number_of, passes, count_of}
use Rattle.operators.specs.declared.Outcome.{Outcome}
use Rattle.members.specs.Members.{Concluded}
use Rattle.unary.specs.Unary.{check_unary}
use Rattle.unary.proofs.Operands.{operand_known}
use Rattle.indexing.specs.Indexing.{check_index}
use Rattle.indexing.proofs.Operands.{target_known}
use Rattle.binary.specs.Binary.{check_binary}
use Rattle.binary.proofs.Operands.{both_known}
use Rattle.answers.specs.Units.{no_unit, clashes, binary_unit}
use Rattle.answers.specs.Calls.{answered, beside, with_unit, binary_checked, concluded_by, store_after, unary_unit, unary_concluded, unary_checked}
use Rattle.answers.specs.declared.CheckedExpr.{CheckedExpr}
use Rattle.answers.specs.declared.Answered.{Answered}
use Rattle.answers.proofs.Keeping.{negation_unit_lem}
use Rattle.answers.proofs.Products.{rule_of, product_terms, sum_none}
use Rattle.answers.proofs.Proper.{Proper}
use Rattle.answers.proofs.Sums.{checked_agrees, checked_keeps}
use Rattle.routes.specs.Routes.{Adds, times, over, value_terms}
use Rattle.routes.proofs.Totals.{unitless_terms}

-- ---- the unit rules

pub sum_adopts : (op : ℕ) → Adds op → unit_rule op ≡ Adopted
unfolding unit_rule
sum_adopts op (inl e) = rw e refl
sum_adopts op (inr e) = rw e refl

pub times_rule : unit_rule times ≡ rule_of false
unfolding unit_rule
times_rule = refl

pub over_rule : unit_rule over ≡ rule_of true
unfolding unit_rule
over_rule = refl

-- an outcome that answers a Known type without an error passes
known_passes : (o : Outcome) (t : ℕ) → o.checked ≡ Known t → count_of o.errors ≡ 0 → passes o ≡ true
unfolding passes
known_passes o t k c = rw (k, c) refl

inside : {x y : Answered} → ◌≡◌ {A = Result Answered Refusal} (Ok x) (Ok y) → x ≡ y
inside e = cc

-- ---- operators with one operand, and indexing

-- the outcome behind an answer, and its unit
record Behind (z : Concluded) (op : ℕ) (u : Option Unit) (a : Answered) : Type 0 where
  pub outcome : Outcome
  pub ends : z.conclusion ≡ Ok outcome
  pub is : answered outcome (unary_unit z.store op outcome u) ≡ a

unary_behind : (z : Concluded) (op : ℕ) (u : Option Unit) (a : Answered) → unary_checked z op u ≡ Ok a → Behind z op u a
unary_behind z op u a given = go z.conclusion refl given
  where
    go : (c : Result Outcome Refusal) → z.conclusion ≡ c → unary_concluded c z.store op u ≡ Ok a → Behind z op u a
    go (Ok o) e h = record { outcome = o; ends = e; is = inside h }
    go (Err r) e h = absurd (let y : ◌≡◌ {A = ℕ} 0 1 = cc in omega arith)

module _ (page : List ℕ) (a : Answered) (t : ℕ) (known : a.checked ≡ Known t) where
  -- − has a Known operand, and its unit where the type that it answers is no union in the store that it leaves
  pub negation_is : count_of a.errors ≡ 0 → (x : Checked) (u : Option Unit) → unary_checked (check_unary page minus x) minus u ≡ Ok a
      → is_union (kind_of (store_after (check_unary page minus x) page) t) ≡ false → ((s : ℕ) × (x ≡ Known s)) × (a.unit ≡ u)
  negation_is clean x u given plain =
      let z = check_unary page minus x in
      let b = unary_behind z minus u a given in
      let o = b.outcome in
      let k : o.checked ≡ Known t = ap (λ (y : Answered). y.checked) b.is ∙ known in
      let c : count_of o.errors ≡ 0 = ap (λ (y : Answered). count_of y.errors) b.is ∙ clean in
      let p = known_passes o t k c in
      let h : is_union (kind_of z.store (number_of o.checked)) ≡ false = rw k (rw (b.ends) at plain) in
      (operand_known page minus (omega arith) x o b.ends t k, sym (ap (λ (y : Answered). y.unit) b.is) ∙ negation_unit_lem z.store o u p h)

  -- an index has a Known target, and its unit
  pub index_is : (key x : Checked) (u : Option Unit) → concluded_by (check_index page key x).conclusion u ≡ Ok a
      → ((s : ℕ) × (x ≡ Known s)) × (a.unit ≡ u)
  index_is key x u given = go (check_index page key x).conclusion refl given
    where
      go : (c : Result Outcome Refusal) → (check_index page key x).conclusion ≡ c → concluded_by c u ≡ Ok a → ((s : ℕ) × (x ≡ Known s)) × (a.unit ≡ u)
      go (Ok o) e h =
          let i : answered o u ≡ a = inside h in
          (target_known page key x o e t (ap (λ (y : Answered). y.checked) i ∙ known), sym (ap (λ (y : Answered). y.unit) i))
      go (Err r) e h = absurd (let y : ◌≡◌ {A = ℕ} 0 1 = cc in omega arith)

-- ---- binary operators

module _ (page : List ℕ) (root : ℕ → ℕ) (op : ℕ) (left right : CheckedExpr) (a : Answered)
    (given : binary_checked page root op left right ≡ Ok a) (t : ℕ) (known : a.checked ≡ Known t) (clean : count_of a.errors ≡ 0) where
  -- the check passes
  pub binary_passes : passes (check_binary page op (clashes root left.unit right.unit) left.checked right.checked) ≡ true
  unfolding binary_checked with_unit
  binary_passes = go (passes o) refl given
    where
      o : Outcome
      o = check_binary page op (clashes root left.unit right.unit) left.checked right.checked

      go : (b : Bool) → passes o ≡ b → cond b (beside o (binary_unit op left.unit right.unit)) (Ok (answered o no_unit)) ≡ Ok a → b ≡ true
      go true e h = refl
      go false e h =
          let i : answered o no_unit ≡ a = inside h in
          sym e ∙ known_passes o t (ap (λ (y : Answered). y.checked) i ∙ known) (ap (λ (y : Answered). count_of y.errors) i ∙ clean)

  -- both operands are Known types
  pub operands_known : (l : ℕ) × (r : ℕ) × (left.checked ≡ Known l) × (right.checked ≡ Known r)
  operands_known = both_known page op (clashes root left.unit right.unit) left.checked right.checked binary_passes

  -- a sum or difference whose sides are both unitless or both not so has the sums of either side
  pub sum_sides : Formed page → unit_rule op ≡ Adopted → unitless left.unit ≡ unitless right.unit
      → in_use page left.checked ≡ true → in_use page right.checked ≡ true → (g : ℕ) → g < names_max
      → (sum_at root g (value_terms left.unit) ≡ sum_at root g (value_terms a.unit)) × (sum_at root g (value_terms right.unit) ≡ sum_at root g (value_terms a.unit))
  sum_sides form rule sides u v g l = go (unitless left.unit) refl (sym sides)
    where
      go : (b : Bool) → unitless left.unit ≡ b → unitless right.unit ≡ unitless left.unit
          → (sum_at root g (value_terms left.unit) ≡ sum_at root g (value_terms a.unit)) × (sum_at root g (value_terms right.unit) ≡ sum_at root g (value_terms a.unit))
      go true e same =
          let none : value_terms a.unit ≡ [] = ap value_terms (sum_none page root op left right binary_passes a given rule e (same ∙ e)) in
          (ap (sum_at root g) (unitless_terms left.unit e ∙ sym none), ap (sum_at root g) (unitless_terms right.unit (same ∙ e) ∙ sym none))
      go false e same =
          let r : unitless right.unit ≡ false = same ∙ e in
          let together = checked_agrees page form root op left right rule e r u v a given t known clean in
          let kept : value_terms a.unit ≡ value_terms left.unit = ap value_terms (checked_keeps page form root op left right rule e r u v a given t known together) in
          let own : sum_at root g (value_terms left.unit) ≡ sum_at root g (value_terms a.unit) = ap (sum_at root g) (sym kept) in
          (own, sym (convertible_each names_max root (value_terms left.unit) (value_terms right.unit) together g l) ∙ own)

  -- a product or, with true, a quotient of units in form has the sums of both sides combined
  pub product_sums : (n : ℕ) → Proper n left.unit → Proper n right.unit → (d : Bool) → unit_rule op ≡ rule_of d → (g : ℕ)
      → sum_at root g (value_terms a.unit) ≡ combine d (sum_at root g (value_terms left.unit)) (sum_at root g (value_terms right.unit))
  product_sums n p q d rule g =
      ap (sum_at root g) (product_terms page root op left right binary_passes a given d rule)
      ∙ product_sum names_max d (value_terms left.unit) (value_terms right.unit)
      (formed_ordered places_max names_max (value_terms left.unit) p.form) (formed_ordered places_max names_max (value_terms right.unit) q.form) root g
