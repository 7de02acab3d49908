-- The units of answers are in form, and their symbols in use, where the operands' units are so: of binary operators (`binary_proper`),
-- of − and ! (`unary_proper`) and of indexing (`index_proper`). An operand's unit is so exactly where it is not refused (`operand_proper`,
-- `proper_operand`). Assumes nothing.
use Rattle.std.proofs.Common.{Result, Ok, Err, Option, IfOk, Some}
use Rattle.refusals.specs.declared.Refusal.{Refusal}
use mathlib.Core.Path.{◌≡◌, refl, sym, ap, ◌∙◌}
use mathlib.Core.Bool.{Bool, true, false, ◌&&◌, cond}
use mathlib.Core.List.{List}
use Prim.Native.Nat.{ℕ}
use lib.Dec.{eqb}
use Rattle.pages.proofs.Quant.{and_true}
use Rattle.names.specs.Table.{names_max}
use Rattle.kinds.specs.Kinds.{is_union}
use Rattle.types.specs.Types.{kind_of}
use Rattle.matching.specs.Matching as matching
use Rattle.units.specs.Unit.{places_max, formed, in_use}
use Rattle.units.specs.Calls.{terms_of, present, product_answer, unitless}
use Rattle.units.specs.declared.Unit.{Unit}
use Rattle.units.proofs.Form.{formed_count}
use Rattle.units.proofs.Held.{places_of}
use Rattle.units.proofs.Used.{present_all}
use Rattle.units.proofs.Symbols.{answer_formed, answer_used}
use Rattle.sums.specs.Calls.{or_empty}
use Rattle.operators.specs.Operators.{minus, unit_rule}
use Rattle.operators.specs.declared.UnitRule.TheVariants.{Adopted, Multiplied, Divided, Ignored, Compared}
use Rattle.operators.specs.Outcome.{number_of, passes}
use Rattle.operators.specs.declared.Outcome.{Outcome}
use Rattle.members.specs.Members.{Concluded}
use Rattle.binary.specs.Binary.{check_binary}
use Rattle.answers.specs.Units.{no_unit, clashes, adopted_by, combined, binary_unit, negation_unit, unit_by, of_product}
use Rattle.answers.specs.Calls.{operand_used, operand_formed, answered, with_unit, binary_checked, concluded_by, unary_unit, unary_concluded, unary_checked, beside}
use Rattle.answers.specs.declared.CheckedExpr.{CheckedExpr}
use Rattle.operators.specs.declared.UnitRule.{UnitRule}

-- a unit in form, or none, whose symbols are in use of n numbers
pub record Proper (n : ℕ) (m : Option Unit) : Type 0 where
  pub form : formed places_max names_max (terms_of (or_empty m)) ≡ true
  pub used : in_use n (terms_of (or_empty m)) ≡ true

module _ (n : ℕ) where
  -- no unit is so
  pub none_proper : Proper n no_unit
  unfolding formed in_use
  none_proper = record { form = refl; used = refl }

  -- ---- operands

  module _ (page : List ℕ) (x : CheckedExpr) where
    all_present : operand_formed x ≡ true → present (or_empty x.unit) ≡ terms_of (or_empty x.unit)
    all_present f = present_all (or_empty x.unit) (formed_count places_max names_max (places_of (or_empty x.unit)) f)

    -- of an operand that is not refused
    pub operand_proper : operand_used page n x ≡ true → operand_formed x ≡ true → Proper n x.unit
    operand_proper u f = record {
      form = f;
      used =
          sym (ap (in_use n) (all_present f)) ∙ (and_true (matching.in_use page x.checked) (in_use n (present (or_empty x.unit))) u).1;
    }

    -- and an operand with such a unit is not refused
    pub proper_operand : matching.in_use page x.checked ≡ true → Proper n x.unit → (operand_used page n x ≡ true) × (operand_formed x ≡ true)
    proper_operand u p = (rw u (ap (in_use n) (all_present p.form) ∙ p.used), p.form)

  -- ---- binary operators

  module _ (left right : Option Unit) (l : Proper n left) (r : Proper n right) where
    adopted_proper : Proper n (adopted_by left right)
    unfolding adopted_by
    adopted_proper = go (unitless left) (unitless right)
      where
        go : (a b : Bool) → Proper n (cond a (cond b no_unit right) left)
        go true true = none_proper
        go true false = r
        go false b = l

    combined_proper : (quotient : Bool) → IfOk (combined quotient left right) (λ m. Proper n m)
    unfolding combined
    combined_proper quotient =
        go (product_answer quotient (or_empty left) (or_empty right)) (answer_formed quotient (or_empty left) (or_empty right))
        (answer_used quotient (or_empty left) (or_empty right) n l.used r.used)
      where
        go : (p : Result Unit Refusal) → IfOk p (λ u. formed places_max names_max (terms_of u) ≡ true) → IfOk p (λ u. in_use n (terms_of u) ≡ true)
            → IfOk (of_product p) (λ m. Proper n m)
        go (Err q) f k = tt
        go (Ok u) f k = some (eqb u.count 0)
          where
            some : (b : Bool) → Proper n (cond b no_unit (Some u))
            some true = none_proper
            some false = record { form = f; used = k }

    -- the unit of an operator's rule
    pub rule_proper : (op : ℕ) → IfOk (binary_unit op left right) (λ m. Proper n m)
    unfolding binary_unit
    rule_proper op = go (unit_rule op)
      where
        go : (r : UnitRule) → IfOk (unit_by r left right) (λ m. Proper n m)
        go Ignored = none_proper
        go Adopted = adopted_proper
        go Multiplied = combined_proper false
        go Divided = combined_proper true
        go Compared = none_proper

  -- of a binary check's answer, where both operands' units are in form with symbols in use
  pub binary_proper : (page : List ℕ) (root : ℕ → ℕ) (op : ℕ) (left right : CheckedExpr) → Proper n left.unit → Proper n right.unit
      → IfOk (binary_checked page root op left right) (λ a. Proper n a.unit)
  unfolding binary_checked with_unit
  binary_proper page root op left right l r = go (passes o) (binary_unit op left.unit right.unit) (rule_proper left.unit right.unit l r op)
    where
      o : Outcome
      o = check_binary page op (clashes root left.unit right.unit) left.checked right.checked

      go : (b : Bool) (m : Result (Option Unit) Refusal) → IfOk m (λ u. Proper n u) → IfOk (cond b (beside o m) (Ok (answered o no_unit))) (λ a. Proper n a.unit)
      go true (Ok u) p = p
      go true (Err q) p = tt
      go false m p = none_proper

  -- ---- operators with one operand, and indexing

  module _ (unit : Option Unit) (p : Proper n unit) where
    kept_proper : (store : List ℕ) (op : ℕ) (o : Outcome) → Proper n (unary_unit store op o unit)
    unfolding unary_unit negation_unit
    kept_proper store op o = go (eqb op minus && passes o) (is_union (kind_of store (number_of o.checked)))
      where
        go : (a b : Bool) → Proper n (cond a (cond b no_unit unit) no_unit)
        go true true = none_proper
        go true false = p
        go false b = none_proper

    -- of the answer of − or !
    pub unary_proper : (z : Concluded) (op : ℕ) → IfOk (unary_checked z op unit) (λ a. Proper n a.unit)
    unary_proper z op = go z.conclusion
      where
        go : (c : Result Outcome Refusal) → IfOk (unary_concluded c z.store op unit) (λ a. Proper n a.unit)
        go (Ok o) = kept_proper z.store op o
        go (Err r) = tt

    -- of an index
    pub index_proper : (c : Result Outcome Refusal) → IfOk (concluded_by c unit) (λ a. Proper n a.unit)
    index_proper (Ok o) = p
    index_proper (Err r) = tt
