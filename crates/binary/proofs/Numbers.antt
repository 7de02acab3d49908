-- A binary check that passes and answers a number is one of + − × /, whose unit rules are adopted, multiplied and divided
-- (`number_rule`); comparisons and logic answer Bool. Assumes nothing.
use mathlib.Core.Path.{◌≡◌, refl, ap, sym, ◌∙◌}
use mathlib.Core.Bool.{Bool, true, false, cond}
use mathlib.Core.Logic.{◌⊎◌, inl, inr}
use mathlib.Core.List.{List}
use Prim.Native.Nat.{ℕ, ◌<◌, ◌≤◌}
use native.Mathlib.Omega.{arith}
use borrow.Author.Tests.{eqb-true, eqb-false, leb-true, le-leb}
use lib.Dec.{eqb, leb}
use Rattle.pages.specs.Bytes.{within}
use Rattle.pages.proofs.Quant.{and_true}
use Rattle.types.specs.Store.{Formed}
use Rattle.types.specs.Types.{types_in}
use Rattle.matching.specs.Matching.{in_use}
use Rattle.matching.specs.declared.Checked.{Checked}
use Rattle.matching.specs.declared.Checked.TheVariants.{Known}
use Rattle.matching.proofs.Matching.{known_in_use}
use Rattle.operators.specs.Operators.{unit_rule, result_rule, is_number, gives}
use Rattle.operators.specs.declared.UnitRule.TheVariants.{Adopted, Multiplied, Divided}
use Rattle.operators.specs.declared.ResultRule.TheVariants.{Nothing, Operands, Truth}
use Rattle.operators.specs.Outcome.{number_of, passes}
use Rattle.operators.specs.declared.Outcome.{Outcome}
use Rattle.binary.specs.Binary.{binary_known, check_binary}
use Rattle.binary.proofs.Rule.{never}
use Rattle.binary.proofs.Families.{standing}
use Rattle.binary.proofs.Settled.{answer_known}
use Rattle.binary.proofs.Operands.{both_known}
use Rattle.operators.specs.declared.ResultRule.{ResultRule}

-- the unit rule of + − × or /: adopted, multiplied or divided
abbrev pub IsArithmetic : ℕ → Type 0
IsArithmetic op = (unit_rule op ≡ Adopted) ⊎ ((unit_rule op ≡ Multiplied) ⊎ (unit_rule op ≡ Divided))

module _ (op : ℕ) where
  -- the operators that answer their operands' family are + − × /
  operands_arithmetic : result_rule op ≡ Operands → IsArithmetic op
  unfolding result_rule unit_rule
  operands_arithmetic h =
      let p = and_true (leb 1 op) (leb op 4) (low (within 1 4 op) refl) in
      go (eqb op 3) refl (eqb op 4) refl p.0 (leb-true op 4 p.1)
    where
      rest : (b : Bool) → cond b Truth Nothing ≡ Operands → ⊥
      rest true e = let z : ◌≡◌ {A = ℕ} 0 1 = cc in omega arith
      rest false e = let z : ◌≡◌ {A = ℕ} 0 1 = cc in omega arith

      low : (b : Bool) → within 1 4 op ≡ b → within 1 4 op ≡ true
      low true e = e
      low false e = absurd (rest (within 5 12 op) (rw e at h))

      go : (a : Bool) → eqb op 3 ≡ a → (b : Bool) → eqb op 4 ≡ b → leb 1 op ≡ true → op ≤ 4 → IsArithmetic op
      go true e b d l m = rw (eqb-true op 3 e) (inr (inl refl))
      go false e true d l m = rw (eqb-true op 4 d) (inr (inr refl))
      go false e false d l m = inl (rw (l, le-leb op 2 (omega (arith, eqb-false op 3 e, eqb-false op 4 d))) refl)

module _ (page : List ℕ) (form : Formed page) (op : ℕ) (clash : Bool) where
  known_number : (l r : ℕ) → l < types_in page → r < types_in page → passes (binary_known page op clash l r) ≡ true
      → (t : ℕ) → (binary_known page op clash l r).checked ≡ Known t → is_number t ≡ true → IsArithmetic op
  unfolding gives
  known_number l r u v h t e n = go (result_rule op) refl
    where
      given : gives op (standing page l) ≡ t
      given = ap number_of (sym (ap (λ (o : Outcome). o.checked) (answer_known page form op clash l r u v h)) ∙ e)

      go : (b : ResultRule) → result_rule op ≡ b → IsArithmetic op
      go Nothing d = absurd (never (sym (rw (← given, d) at n)))
      go Operands d = operands_arithmetic op d
      go Truth d = absurd (never (sym (rw (← given, d) at n)))

  -- a check that passes and answers a number is by an operator whose unit rule is adopted, multiplied or divided
  pub number_rule : (x y : Checked) → in_use page x ≡ true → in_use page y ≡ true → passes (check_binary page op clash x y) ≡ true
      → (t : ℕ) → (check_binary page op clash x y).checked ≡ Known t → is_number t ≡ true → IsArithmetic op
  unfolding check_binary
  number_rule x y u v h t e n = let k = both_known page op clash x y h in go k.0 k.1 k.2 k.3
    where
      go : (l r : ℕ) → x ≡ Known l → y ≡ Known r → IsArithmetic op
      go l r d c =
          known_number l r (known_in_use page l (rw d at u)) (known_in_use page r (rw c at v)) (rw (d, c) at h) t (rw (d, c) at e) n
