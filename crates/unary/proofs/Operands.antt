-- The operand of − or !: where a type is answered it is a Known type (`operand_known`), and where its kind is no union the store stays
-- as it was (`plain_store`). Assumes nothing.
use Rattle.std.proofs.Common.{Ok}
use mathlib.Core.Path.{◌≡◌, refl, ap}
use mathlib.Core.Bool.{Bool, true, false, cond}
use mathlib.Core.List.{List}
use Prim.Native.Nat.{ℕ, ◌<◌}
use native.Mathlib.Omega.{arith}
use borrow.Author.Tests.{ne_eqb}
use lib.Dec.{eqb}
use Rattle.kinds.specs.Kinds.{is_union}
use Rattle.types.specs.Types.{kind_of}
use Rattle.matching.specs.declared.Checked.{Checked}
use Rattle.matching.specs.declared.Checked.TheVariants.{Known, Unknown, Function}
use Rattle.operators.specs.Operators.{no_family, family_of, taker_of}
use Rattle.operators.specs.Outcome.{no_error, outcome, plain_unary, count_of}
use Rattle.operators.specs.declared.Outcome.{Outcome}
use Rattle.members.specs.Members.{Entered, concluded, conclude}
use Rattle.members.proofs.Conclusions.{unknown_not}
use Rattle.unary.specs.Unary.{unary_errors, unary_result, check_unary}
use Rattle.unary.proofs.Answers.{answer_plain}

-- no operator takes a Function
function_unknown : (op : ℕ) → 0 < op → (plain_unary op no_family).checked ≡ Unknown
unfolding plain_unary taker_of family_of
function_unknown op o = rw (ne_eqb 0 op (λ e. omega arith)) refl

module _ (page : List ℕ) (op : ℕ) where
  -- a check that answers a type has a Known operand
  pub operand_known : 0 < op → (x : Checked) (o : Outcome) → (check_unary page op x).conclusion ≡ Ok o
      → (t : ℕ) → o.checked ≡ Known t → (a : ℕ) × (x ≡ Known a)
  unfolding check_unary
  operand_known h (Known a) o e t k = (a, refl)
  operand_known h Unknown o e t k = absurd (unknown_not (outcome Unknown no_error) o refl e t k)
  operand_known h (Function f) o e t k = absurd (unknown_not (plain_unary op no_family) o (function_unknown op h) e t k)

  -- the check of a type that is no union leaves the store as it was
  pub plain_store : (a : ℕ) → is_union (kind_of page a) ≡ false → (check_unary page op (Known a)).store ≡ page
  unfolding check_unary
  plain_store a h = go (eqb (count_of (unary_errors page op a)) 0)
    where
      go : (b : Bool)
          → (cond b (concluded (conclude (unary_result a page).made) (unary_result a page).store)
          (concluded (Ok (outcome Unknown (unary_errors page op a))) page)).store ≡ page
      go true = ap (λ (x : Entered). x.store) (answer_plain a page h)
      go false = refl
