-- The store that the check of an operator with one operand leaves. Assumes nothing.
use Rattle.std.proofs.Common.{Ok}
use mathlib.Core.Path.{◌≡◌, refl, sym, ◌∙◌}
use mathlib.Core.Bool.{Bool, true, false, cond}
use mathlib.Core.List.{List}
use Prim.Native.Nat.{ℕ, ◌<◌}
use native.Mathlib.Omega.{arith}
use lib.Dec.{eqb}
use Rattle.types.specs.Store.{Formed}
use Rattle.types.specs.Types.{types_in}
use Rattle.matching.specs.Matching.{in_use}
use Rattle.matching.specs.declared.Checked.{Checked}
use Rattle.matching.specs.declared.Checked.TheVariants.{Known, Unknown, Function}
use Rattle.matching.proofs.Matching.{known_in_use, in_use_known}
use Rattle.operators.specs.Operators.{no_family, family_of, taker_of}
use Rattle.operators.specs.Outcome.{no_error, one_error, outcome, unary_reason, plain_unary, count_of}
use Rattle.members.specs.Members.{concluded, conclude}
use Rattle.members.proofs.Kept.{Kept, unknown_used, kept_same, kept_entered}
use Rattle.unary.specs.Unary.{unary_errors, unary_result, check_unary}
use Rattle.unary.proofs.Failing.{errors_passes}
use Rattle.unary.proofs.Answers.{answer_sound}

-- what a Function is answered by
plain_none : (page : List ℕ) (op : ℕ) → in_use page (plain_unary op no_family).checked ≡ true
unfolding plain_unary family_of
plain_none page op = go (eqb (taker_of no_family) op)
  where
    go : (b : Bool)
        → in_use page (cond b (outcome (Known (family_of no_family)) no_error) (outcome Unknown (one_error (unary_reason op no_family)))).checked ≡ true
    go true = in_use_known page (family_of no_family) (omega arith)
    go false = unknown_used page

module _ (page : List ℕ) (f : Formed page) (op : ℕ) (o : 0 < op) where
  pub unary_kept : (x : Checked) → in_use page x ≡ true → Kept page (check_unary page op x)
  unfolding check_unary
  unary_kept Unknown h = kept_same page f (outcome Unknown no_error) (unknown_used page)
  unary_kept (Function g) h = kept_same page f (plain_unary op no_family) (plain_none page op)
  unary_kept (Known t) h = go (eqb (count_of (unary_errors page op t)) 0) refl
    where
      u : t < types_in page
      u = known_in_use page t h

      go : (b : Bool) → eqb (count_of (unary_errors page op t)) 0 ≡ b
          → Kept page (cond b (concluded (conclude (unary_result t page).made) (unary_result t page).store)
          (concluded (Ok (outcome Unknown (unary_errors page op t))) page))
      go true e = kept_entered page (unary_result t page) (answer_sound op o t page (f, u, sym (errors_passes page op t f u) ∙ e))
      go false e = kept_same page f (outcome Unknown (unary_errors page op t)) (unknown_used page)
