-- A check that concludes with Unknown answers no Known type (`unknown_not`). Assumes nothing.
use Rattle.refusals.specs.declared.Refusal.{Refusal}
use Rattle.std.proofs.Common.{Ok, Result}
use mathlib.Core.Path.{◌≡◌, sym, ap, ◌∙◌}
use Prim.Native.Nat.{ℕ}
use native.Mathlib.Omega.{arith}
use Rattle.matching.specs.declared.Checked.{Checked}
use Rattle.matching.specs.declared.Checked.TheVariants.{Known, Unknown}
use Rattle.operators.specs.declared.Outcome.{Outcome}

-- a conclusion that is Unknown is no other that answers a Known type
pub unknown_not : (o p : Outcome) → o.checked ≡ Unknown → ◌≡◌ {A = Result Outcome Refusal} (Ok o) (Ok p) → (t : ℕ) → p.checked ≡ Known t → ⊥
unknown_not o p u e t k =
    let same : o ≡ p = cc in
    let z : ◌≡◌ {A = Checked} Unknown (Known t) = sym u ∙ ap (λ (q : Outcome). q.checked) same ∙ k in
    let w : ◌≡◌ {A = ℕ} 0 1 = cc in
    omega arith
