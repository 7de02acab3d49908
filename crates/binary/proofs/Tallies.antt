-- The trials as src/ keeps them: one more trial, and what they come to. Assumes nothing.
use Rattle.std.proofs.Common.{Ok}
use Rattle.std.specs.Prelude.{Option, Some, None}
use Rattle.std.specs.Option.{option_or}
use mathlib.Core.Path.{◌≡◌, refl}
use mathlib.Core.Bool.{Bool, true, false, ◌&&◌, cond}
use mathlib.Core.List.{List, [], ◌∷◌, ◌++◌}
use Prim.Native.Nat.{ℕ, ◌≤◌}
use native.Mathlib.Omega.{arith}
use lib.Dec.{eqb}
use lib.ListN.{length}
use Rattle.matching.specs.declared.Checked.TheVariants.{Unknown}
use Rattle.operators.specs.Outcome.{number_of, is_known, passes, count_of}
use Rattle.operators.specs.declared.Failing.{Failing}
use Rattle.operators.specs.declared.Outcome.{Outcome}
use Rattle.members.specs.Members.{has, merged, union_of, concluded}
use Rattle.members.specs.Trials.{failed_at, Tried, tried, joined, settled}
use Rattle.binary.specs.declared.Tally.{Tally}
use Rattle.binary.specs.Tally.{first_in, tally_of, settle_by, settle_tally}

-- the first result stays the first
first_merged : (t : ℕ) (ts : List ℕ) → first_in (merged t ts) ≡ option_or (first_in ts) (Some t)
unfolding merged has
first_merged t [] = refl
first_merged t (u ∷ ts) = go (has t (u ∷ ts))
  where
    go : (b : Bool) → first_in (cond b (u ∷ ts) (u ∷ (ts ++ (t ∷ [])))) ≡ Some u
    go true = refl
    go false = refl

-- ---- one more trial

module _ (x y : ℕ) (o : Outcome) (w : Tally) (q : Tried) (e : w ≡ tally_of q) where
  pub fails_on : passes o ≡ false
      → record { first = w.first; failing = Some (failed_at x (Some y) w.failing) } ≡ tally_of (joined x (Some y) o q)
  unfolding joined
  fails_on h = rw (h, e) refl

  pub passes_on : passes o ≡ true
      → record { first = option_or w.first (Some (number_of o.checked)); failing = w.failing } ≡ tally_of (joined x (Some y) o q)
  unfolding joined
  passes_on h = rw (h, first_merged (number_of o.checked) q.results, e) refl

-- ---- what they come to

-- where the first result is the only one, or some trial fails, nothing enters the store
pub settled_alone : (page ts : List ℕ) (f : Option Failing) → (f ≡ None → length ts ≤ 1)
    → settled page (tried ts f) ≡ concluded (Ok (settle_tally (tally_of (tried ts f)))) page
unfolding settle_tally settled union_of
settled_alone page ts (Some f) one = refl
settled_alone page [] None one = refl
settled_alone page (t ∷ []) None one = refl
settled_alone page (t ∷ u ∷ ts) None one = absurd (omega (arith, one refl))

-- trials pass exactly where they answer a type
pub settle_passes : (w : Tally) → passes (settle_tally w) ≡ is_known (settle_tally w).checked
unfolding settle_tally passes
settle_passes w = go w.failing w.first
  where
    both : Outcome → Type 0
    both o = (is_known o.checked && eqb (count_of o.errors) 0) ≡ is_known o.checked

    go : (p : Option Failing) (f : Option ℕ) → both (settle_by p f)
    go None None = refl
    go None (Some t) = refl
    go (Some p) f = refl

-- and where they answer no type, Unknown
pub settle_unknown : (w : Tally) → is_known (settle_tally w).checked ≡ false → (settle_tally w).checked ≡ Unknown
unfolding settle_tally
settle_unknown w = go w.failing w.first
  where
    go : (p : Option Failing) (f : Option ℕ) → is_known (settle_by p f).checked ≡ false → (settle_by p f).checked ≡ Unknown
    go None None h = refl
    go None (Some t) h = absurd (let z : ◌≡◌ {A = ℕ} 0 1 = cc in omega arith)
    go (Some p) f h = refl
