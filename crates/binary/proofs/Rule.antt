-- A binary operator's own rule: when it passes, and what it then answers. Assumes nothing.
use Rattle.std.specs.Prelude.{Option}
use mathlib.Core.Path.{◌≡◌, refl, sym, ◌∙◌}
use mathlib.Core.Bool.{Bool, true, false, ◌&&◌, not, cond}
use Prim.Native.Nat.{ℕ}
use native.Mathlib.Omega.{arith}
use borrow.Author.Tests.{eqb-true}
use lib.Dec.{eqb}
use Rattle.pages.proofs.Quant.{and_true}
use Rattle.matching.specs.declared.Checked.TheVariants.{Known}
use Rattle.operators.specs.Operators.{class_of, bool, no_family, takes, looks, gives, suits, fits, class_takes}
use Rattle.operators.specs.declared.Class.TheVariants.{NotBinary, Equality, Logic, Arithmetic, Ordering}
use Rattle.operators.specs.Outcome.{no_error, one_error, two_errors, outcome, passes, not_bools, misfit, plain_binary, class_misfit}
use Rattle.operators.specs.declared.Reason.TheVariants.{LeftNotBool, RightNotBool}
use Rattle.operators.specs.declared.Outcome.{Outcome}
use Rattle.members.specs.Trials.{Tried, joined}
use Rattle.operators.specs.declared.Class.{Class}

pub never : true ≡ false → ⊥
never e = let z : ◌≡◌ {A = ℕ} 0 1 = cc in omega arith

-- o is, as far as trials look, what an operator answers for operands of families f and g
pub record Says (op : ℕ) (clash : Bool) (f g : ℕ) (o : Outcome) : Type 0 where
  pub passing : fits op clash f g ≡ true → o ≡ outcome (Known (gives op f)) no_error
  pub failing : fits op clash f g ≡ false → passes o ≡ false

module _ {op : ℕ} {clash : Bool} {f g : ℕ} {o : Outcome} (s : Says op clash f g o) where
  pub says_passes : passes o ≡ fits op clash f g
  unfolding passes
  says_passes = go (fits op clash f g) refl
    where
      go : (b : Bool) → fits op clash f g ≡ b → passes o ≡ fits op clash f g
      go true e = rw (s.passing e, e) refl
      go false e = s.failing e ∙ sym e

  -- a trial makes no difference between two outcomes of which so much is known
  pub says_joined : {p : Outcome} → Says op clash f g p → (x : ℕ) (y : Option ℕ) (q : Tried) → joined x y o q ≡ joined x y p q
  unfolding joined
  says_joined {p} t x y q = go (fits op clash f g) refl
    where
      go : (b : Bool) → fits op clash f g ≡ b → joined x y o q ≡ joined x y p q
      go true e = rw (s.passing e, t.passing e) refl
      go false e = rw (s.failing e, t.failing e) refl

-- a choice of two that fail fails
either_fails : (b : Bool) (o p : Outcome) → passes o ≡ false → passes p ≡ false → passes (cond b o p) ≡ false
either_fails true o p h k = h
either_fails false o p h k = k

bools_fail : (a b : Bool) → let errors = cond a (one_error RightNotBool) (cond b (one_error LeftNotBool) (two_errors LeftNotBool RightNotBool)) in
    passes (outcome (Known bool) errors) ≡ false
unfolding passes
bools_fail true b = refl
bools_fail false true = refl
bools_fail false false = refl

-- no family is taken by no operator
takes_none : (op : ℕ) → takes op no_family ≡ false
unfolding takes
takes_none op = go (class_of op)
  where
    go : (c : Class) → class_takes c no_family ≡ false
    go NotBinary = refl
    go Arithmetic = refl
    go Ordering = refl
    go Equality = refl
    go Logic = refl

module _ (op : ℕ) (clash : Bool) (f g : ℕ) where
  misfit_fails : passes (misfit op f g) ≡ false
  unfolding misfit passes not_bools
  misfit_fails = go (class_of op)
    where
      go : (c : Class) → passes (class_misfit c (suits op f g) (gives op f) (not_bools f g)) ≡ false
      go NotBinary = refl
      go Arithmetic = either_fails (suits op f g) _ _ refl refl
      go Ordering = either_fails (suits op f g) _ _ refl refl
      go Equality = either_fails (suits op f g) _ _ refl refl
      go Logic = bools_fail (eqb f bool) (eqb g bool)

  pub plain_says : Says op clash f g (plain_binary op clash f g)
  unfolding plain_binary
  plain_says = record { passing = λ h. rw h refl; failing = λ h. rw h misfit_fails }

  module _ (h : fits op clash f g ≡ true) where
    suited : (eqb f g ≡ true) × (takes op f ≡ true)
    unfolding fits suits
    suited = and_true (eqb f g) (takes op f) (and_true (suits op f g) (not (clash && looks op f)) h).0

    -- operands that fit are of one family
    pub fits_same : f ≡ g
    fits_same = eqb-true f g suited.0

    pub fits_some : f ≡ no_family → ⊥
    fits_some e = never (sym suited.1 ∙ rw e (takes_none op))

    pub fits_takes : takes op f ≡ true
    fits_takes = suited.1
