-- The errors of a check: the members that fail one after another, one law for each return, and that there is no error exactly where
-- the check passes (`errors_passes`). Assumes nothing.
use Rattle.std.specs.Prelude.{Option, Some, None}
use Rattle.std.specs.Option.{is_none}
use mathlib.Core.Path.{◌≡◌, refl, sym, ◌∙◌, ap}
use mathlib.Core.Bool.{Bool, true, false, ◌&&◌, cond}
use mathlib.Core.List.{List}
use Prim.Native.Nat.{ℕ, zero, suc, ◌+◌, ◌<◌}
use native.Mathlib.Numerals.{add-one}
use native.Mathlib.Omega.{arith}
use lib.Dec.{eqb, ltb}
use borrow.Author.Tests.{lt-ltb}
use Rattle.pages.specs.Quant.{all_to}
use Rattle.pages.proofs.Bytes.{and_false}
use Rattle.kinds.specs.Kinds.{is_union}
use Rattle.types.specs.Store.{Formed}
use Rattle.types.specs.Types.{types_in, kind_of}
use Rattle.operators.specs.Operators.{taker_of}
use Rattle.operators.specs.Outcome.{no_error, one_error, plain_unary, count_of}
use Rattle.operators.specs.declared.Failing.{Failing}
use Rattle.operators.specs.declared.Errors.{Errors}
use Rattle.operators.specs.declared.Reason.TheVariants.{NoMember}
use Rattle.members.specs.Members.{size_of, member}
use Rattle.members.specs.Trials.{fold_to, failing_count, failed_at, errors_of}
use Rattle.unary.proofs.Passing.{member_passes, passes_plain, passes_union}
use Rattle.unary.specs.Unary.{unary_passes, failing, unary_errors}

-- a union has no error if it has a member and none fails
union_count : (f : Option Failing) (n : ℕ) → eqb (count_of (errors_of f (ltb (failing_count f) n))) 0 ≡ (ltb 0 n && is_none f)
union_count None n = go (ltb 0 n)
  where
    go : (b : Bool) → eqb (count_of (cond b no_error (one_error NoMember))) 0 ≡ (b && true)
    go true = refl
    go false = refl
union_count (Some f) n = sym (and_false (ltb 0 n))

-- ---- failures of the first members

module _ (page : List ℕ) (op t : ℕ) where
  -- before all members
  pub failing_none : None ≡ failing page op t 0
  unfolding failing fold_to
  failing_none = refl

  failing_next : (i : ℕ) → failing page op t (suc i)
      ≡ cond (unary_passes page op (member page t i)) (failing page op t i) (Some (failed_at (member page t i) None (failing page op t i)))
  unfolding failing fold_to
  failing_next i = refl

  module _ (i : ℕ) (f : Option Failing) (h : f ≡ failing page op t i) (x : ℕ) (is : x ≡ member page t i) where
    pub passed_more : unary_passes page op x ≡ true → f ≡ failing page op t (i + 1)
    passed_more p = rw (add-one i, failing_next i, ← is, p) h

    pub failed_more : unary_passes page op x ≡ false → Some (failed_at x None f) ≡ failing page op t (i + 1)
    failed_more p = rw (add-one i, failing_next i, ← is, p) (ap (λ (f : Option Failing). Some (failed_at x None f)) h)

  -- none fails exactly where all pass
  failing_passes : (n : ℕ) → is_none (failing page op t n) ≡ all_to n (member_passes page op t)
  unfolding failing fold_to all_to
  failing_passes zero = refl
  failing_passes (suc n) =
      go (unary_passes page op (member page t n)) (all_to n (member_passes page op t)) (failing page op t n) (failing_passes n)
    where
      go : (b a : Bool) (f : Option Failing) → is_none f ≡ a → is_none (cond b f (Some (failed_at (member page t n) None f))) ≡ cond a b false
      go true true f h = h
      go true false f h = h
      go false true f h = refl
      go false false f h = refl

  -- ---- one law for each return

  module _ (h : is_union (kind_of page t) ≡ true) where
    errors_union : unary_errors page op t
        ≡ errors_of (failing page op t (size_of page t)) (ltb (failing_count (failing page op t (size_of page t))) (size_of page t))
    unfolding unary_errors
    errors_union = rw h refl

    pub errors_empty : size_of page t ≡ 0 → one_error NoMember ≡ unary_errors page op t
    errors_empty z = sym (errors_union ∙ rw (z, ← failing_none) refl)

    pub errors_none : (size_of page t ≡ 0 → ⊥) → None ≡ failing page op t (size_of page t) → no_error ≡ unary_errors page op t
    errors_none z e = sym (errors_union ∙ rw (← e, lt-ltb 0 (size_of page t) (omega (arith, z))) refl)

    pub errors_some : (f : Failing) → Some f ≡ failing page op t (size_of page t) → Errors.SomeFail f ≡ unary_errors page op t
    errors_some f e = sym (errors_union ∙ rw (← e) refl)

  pub errors_plain : is_union (kind_of page t) ≡ false → (plain_unary op (kind_of page t)).errors ≡ unary_errors page op t
  unfolding unary_errors
  errors_plain h = sym (rw h refl)

  -- ---- no error

  plain_count : (b : Bool) → eqb (taker_of (kind_of page t)) op ≡ b → eqb (count_of (plain_unary op (kind_of page t)).errors) 0 ≡ b
  unfolding plain_unary
  plain_count true e = rw e refl
  plain_count false e = rw e refl

  pub errors_passes : Formed page → t < types_in page → eqb (count_of (unary_errors page op t)) 0 ≡ unary_passes page op t
  errors_passes f u = go (is_union (kind_of page t)) refl
    where
      go : (b : Bool) → is_union (kind_of page t) ≡ b → eqb (count_of (unary_errors page op t)) 0 ≡ unary_passes page op t
      go false h = rw (← errors_plain h, passes_plain page op t h) (plain_count (eqb (taker_of (kind_of page t)) op) refl)
      go true h =
          rw (errors_union h, passes_union page op t f u h)
          (union_count (failing page op t (size_of page t)) (size_of page t) ∙ ap (λ (b : Bool). ltb 0 (size_of page t) && b) (failing_passes (size_of page t)))
