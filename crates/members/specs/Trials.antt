-- The trials of a union's members: "every pair of members .. is tried by the operator's own rule" (document 01, "Answers").
use Rattle.std.specs.Prelude.{Option, Some, None, Bool, cond, List, ℕ, zero, suc, ◌+◌, eqb, ltb, length, Ok}
use Rattle.operators.specs.Outcome.{no_error, one_error, failures, outcome, number_of, passes, count_of}
use Rattle.operators.specs.declared.Reason.TheVariants.{NoMember}
use Rattle.operators.specs.declared.Failing.{Failing}
use Rattle.operators.specs.declared.Errors.{Errors}
use Rattle.operators.specs.declared.Outcome.{Outcome}
use Rattle.matching.specs.declared.Checked.TheVariants.{Unknown}
use Rattle.members.specs.Members.{merged, union_of, Concluded, concluded, conclude}

-- step 0, step 1, up to n of them, one after the other
unfoldable pub fold_to : {A : Type 0} → ℕ → (ℕ → A → A) → A → A
fold_to zero step a = a
fold_to (suc n) step a = step n (fold_to n step a)

-- ---- failures: how many members fail, and the first of them, where some do

abbrev pub no_failure : Option Failing
no_failure = None

-- how many
abbrev pub failing_count : Option Failing → ℕ
failing_count None = 0
failing_count (Some f) = f.count

-- one more, of member x alone or beside y: the first stays the first
abbrev pub failed_at : ℕ → Option ℕ → Option Failing → Failing
failed_at x y None = failures 1 x y
failed_at x y (Some f) = failures (f.count + 1) f.left f.right

-- the errors of a union's check, where some member passes or none does: 7 some members fail; 8 there is none, since none fails and
-- none passes
abbrev pub errors_of : Option Failing → Bool → Errors
errors_of None some_passes = cond some_passes no_error (one_error NoMember)
errors_of (Some f) some_passes = Errors.SomeFail f

-- ---- failures, and the distinct results in order

pub record Tried : Type 0 where
  pub results : List ℕ
  pub failed : Option Failing

abbrev pub tried : List ℕ → Option Failing → Tried
tried ts f = record { results = ts; failed = f }

-- one more trial, of member x alone or beside y
unfoldable pub joined : ℕ → Option ℕ → Outcome → Tried → Tried
joined x y o q =
    cond (passes o) (tried (merged (number_of o.checked) q.results) q.failed) (tried q.results (Some (failed_at x y q.failed)))

-- their errors: a member that passes leaves a result
abbrev pub errors_in : Tried → Errors
errors_in q = errors_of q.failed (ltb 0 (length q.results))

-- what they come to: with an error Unknown, else the one result or the union of several, which enters the store
unfoldable pub settled : List ℕ → Tried → Concluded
settled page q =
    cond (eqb (count_of (errors_in q)) 0) (concluded (conclude (union_of page q.results).made) (union_of page q.results).store)
    (concluded (Ok (outcome Unknown (errors_in q))) page)
