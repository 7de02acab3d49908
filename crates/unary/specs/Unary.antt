-- The check of an operator with one operand (document 01, "Answers"; `check_unary_operator` and `check_unary_any` of the source's
-- unary.rs): first its errors, which need no store; then, where there is none, the type that it answers, whose unions enter the store.
use Rattle.std.specs.Prelude.{Option, Some, None, ◌≡◌, Bool, true, false, ◌&&◌, cond, List, [], ℕ, zero, suc, ◌<◌, eqb, ltb, length, get_or, Result, Ok, Err}
use Rattle.pages.specs.Quant.{all_to}
use Rattle.refusals.specs.declared.Refusal.{Refusal}
use Rattle.kinds.specs.Kinds.{null, is_union}
use Rattle.types.specs.Store.{types_max, Formed}
use Rattle.types.specs.Types.{types_in, kind_of}
use Rattle.types.specs.Making.{Grows}
use Rattle.types.specs.Recur.{cov}
use Rattle.matching.specs.declared.Checked.{Checked}
use Rattle.matching.specs.declared.Checked.TheVariants.{Known, Unknown, Function}
use Rattle.operators.specs.Operators.{no_family, family_of, taker_of}
use Rattle.operators.specs.Outcome.{no_error, outcome, plain_unary, count_of}
use Rattle.operators.specs.declared.Failing.{Failing}
use Rattle.operators.specs.declared.Errors.{Errors}
use Rattle.members.specs.Members.{size_of, member, merged, Entered, entered, union_of, Concluded, concluded, conclude}
use Rattle.members.specs.Trials.{fold_to, no_failure, failing_count, failed_at, errors_of}

-- ---- errors

-- does the check of type t have no error: its own rule's; of a union every member's, "a member that is itself a union goes round
-- again", and it has a member
unfoldable pub pass_rule : List ℕ → ℕ → (ℕ → Bool) → ℕ → Bool
pass_rule page op rule t =
    cond (is_union (kind_of page t)) (ltb 0 (size_of page t) && all_to (size_of page t) (λ i. rule (member page t i)))
    (eqb (taker_of (kind_of page t)) op)

unfoldable pub unary_passes : List ℕ → ℕ → ℕ → Bool
unary_passes page op = cov false (λ t rule. pass_rule page op rule t)

-- of the first n members of t those that fail
unfoldable pub failing : List ℕ → ℕ → ℕ → ℕ → Option Failing
failing page op t n =
    fold_to n (λ i f. cond (unary_passes page op (member page t i)) f (Some (failed_at (member page t i) None f))) no_failure

-- the errors of the check of type t: where fewer members fail than there are, some member passes
unfoldable pub unary_errors : List ℕ → ℕ → ℕ → Errors
unary_errors page op t =
    cond (is_union (kind_of page t))
    (errors_of (failing page op t (size_of page t)) (ltb (failing_count (failing page op t (size_of page t))) (size_of page t)))
    (plain_unary op (kind_of page t)).errors

-- ---- the type answered, where there is no error

-- the distinct results of members so far, in order, and the store afterwards; or the first refusal
pub data Results : Type 0 where
  so_far : List ℕ → List ℕ → Results
  stopped : Refusal → List ℕ → Results

-- one more result
unfoldable pub one_more : List ℕ → Result ℕ Refusal → List ℕ → Results
one_more rs (Ok r) s = so_far (merged r rs) s
one_more rs (Err q) s = stopped q s

unfoldable pub result_next : (ℕ → List ℕ → Entered) → ℕ → Results → Results
result_next rule x (so_far rs s) = one_more rs (rule x s).made (rule x s).store
result_next rule x (stopped q s) = stopped q s

-- the results of the first n members of t, each in the store that the one before it left: inner unions enter first
unfoldable pub results_to : (ℕ → List ℕ → Entered) → List ℕ → ℕ → ℕ → Results
results_to rule page t zero = so_far [] page
results_to rule page t (suc n) = result_next rule (member page t n) (results_to rule page t n)

-- their union after them
unfoldable pub together : Results → Entered
together (so_far rs s) = union_of s rs
together (stopped q s) = entered (Err q) s

-- given the outcomes for lower types: of a union the union of its members' results, of Int, Float or Bool that type
unfoldable pub answer_rule : ℕ → (ℕ → List ℕ → Entered) → List ℕ → Entered
answer_rule t rule page =
    cond (is_union (kind_of page t)) (together (results_to rule page t (size_of page t))) (entered (Ok (family_of (kind_of page t))) page)

unfoldable pub unary_result : ℕ → List ℕ → Entered
unary_result = cov {R = List ℕ → Entered} (λ page. entered (Ok null) page) answer_rule

-- ---- what src/ keeps in mind

-- under t what the check of t answers, for this store and every store that grows out of it
pub record Remembered (page : List ℕ) (done : List (Option ℕ)) : Type 0 where
  pub size : length done ≡ types_max
  pub right : (t r : ℕ) → get_or done t None ≡ Some r → (q : List ℕ) → Grows page q → Formed q → unary_result t q ≡ entered (Ok r) q

-- a type whose check passes, in a store: that of some operator, whose code no answer looks at
pub record Working (page : List ℕ) (done : List (Option ℕ)) (t : ℕ) : Type 0 where
  pub op : ℕ
  pub used : t < types_in page
  pub passing : unary_passes page op t ≡ true
  pub operator : 0 < op
  pub remembered : Remembered page done

-- ---- on checked types

-- an Unknown operand comes first; a Function is none that an operator takes; a type is answered where there is no error
unfoldable pub check_unary : List ℕ → ℕ → Checked → Concluded
check_unary page op Unknown = concluded (Ok (outcome Unknown no_error)) page
check_unary page op (Function t) = concluded (Ok (plain_unary op no_family)) page
check_unary page op (Known t) =
    cond (eqb (count_of (unary_errors page op t)) 0) (concluded (conclude (unary_result t page).made) (unary_result t page).store)
    (concluded (Ok (outcome Unknown (unary_errors page op t))) page)
