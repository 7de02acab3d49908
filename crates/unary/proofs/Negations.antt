-- A check with one operand that answers a number is of − (`number_negates`): ! answers Bool. Assumes nothing.
use Rattle.std.proofs.Common.{Ok}
use mathlib.Core.Path.{◌≡◌, refl, sym, ap, ◌∙◌}
use mathlib.Core.Bool.{Bool, true, false, ◌||◌, cond}
use mathlib.Core.List.{List, [], ◌∷◌}
use Prim.Native.Nat.{ℕ, zero, suc, ◌<◌}
use native.Mathlib.Nat.{not-suc-le-zero}
use native.Mathlib.Omega.{arith}
use borrow.Author.Tests.{eqb-true, eqb-false}
use lib.Dec.{eqb}
use Rattle.kinds.specs.Kinds.{is_union}
use Rattle.types.specs.Store.{Formed}
use Rattle.types.specs.Types.{types_in, kind_of}
use Rattle.types.proofs.Grown.{grows_refl}
use Rattle.matching.specs.Matching.{in_use}
use Rattle.matching.specs.declared.Checked.{Checked}
use Rattle.matching.specs.declared.Checked.TheVariants.{Known, Unknown}
use Rattle.matching.proofs.Matching.{known_in_use}
use Rattle.operators.specs.Operators.{int, float, bool, minus, bang, family_of, is_number, taker_of}
use Rattle.operators.specs.Outcome.{no_error, outcome, number_of, count_of}
use Rattle.operators.specs.declared.Outcome.{Outcome}
use Rattle.members.specs.Members.{size_of, member, has, merged, Entered, entered, union_of, concluded, conclude}
use Rattle.members.proofs.Conclusions.{unknown_not}
use Rattle.members.proofs.Members.{member_lower}
use Rattle.unary.specs.Unary.{so_far, one_more, result_next, results_to, together, unary_errors, unary_result, check_unary}
use Rattle.unary.proofs.Passing.{passing_taken, passing_some}
use Rattle.unary.proofs.Failing.{errors_passes}
use Rattle.unary.proofs.Answers.{under, under_is, answer_plain, answer_union, Passing, member_passes_lem}
use Rattle.unary.proofs.Operands.{operand_known}

-- ---- what every member answers, their union answers

-- Bool, entered already
abbrev bools : List ℕ → Entered
bools page = entered (Ok bool) page

module _ (page : List ℕ) (t : ℕ) (each : (i : ℕ) → i < size_of page t → under t (member page t i) page ≡ bools page) where
  first_bools : (i : ℕ) → i < size_of page t → results_to (under t) page t (suc i) ≡ so_far (bool ∷ []) page
  unfolding results_to result_next one_more merged has
  first_bools zero l = rw (each 0 l) refl
  first_bools (suc i) l = rw (first_bools i (omega arith), each (suc i) l) refl

  all_bools : (n : ℕ) → n ≡ size_of page t → 0 < n → together (results_to (under t) page t n) ≡ bools page
  unfolding together union_of
  all_bools zero e l = absurd (omega arith)
  all_bools (suc i) e l = rw (first_bools i (omega arith)) refl

-- ---- an operator that is not −

module _ (op : ℕ) (o : 0 < op) (other : op ≡ minus → ⊥) where
  -- of the kinds that it takes the family is Bool
  taken_bool : (k : ℕ) → taker_of k ≡ op → family_of k ≡ bool
  unfolding taker_of
  taken_bool k e = go (eqb (family_of k) int) (eqb (family_of k) float) (eqb (family_of k) bool) refl e
    where
      go : (a b c : Bool) → eqb (family_of k) bool ≡ c → cond (a || b) minus (cond c bang 0) ≡ op → family_of k ≡ bool
      go true b c h x = absurd (other (sym x))
      go false true c h x = absurd (other (sym x))
      go false false true h x = eqb-true (family_of k) bool h
      go false false false h x = absurd (omega (arith, x))

  bool_below : (m t : ℕ) → t < m → (page : List ℕ) → Passing op page t → unary_result t page ≡ bools page
  bool_below zero t l page p = absurd (not-suc-le-zero l)
  bool_below (suc m) t l page p = go (is_union (kind_of page t)) refl (λ x k. bool_below m x (omega arith) page)
    where
      go : (b : Bool) → is_union (kind_of page t) ≡ b → ((x : ℕ) → x < t → Passing op page x → unary_result x page ≡ bools page)
          → unary_result t page ≡ bools page
      go false h ih =
          answer_plain t page h
          ∙ ap (λ (f : ℕ). entered (Ok f) page) (taken_bool (kind_of page t) (passing_taken page op t p.2 h))
      go true h ih =
          let each : (i : ℕ) → i < size_of page t → under t (member page t i) page ≡ bools page =
          λ i k.
          let low = member_lower page p.0 t p.1 h i k in
          under_is t (member page t i) page low ∙ ih (member page t i) low (member_passes_lem op p h i k page p.0 (grows_refl page)) in
          answer_union t page h ∙ all_bools page t each (size_of page t) refl (passing_some page op t p.2 p.0 p.1 h)

  -- and so it answers Bool
  bool_answered : (page : List ℕ) (t : ℕ) → Passing op page t → unary_result t page ≡ bools page
  bool_answered page t = bool_below (suc t) t (omega arith) page

-- ---- the law

module _ (page : List ℕ) (f : Formed page) (op : ℕ) (h : 0 < op) where
  -- another operator answers no number
  other_none : (op ≡ minus → ⊥) → (a : ℕ) → a < types_in page → (o : Outcome) → (check_unary page op (Known a)).conclusion ≡ Ok o
      → (t : ℕ) → o.checked ≡ Known t → is_number t ≡ true → ⊥
  unfolding check_unary
  other_none other a u o e t k n = go (eqb (count_of (unary_errors page op a)) 0) refl e
    where
      never : true ≡ false → ⊥
      never z = let w : ◌≡◌ {A = ℕ} 0 1 = cc in omega arith

      go : (b : Bool) → eqb (count_of (unary_errors page op a)) 0 ≡ b
          → (cond b (concluded (conclude (unary_result a page).made) (unary_result a page).store)
          (concluded (Ok (outcome Unknown (unary_errors page op a))) page)).conclusion ≡ Ok o
          → ⊥
      go true d c =
          let is = bool_answered op h other page a (f, u, sym (errors_passes page op a f u) ∙ d) in
          let one : Ok (outcome (Known bool) no_error) ≡ Ok o = ap (λ (x : Entered). conclude x.made) (sym is) ∙ c in
          let same : outcome (Known bool) no_error ≡ o = cc one in
          let number : bool ≡ t = ap (λ (p : Outcome). number_of p.checked) same ∙ ap number_of k in
          absurd (never (sym (rw (← number) at n)))
      go false d c = unknown_not (outcome Unknown (unary_errors page op a)) o refl c t k

  -- where a number is answered the operator is −
  pub number_negates : (x : Checked) → in_use page x ≡ true → (o : Outcome) → (check_unary page op x).conclusion ≡ Ok o
      → (t : ℕ) → o.checked ≡ Known t → is_number t ≡ true → op ≡ minus
  number_negates x u o e t k n = go (eqb op minus) refl
    where
      go : (b : Bool) → eqb op minus ≡ b → op ≡ minus
      go true d = eqb-true op minus d
      go false d =
          let a = operand_known page op h x o e t k in
          absurd (other_none (eqb-false op minus d) a.0 (known_in_use page a.0 (rw a.1 at u)) o (rw a.1 at e) t k n)
