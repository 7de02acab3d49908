-- The store that a call leaves has grown out of the one that it was given, whether or not the call is refused, so that types in use
-- keep their kinds and children; for operands in use it is in form as well, and the type that is answered is in use in it. Assumes
-- nothing.
use Rattle.units.specs.declared.Unit.{Unit}
use Rattle.std.proofs.Common.{Result, Ok, Err, Option, IfOk}
use Rattle.refusals.specs.declared.Refusal.{Refusal}
use mathlib.Core.Path.{◌≡◌, refl}
use mathlib.Core.Bool.{Bool, true, false, not, cond}
use mathlib.Core.List.{List, ◌∷◌}
use Prim.Native.Nat.{ℕ}
use borrow.Author.Tests.{not-false}
use Rattle.refusals.specs.Lowest.{◌when◌, unless_refused}
use Rattle.refusals.specs.declared.Refusal.TheVariants.{Undefined, Broken}
use Rattle.refusals.specs.Numbers.{Verdict}
use Rattle.refusals.proofs.Lowest.{passed_parts}
use Rattle.names.specs.Calls.{used_of}
use Rattle.types.specs.Store.{Formed}
use Rattle.types.specs.Making.{Grows}
use Rattle.types.specs.Calls.{store_broken}
use Rattle.types.proofs.Calls.{unbroken_both}
use Rattle.types.proofs.Grown.{grows_refl}
use Rattle.matching.specs.Matching.{in_use}
use Rattle.matching.specs.declared.Checked.{Checked}
use Rattle.operators.specs.Operators.{is_operator}
use Rattle.operators.specs.Outcome.{passes}
use Rattle.operators.specs.declared.Outcome.{Outcome}
use Rattle.operators.proofs.Table.{operator_range}
use Rattle.members.specs.Members.{Concluded}
use Rattle.members.proofs.Kept.{Kept}
use Rattle.binary.specs.Binary.{check_binary}
use Rattle.binary.proofs.Settled.{binary_used}
use Rattle.unary.specs.Unary.{check_unary}
use Rattle.unary.proofs.Kept.{unary_kept}
use Rattle.indexing.specs.Indexing.{check_index}
use Rattle.indexing.proofs.Indexing.{index_kept}
use Rattle.answers.specs.Calls.{operand_conditions, answered, with_unit, binary_checked, concluded_by, store_after, unary_verdict, unary_concluded, unary_checked, unary_page, keyed, index_verdict, index_page, beside}
use Rattle.answers.specs.Units.{no_unit, clashes, binary_unit}
use Rattle.answers.specs.declared.CheckedExpr.{CheckedExpr}
use Rattle.answers.proofs.Calls.{passed_used}

-- ---- operands in use

module _ (page : List ℕ) (f : Formed page) where
  -- a store that has grown, in form
  abbrev Left : List ℕ → Type 0
  Left after = Grows page after × Formed after

  left_by_lem : (z : Concluded) → Kept page z → Left (store_after z page)
  left_by_lem z k = go z.conclusion
    where
      go : (c : Result Outcome Refusal) → Left (unless_refused c z.store page)
      go (Ok o) = (k.grown, k.form)
      go (Err r) = (grows_refl page, f)

  -- what a binary check answers
  pub binary_answer_used : (root : ℕ → ℕ) (op : ℕ) (left right : CheckedExpr) → in_use page left.checked ≡ true → in_use page right.checked ≡ true
      → IfOk (binary_checked page root op left right) (λ a. in_use page a.checked ≡ true)
  unfolding binary_checked with_unit
  binary_answer_used root op left right u v = go (passes o) (binary_unit op left.unit right.unit)
    where
      o : Outcome
      o = check_binary page op (clashes root left.unit right.unit) left.checked right.checked

      used : in_use page o.checked ≡ true
      used = binary_used page f op (clashes root left.unit right.unit) left.checked right.checked u v

      go : (b : Bool) (m : Result (Option Unit) Refusal) → IfOk (cond b (beside o m) (Ok (answered o no_unit))) (λ a. in_use page a.checked ≡ true)
      go true (Ok m) = used
      go true (Err r) = tt
      go false m = used

  -- and a check whose answer may enter a union, with any unit
  unary_says : (z : Concluded) → Kept page z → (op : ℕ) (unit : Option Unit) → IfOk (unary_checked z op unit) (λ a. in_use (store_after z page) a.checked ≡ true)
  unary_says z k op unit = go z.conclusion refl
    where
      go : (c : Result Outcome Refusal) → z.conclusion ≡ c → IfOk (unary_concluded c z.store op unit) (λ a. in_use (unless_refused c z.store page) a.checked ≡ true)
      go (Ok o) e = k.used o e
      go (Err r) e = tt

  index_says : (z : Concluded) → Kept page z → (unit : Option Unit) → IfOk (concluded_by z.conclusion unit) (λ a. in_use (store_after z page) a.checked ≡ true)
  index_says z k unit = go z.conclusion refl
    where
      go : (c : Result Outcome Refusal) → z.conclusion ≡ c → IfOk (concluded_by c unit) (λ a. in_use (unless_refused c z.store page) a.checked ≡ true)
      go (Ok o) e = k.used o e
      go (Err r) e = tt

  pub unary_answer_used : (op : ℕ) → is_operator op ≡ true → (x : CheckedExpr) → in_use page x.checked ≡ true
      → let z = check_unary page op x.checked in IfOk (unary_checked z op x.unit) (λ a. in_use (store_after z page) a.checked ≡ true)
  unary_answer_used op d x u =
      unary_says (check_unary page op x.checked) (unary_kept page f op (operator_range op d).0 x.checked u) op x.unit

  pub index_answer_used : (target : CheckedExpr) (key : Checked) → in_use page target.checked ≡ true
      → let z = check_index page key target.checked in IfOk (concluded_by z.conclusion target.unit) (λ a. in_use (store_after z page) a.checked ≡ true)
  index_answer_used target key u =
      index_says (check_index page key target.checked) (index_kept page f key target.checked u) target.unit

  -- what `unary_checked` leaves
  pub unary_left : (op : ℕ) → is_operator op ≡ true → (x : Checked) → in_use page x ≡ true → Left (store_after (check_unary page op x) page)
  unary_left op d x u = left_by_lem (check_unary page op x) (unary_kept page f op (operator_range op d).0 x u)

  -- what `index_checked` leaves
  pub index_left : (key target : Checked) → in_use page target ≡ true → Left (store_after (check_index page key target) page)
  index_left key target u = left_by_lem (check_index page key target) (index_kept page f key target u)

-- ---- any operands

module _ (page : List ℕ) (names : Option (List ℕ)) where
  formed : store_broken page names ≡ false → Formed page
  formed b = record { names = used_of names; form = (unbroken_both page names b).1 }

  pub unary_page_grown : (op : ℕ) (x : CheckedExpr) → Grows page (unary_page page names op x)
  unfolding unary_page
  unary_page_grown op x = go (unary_verdict page names op x) refl
    where
      go : (v : Verdict) → unary_verdict page names op x ≡ v
          → Grows page (unless_refused v (store_after (check_unary page op x.checked) page) page)
      go (Err r) e = grows_refl page
      go (Ok _) e =
          let operands = operand_conditions page (used_of names) x x in
          let p = passed_parts Undefined (not (is_operator op)) ((Broken when store_broken page names) ∷ operands) e in
          let q = passed_parts Broken (store_broken page names) operands p.1 in
          (unary_left page (formed q.0) op (not-false (is_operator op) p.0) x.checked
          (passed_used page (used_of names) x x q.1).0).0

  pub index_page_grown : (target : CheckedExpr) (key : Checked) → Grows page (index_page page names target key)
  unfolding index_page
  index_page_grown target key = go (index_verdict page names target key) refl
    where
      go : (v : Verdict) → index_verdict page names target key ≡ v
          → Grows page (unless_refused v (store_after (check_index page key target.checked) page) page)
      go (Err r) e = grows_refl page
      go (Ok _) e =
          let operands = operand_conditions page (used_of names) target (keyed key) in
          let q = passed_parts Broken (store_broken page names) operands e in
          (index_left page (formed q.0) key target.checked (passed_used page (used_of names) target (keyed key) q.1).0).0
