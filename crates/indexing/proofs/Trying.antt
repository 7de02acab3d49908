-- The trials of a type's members: one more trial, what they come to, and that the results are in use. Assumes nothing.
use Rattle.std.proofs.Common.{Result, Ok, Option, None, Some}
use Rattle.refusals.specs.declared.Refusal.{Refusal}
use mathlib.Core.Path.{◌≡◌, refl, ap, ◌∙◌}
use mathlib.Core.Bool.{Bool, true, false, cond}
use mathlib.Core.List.{List}
use Prim.Native.Nat.{ℕ, zero, suc, ◌+◌, ◌<◌, ◌≤◌}
use native.Mathlib.Numerals.{add-one}
use native.Mathlib.Omega.{arith}
use lib.ListN.{length, get_or, take}
use lib.Seq.{length-take-le}
use borrow.Author.Tests.{lt-ltb, le-ltb}
use Rattle.types.specs.Store.{Formed}
use Rattle.types.specs.Types.{types_in}
use Rattle.types.specs.Calls.{all_below}
use Rattle.marks.specs.Marks.{Noted}
use Rattle.matching.specs.Memo.{Found}
use Rattle.matching.specs.declared.Matcher.{Matcher}
use Rattle.matching.proofs.Memo.{noted_by}
use Rattle.matching.specs.declared.Checked.{Checked}
use Rattle.matching.specs.declared.Checked.TheVariants.{Unknown}
use Rattle.operators.specs.Outcome.{one_error, outcome, number_of, passes}
use Rattle.operators.specs.declared.Failing.{Failing}
use Rattle.operators.specs.declared.Errors.{Errors}
use Rattle.operators.specs.declared.Reason.TheVariants.{NoMember}
use Rattle.operators.specs.declared.Outcome.{Outcome}
use Rattle.members.specs.Members.{size_of, member, merged, Entered, entered, union_of, concluded, conclude}
use Rattle.members.specs.Trials.{fold_to, failing_count, failed_at, Tried, tried, joined, settled}
use Rattle.members.proofs.Members.{member_used}
use Rattle.members.proofs.Flattening.{Flattened}
use Rattle.members.proofs.Unions.{merged_below}
use Rattle.indexing.specs.Indexing.{index_target, members_tried, tried_of, index_any}
use Rattle.indexing.specs.declared.Trials.{Trials}
use Rattle.indexing.proofs.Targets.{target_used}

-- ---- one more trial

module _ (results : List ℕ) (trials : Trials) (o : Outcome) (x : ℕ) where
  pub joins : passes o ≡ true → (r : ℕ) (after : List ℕ) → take r after ≡ merged (number_of o.checked) (take trials.merged results)
      → tried_of after (record { merged = r; failing = trials.failing }) ≡ joined x None o (tried_of results trials)
  unfolding joined
  joins h r after e = rw (h, e) refl

  pub fails : passes o ≡ false
      → tried_of results (record { merged = trials.merged; failing = Some (failed_at x None trials.failing) })
      ≡ joined x None o (tried_of results trials)
  unfolding joined
  fails h = rw h refl

-- what holds of the results so far, and of those with one more, holds after one more trial
joined_holds : (P : List ℕ → Type 0) (x : ℕ) (o : Outcome) (q : Tried) → P q.results → P (merged (number_of o.checked) q.results)
    → P (joined x None o q).results
unfolding joined
joined_holds P x o q a b = go (passes o)
  where
    go : (b : Bool)
        → P (cond b (tried (merged (number_of o.checked) q.results) q.failed) (tried q.results (Some (failed_at x None q.failed)))).results
    go true = b
    go false = a

module _ (page : List ℕ) (key : Checked) (t : ℕ) where
  pub none_tried : (results : List ℕ) → tried_of results (record { merged = 0; failing = None }) ≡ members_tried page key t 0
  unfolding members_tried fold_to
  none_tried results = refl

  tried_next : (n : ℕ)
      → joined (member page t n) None (index_target page key (member page t n)) (members_tried page key t n) ≡ members_tried page key t (suc n)
  unfolding members_tried fold_to
  tried_next n = refl

  -- the trial of member i
  pub more_tried : (i x : ℕ) (o : Outcome) (q : Tried) → x ≡ member page t i → o ≡ index_target page key x → q ≡ members_tried page key t i
      → joined x None o q ≡ members_tried page key t (i + 1)
  more_tried i x o q e h s = rw (h, e, s, add-one i) (tried_next i)

  pub tried_used : Formed page → t < types_in page → (n : ℕ) → n ≤ size_of page t
      → all_below (types_in page) (members_tried page key t n).results ≡ true
  unfolding members_tried fold_to
  tried_used f u zero h = refl
  tried_used f u (suc n) h =
      let m = member page t n in
      let before = tried_used f u n (omega arith) in
      joined_holds (λ rs. all_below (types_in page) rs ≡ true) m (index_target page key m) (members_tried page key t n) before
      (merged_below (number_of (index_target page key m).checked) (members_tried page key t n).results (types_in page) before
      (target_used page f m (member_used page f t u n (omega arith)) key))

-- ---- the turns: what is known before the trial of member i
pub record Going (page : List ℕ) (key : Checked) (t : ℕ) (results : List ℕ) (trials : Trials) (i : ℕ) : Type 0 where
  pub so_far : tried_of results trials ≡ members_tried page key t i
  pub few : trials.merged ≤ i
  pub few_fail : failing_count trials.failing ≤ i

-- member i, as `flatten` wrote it down
module _ (page : List ℕ) (f : Formed page) (t : ℕ) (u : t < types_in page) (types : List ℕ) (n : ℕ) (flat : Flattened page t n types)
    (i x : ℕ) (h : i < n) (k : x ≡ get_or (take n types) i 0) where
  pub read_member : x ≡ member page t i
  read_member = k ∙ ap (λ (l : List ℕ). get_or l i 0) flat.2

  pub read_used : x < types_in page
  read_used = rw read_member (member_used page f t u i (omega (arith, flat.0)))

-- ---- what they come to

-- none of the members that fail is there
pub none_failed : (failing : Option Failing) → ((f : Failing) → failing ≡ Some f → ⊥) → failing ≡ None
none_failed None z = refl
none_failed (Some f) z = absurd (z f refl)

module _ (page : List ℕ) (key : Checked) (t : ℕ) (results : List ℕ) (trials : Trials)
    (e : tried_of results trials ≡ members_tried page key t (size_of page t)) where
  pub some_failed : (f : Failing) → trials.failing ≡ Some f → concluded (Ok (outcome Unknown (Errors.SomeFail f))) page ≡ index_any page key t
  unfolding index_any settled
  some_failed f is = rw (← e, is) refl

  module _ (z : trials.failing ≡ None) (l : trials.merged ≤ length results) where
    pub no_results : trials.merged ≡ 0 → concluded (Ok (outcome Unknown (one_error NoMember))) page ≡ index_any page key t
    unfolding index_any settled
    no_results m =
        let size = length-take-le trials.merged results l in
        rw (← e, z, le-ltb 0 (length (take trials.merged results)) (omega (arith, size, m))) refl

    pub some_results : (trials.merged ≡ 0 → ⊥) → (m : Result ℕ Refusal) (s : List ℕ) → entered m s ≡ union_of page (take trials.merged results)
        → concluded (conclude m) s ≡ index_any page key t
    unfolding index_any settled
    some_results n m s h =
        let size = length-take-le trials.merged results l in
        ap (λ (o : Entered). concluded (conclude o.made) o.store) h
        ∙ rw (← e, z, lt-ltb 0 (length (take trials.merged results)) (omega (arith, size, n))) refl

  pub results_used : Formed page → t < types_in page → all_below (types_in page) (take trials.merged results) ≡ true
  results_used f u = rw (← e) at (tried_used page key t f u (size_of page t) (omega arith))

-- what a matcher's table ends as says what is right of its store
pub noted_end : (m : Matcher) (page : List ℕ) → m.store.page.now ≡ page → (memo : List ℕ) → memo ≡ m.table.now → Noted (Found page) memo
noted_end m page e memo k = let noted = rw e at (noted_by m.store.page.now m.table.now m.noted) in rw k noted
