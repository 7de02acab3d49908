-- `check_unary_operator` and `check_unary_any`: what is remembered, one law for each return, and the members one after another; and the
-- check on checked types. Assumes nothing.
use Rattle.std.proofs.Common.{Result, Ok, Err}
use Rattle.std.specs.Prelude.{Option, Some, None}
use mathlib.Core.Path.{◌≡◌, refl, sym, ◌∙◌, ap}
use mathlib.Core.Logic.{⊎_elim}
use mathlib.Core.Bool.{true, false}
use mathlib.Core.List.{List}
use Prim.Native.Nat.{ℕ, zero, suc, ◌+◌, ◌<◌, ◌≤◌}
use native.Mathlib.Numerals.{add-one}
use native.Mathlib.Nat.{le_of_suc-le-suc, eq-or-lt_of_le}
use native.Mathlib.Omega.{arith}
use lib.Dec.{eqb}
use lib.Seq.{length-take-le}
use lib.ListN.{length, get_or, take, set, length-set, replicate, length-replicate}
use borrow.Author.Tests.{eq-eqb, ne_eqb}
use Rattle.refusals.specs.declared.Refusal.{Refusal}
use Rattle.kinds.specs.Kinds.{is_union}
use Rattle.types.specs.Store.{types_max, Formed}
use Rattle.types.specs.Types.{types_in, kind_of}
use Rattle.types.specs.Making.{Grows}
use Rattle.types.specs.Calls.{all_below}
use Rattle.types.proofs.Filled.{found_none, found_more}
use Rattle.types.proofs.Types.{types_few}
use Rattle.types.proofs.Grown.{grows_refl, grows_trans}
use Rattle.matching.specs.declared.Checked.{Checked}
use Rattle.operators.specs.Operators.{no_family, family_of}
use Rattle.operators.specs.Outcome.{no_error, outcome, plain_unary, count_of}
use Rattle.operators.specs.declared.Errors.{Errors}
use Rattle.operators.specs.declared.Outcome.{Outcome}
use Rattle.members.specs.Members.{members_max, size_of, member, Entered, entered, union_of, concluded, conclude}
use Rattle.members.proofs.Members.{size_few, member_lower}
use Rattle.members.proofs.Merging.{Merges}
use Rattle.members.proofs.Unions.{merged_some, union_sound}
use Rattle.unary.proofs.Passing.{passing_some}
use Rattle.unary.proofs.Failing.{errors_passes}
use Rattle.unary.proofs.Answers.{under, under_is, answer_plain, answer_union, ResultsSound, results_of}
use Rattle.unary.proofs.Answers.{Passing, member_passes_lem, answer_sound, answer_again}
use Rattle.unary.specs.Unary.{so_far, stopped, one_more, result_next, results_to, together}
use Rattle.unary.specs.Unary.{unary_errors, unary_result, Remembered, Working, check_unary}

-- ---- what is remembered

pub remembered_none : (page : List ℕ) → Remembered page (replicate types_max None)
remembered_none page = record {
  size = length-replicate {A = Option ℕ} types_max None;
  right = λ t r e q g f. absurd (found_none types_max t e);
}

remembered_grown : (p q : List ℕ) (done : List (Option ℕ)) → Formed p → Grows p q → Remembered p done → Remembered q done
remembered_grown p q done f g m = record {
  size = m.size;
  right = λ t r e s h fs. m.right t r e s (grows_trans p q s f g h) fs;
}

-- what a working type came to, and what is promised of it
abbrev pub Done : ℕ → List ℕ → List ℕ → List (Option ℕ) → Result ℕ Refusal → Type 0
Done t page after done r = (entered r after ≡ unary_result t page) × Remembered after done

module _ {page : List ℕ} {done : List (Option ℕ)} {t : ℕ} (w : Working page done t) (form : Formed page) where
  passing : Passing w.op page t
  passing = (form, w.used, w.passing)

  pub low : t < types_max
  low = omega (arith, w.used, types_few page form)

  pub done_plain : {k r : ℕ} → k ≡ kind_of page t → is_union k ≡ false → r ≡ family_of k → Done t page page done (Ok r)
  done_plain is h e = (rw (e, is) (sym (answer_plain t page (rw is at h))), w.remembered)

  -- met before
  pub done_before : {r : ℕ} → get_or done t None ≡ Some r → Done t page page done (Ok r)
  done_before {r} e = (sym (w.remembered.right t r e page (grows_refl page) form), w.remembered)

  module _ {after : List ℕ} {done' : List (Option ℕ)} where
    pub done_low : {m : Result ℕ Refusal} → Done t page after done' m → {r : ℕ} → m ≡ Ok r → r < types_max
    done_low z {r} e =
        let s = answer_sound w.op w.operator t page passing in
        omega (arith, s.used r (sym (ap (λ (o : Entered). o.made) z.0) ∙ e), types_few (unary_result t page).store s.form)

    -- what it came to, remembered
    pub done_noted : {r : ℕ} → Done t page after done' (Ok r) → Done t page after (set done' t (Some r)) (Ok r)
    done_noted {r} z = (
      z.0,
      record {
        size = length-set done' t (Some r) ∙ z.1.size;
        right = λ u x e q g f.
            ⊎_elim (λ h. rw (h.0, h.1) (answer_again w.op w.operator t page passing r (sym (ap (λ (o : Entered). o.made) z.0)) q (rw (← z.0) g) f))
            (λ h. z.1.right u x h q g f)
            (found_more done' t u r x (omega (arith, low, z.1.size)) e);
      },
    )

-- ---- the members, one after another

-- a refusal ends them
results_stay : (rule : ℕ → List ℕ → Entered) (page : List ℕ) (t i n : ℕ) (q : Refusal) (s : List ℕ) → i ≤ n
    → results_to rule page t i ≡ stopped q s → results_to rule page t n ≡ stopped q s
unfolding results_to result_next
results_stay rule page t i zero q s l e = let z : i ≡ 0 = omega arith in rw z at e
results_stay rule page t i (suc n) q s l e =
    ⊎_elim (λ (x : i ≡ suc n). rw x at e) (λ (x : i < suc n). rw (results_stay rule page t i n q s (le_of_suc-le-suc x) e) refl)
    (eq-or-lt_of_le l)

-- where the walk over the members of t stands: the first i are checked, their k distinct results stand in `results`, and the store is p
pub record Trying (page : List ℕ) (t n i k : ℕ) (results p : List ℕ) (done : List (Option ℕ)) : Type 0 where
  pub within_n : i ≤ n
  pub few : k ≤ i
  pub some : 0 < i → 0 < k
  pub places : length results ≡ members_max
  pub reached : results_to (under t) page t i ≡ so_far (take k results) p
  pub remembered : Remembered p done

module _ {page : List ℕ} {done₀ : List (Option ℕ)} {t : ℕ} (w : Working page done₀ t) (base : Formed page) (h : is_union (kind_of page t) ≡ true)
    {n : ℕ} (all : n ≡ size_of page t) where
  pub tried_none : (results : List ℕ) → length results ≡ members_max → Trying page t n 0 0 results page done₀
  unfolding results_to
  tried_none results l = record {
    within_n = omega arith;
    few = omega arith;
    some = λ x. x;
    places = l;
    reached = refl;
    remembered = w.remembered;
  }

  module _ {i k : ℕ} {results p : List ℕ} {done : List (Option ℕ)} (z : Trying page t n i k results p done) where
    sound : ResultsSound page (so_far (take k results) p)
    sound = results_of w.op w.operator page t (passing w base) h i (omega (arith, all, z.within_n)) (take k results) p z.reached

    module _ (l : i < n) {x : ℕ} (is : x ≡ member page t i) where
      here : i < size_of page t
      here = rw (← all) l

      pub member_low : x < t
      member_low = rw is (member_lower page base t w.used h i here)

      -- what its check asks for
      pub member_works : Working p done x
      member_works =
          let m = member_passes_lem w.op (passing w base) h i here p sound.1 sound.0 in
          record {
            op = w.op;
            used = rw is m.1;
            passing = rw is m.2;
            operator = w.operator;
            remembered = z.remembered;
          }

      -- there is a place for its result
      pub member_room : k < members_max
      member_room = omega (arith, z.few, here, size_few page base t w.used)

      module _ {m : Result ℕ Refusal} {q : List ℕ} {done' : List (Option ℕ)} (d : Done x p q done' m) where
        next : results_to (under t) page t (suc i) ≡ one_more (take k results) m q
        unfolding results_to result_next
        next = rw (z.reached, ← is, under_is t x p member_low, ← d.0) refl

        pub tried_next : {r : ℕ} → m ≡ Ok r → {k' : ℕ} {results' : List ℕ} → Merges results results' k r k'
            → length results' ≡ members_max → Trying page t n (i + 1) k' results' q done'
        unfolding one_more
        tried_next {r} e c all_places = record {
          within_n = omega arith;
          few = omega (arith, z.few, c.0);
          some = λ y. omega (arith, c.2, merged_some r (take k results));
          places = all_places;
          reached = rw (add-one i, c.1) (next ∙ rw e refl);
          remembered = d.1;
        }

        -- a refusal is that of the whole
        pub tried_stop : {y : Refusal} → m ≡ Err y → Done t page q done' m
        unfolding together one_more
        tried_stop {y} e =
            let s : results_to (under t) page t (size_of page t) ≡ stopped y q =
            results_stay (under t) page t (suc i) (size_of page t) y q here (next ∙ rw e refl) in
            (sym (answer_union t page h ∙ rw (s, e) refl), d.1)

    -- all members checked: their union is entered
    module _ (l : n ≤ i) where
      at_end : results_to (under t) page t (size_of page t) ≡ so_far (take k results) p
      at_end = let e : i ≡ n = omega (arith, z.within_n) in rw (← all, ← e) z.reached

      -- its results stand at the places that the array has
      pub union_room : k ≤ length results
      union_room = omega (arith, z.few, z.within_n, all, z.places, size_few page base t w.used)

      pub union_asks : (0 < length (take k results)) × (all_below (types_in p) (take k results) ≡ true)
      union_asks = (
        omega (arith, length-take-le k results union_room, z.some (omega (arith, all, passing_some page w.op t w.passing base w.used h))),
        sound.2,
      )

      pub union_done : {r : Result ℕ Refusal} {q : List ℕ} → entered r q ≡ union_of p (take k results) → Done t page q done r
      unfolding together
      union_done {r} {q} e =
          let g : Grows p q = rw (← e) at (union_sound p sound.1 (take k results) sound.2).grown in
          (e ∙ sym (answer_union t page h ∙ rw at_end refl), remembered_grown p q done sound.1 g z.remembered)

-- ---- on a Known type, and on checked types

module _ (page : List ℕ) (op t : ℕ) (o : 0 < op) (u : t < types_in page) {e : Errors} (is : e ≡ unary_errors page op t) where
  pub known_fails : (count_of e ≡ 0 → ⊥) → {f : Outcome} → f ≡ outcome Checked.Unknown e → concluded (Ok f) page ≡ check_unary page op (Checked.Known t)
  unfolding check_unary
  known_fails c d = rw (d, ← is, ne_eqb (count_of e) 0 c) refl

  module _ (c : count_of e ≡ 0) where
    none : eqb (count_of (unary_errors page op t)) 0 ≡ true
    none = rw (← is) (eq-eqb (count_of e) 0 c)

    pub known_works : Formed page → {done : List (Option ℕ)} → done ≡ replicate types_max None → Working page done t
    known_works f d = record {
      op = op;
      used = u;
      passing = sym (errors_passes page op t f u) ∙ none;
      operator = o;
      remembered = rw d (remembered_none page);
    }

    pub known_done : {r : Result ℕ Refusal} {q : List ℕ} → entered r q ≡ unary_result t page → {d : Result Outcome Refusal} → d ≡ conclude r
        → concluded d q ≡ check_unary page op (Checked.Known t)
    unfolding check_unary
    known_done a d = rw (none, ← a, d) refl

pub unknown_checked : (page : List ℕ) (op : ℕ)
    → concluded (Ok (outcome Checked.Unknown no_error)) page ≡ check_unary page op Checked.Unknown
unfolding check_unary
unknown_checked page op = refl

pub function_checked : (page : List ℕ) (op t : ℕ)
    → concluded (Ok (plain_unary op no_family)) page ≡ check_unary page op (Checked.Function t)
unfolding check_unary
function_checked page op t = refl
