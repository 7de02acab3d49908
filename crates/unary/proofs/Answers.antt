-- What a check that passes answers: its equations, that it leaves a store in form that has grown (`answer_sound`), and that a type
-- checked once is found again in every store that grows out of the one it left (`answer_again`). Assumes nothing.
use Rattle.std.proofs.Common.{Result, Ok, Err}
use mathlib.Core.Path.{◌≡◌, refl, sym, ◌∙◌, ap}
use mathlib.Core.Bool.{Bool, true, false, ◌||◌, cond}
use mathlib.Core.List.{List, []}
use Prim.Native.Nat.{ℕ, zero, suc, ◌<◌, ◌≤◌}
use native.Mathlib.Nat.{not-suc-le-zero, le_refl}
use native.Mathlib.Omega.{arith}
use lib.Dec.{eqb}
use borrow.Author.Tests.{eqb-true}
use Rattle.refusals.specs.declared.Refusal.{Refusal}
use Rattle.kinds.specs.Kinds.{null, is_union}
use Rattle.types.specs.Store.{Formed}
use Rattle.types.specs.Types.{types_in, kind_of}
use Rattle.types.specs.Recur.{below}
use Rattle.types.specs.Making.{Grows}
use Rattle.types.specs.Calls.{all_below}
use Rattle.types.proofs.Recur.{below_lt, cov_eq}
use Rattle.types.proofs.Grown.{kind_grown, grows_refl, grows_trans}
use Rattle.operators.specs.Operators.{int, float, bool, minus, bang, family_of, taker_of}
use Rattle.members.specs.Members.{size_of, member, merged, Entered, entered, union_of}
use Rattle.members.proofs.Members.{member_lower, members_grown}
use Rattle.members.proofs.Unions.{below_more, merged_below, Sound, Again, refused_not, itself, union_sound, union_again}
use Rattle.unary.proofs.Passing.{passing_taken, passing_member, passes_grown}
use Rattle.unary.specs.Unary.{Results, so_far, stopped, one_more, result_next, results_to, together}
use Rattle.unary.specs.Unary.{unary_passes, answer_rule, unary_result}

-- ---- its equations

-- the outcomes for types below t
unfoldable pub under : ℕ → ℕ → List ℕ → Entered
under t = below (λ (page : List ℕ). entered (Ok null) page) t unary_result

answer_eq : (t : ℕ) (page : List ℕ) → unary_result t page ≡ answer_rule t (under t) page
unfolding unary_result under
answer_eq t page = ap (λ (f : List ℕ → Entered). f page) (cov_eq (λ (x : List ℕ). entered (Ok null) x) answer_rule t)

pub under_is : (t x : ℕ) (page : List ℕ) → x < t → under t x page ≡ unary_result x page
unfolding under
under_is t x page l = ap (λ (f : List ℕ → Entered). f page) (below_lt (λ (s : List ℕ). entered (Ok null) s) t unary_result x l)

pub answer_plain : (t : ℕ) (page : List ℕ) → is_union (kind_of page t) ≡ false
    → unary_result t page ≡ entered (Ok (family_of (kind_of page t))) page
unfolding answer_rule
answer_plain t page h = answer_eq t page ∙ rw h refl

pub answer_union : (t : ℕ) (page : List ℕ) → is_union (kind_of page t) ≡ true
    → unary_result t page ≡ together (results_to (under t) page t (size_of page t))
unfolding answer_rule
answer_union t page h = answer_eq t page ∙ rw h refl

-- ---- the family of a kind that an operator takes is a fixed type
taken_low : (k op : ℕ) → taker_of k ≡ op → 0 < op → family_of k < 19
unfolding taker_of
taken_low k op e l = go (eqb (family_of k) int) refl (eqb (family_of k) float) refl (eqb (family_of k) bool) refl e
  where
    go : (a : Bool) → eqb (family_of k) int ≡ a → (b : Bool) → eqb (family_of k) float ≡ b → (c : Bool) → eqb (family_of k) bool ≡ c
        → cond (a || b) minus (cond c bang 0) ≡ op → family_of k < 19
    go true h b h' c h'' x = omega (arith, eqb-true (family_of k) int h)
    go false h true h' c h'' x = omega (arith, eqb-true (family_of k) float h')
    go false h false h' true h'' x = omega (arith, eqb-true (family_of k) bool h'')
    go false h false h' false h'' x = absurd (omega (arith, x))

-- ---- the store afterwards

-- after some members: the store has grown and is in form, and the results are in use
abbrev pub ResultsSound : List ℕ → Results → Type 0
ResultsSound page (so_far rs s) = Grows page s × Formed s × (all_below (types_in s) rs ≡ true)
ResultsSound page (stopped q s) = Grows page s × Formed s

-- a step from the results so far to one more
result_sound : (page rs s : List ℕ) → Formed page → ResultsSound page (so_far rs s) → (o : Entered) → Sound s o
    → ResultsSound page (one_more rs o.made o.store)
unfolding one_more
result_sound page rs s f h o z = go o.made refl
  where
    go : (m : Result ℕ Refusal) → o.made ≡ m → ResultsSound page (one_more rs m o.store)
    go (Ok r) e =
        let old = below_more (types_in s) (types_in o.store) rs (omega (arith, z.grown.more)) h.2 in
        (grows_trans page s o.store f h.0 z.grown, z.form, merged_below r rs (types_in o.store) old (z.used r e))
    go (Err q) e = (grows_trans page s o.store f h.0 z.grown, z.form)

module _ (rule : ℕ → List ℕ → Entered) (page : List ℕ) (f : Formed page) (t : ℕ)
    (each : (i : ℕ) → i < size_of page t → (s : List ℕ) → Formed s → Grows page s → Sound s (rule (member page t i) s)) where
  results_sound : (i : ℕ) → i ≤ size_of page t → ResultsSound page (results_to rule page t i)
  unfolding results_to result_next
  results_sound zero l = (grows_refl page, f, refl)
  results_sound (suc i) l = go (results_to rule page t i) (results_sound i (omega arith))
    where
      go : (k : Results) → ResultsSound page k → ResultsSound page (result_next rule (member page t i) k)
      go (so_far rs s) h = result_sound page rs s f h (rule (member page t i) s) (each i l s h.1 h.0)
      go (stopped q s) h = h

  together_sound : (k : Results) → ResultsSound page k → Sound page (together k)
  unfolding together
  together_sound (so_far rs s) h =
      let z = union_sound s h.1 rs h.2 in
      record { grown = grows_trans page s _ f h.0 z.grown; form = z.form; used = z.used }
  together_sound (stopped q s) h = record { grown = h.0; form = h.1; used = λ r x. absurd (refused_not q r x) }

-- ---- every type that passes

-- a type in use that passes
abbrev pub Passing : ℕ → List ℕ → ℕ → Type 0
Passing op page t = Formed page × (t < types_in page) × (unary_passes page op t ≡ true)

-- a member passes in every store that has grown out of the union's
pub member_passes_lem : (op : ℕ) {page : List ℕ} {t : ℕ} → Passing op page t → is_union (kind_of page t) ≡ true
    → (i : ℕ) → i < size_of page t → (s : List ℕ) → Formed s → Grows page s → Passing op s (member page t i)
member_passes_lem op {page} {t} p h i l s fs g =
    let low = member_lower page p.0 t p.1 h i l in (
      fs,
      omega (arith, p.1, g.more),
      passes_grown page s p.0 fs g op (member page t i) (omega (arith, p.1)) ∙ passing_member page op t p.2 p.0 p.1 h i l,
    )

module _ (op : ℕ) (o : 0 < op) where
  sound_below : (m t : ℕ) → t < m → (page : List ℕ) → Passing op page t → Sound page (unary_result t page)
  sound_below zero t l page p = absurd (not-suc-le-zero l)
  sound_below (suc m) t l page p = go (is_union (kind_of page t)) refl (λ x k. sound_below m x (omega arith))
    where
      go : (b : Bool) → is_union (kind_of page t) ≡ b → ((x : ℕ) → x < t → (s : List ℕ) → Passing op s x → Sound s (unary_result x s))
          → Sound page (unary_result t page)
      go false h ih =
          rw (answer_plain t page h)
          (itself page _ p.0 (omega (arith, taken_low (kind_of page t) op (passing_taken page op t p.2 h) o)))
      go true h ih =
          let each : (i : ℕ) → i < size_of page t → (s : List ℕ) → Formed s → Grows page s → Sound s (under t (member page t i) s) =
          λ i k s fs g.
          let low = member_lower page p.0 t p.1 h i k in
          rw (under_is t (member page t i) s low) (ih (member page t i) low s (member_passes_lem op p h i k s fs g)) in
          let all = results_sound (under t) page p.0 t each (size_of page t) (le_refl (size_of page t)) in
          rw (answer_union t page h) (together_sound (under t) page p.0 t each _ all)

  pub answer_sound : (t : ℕ) (page : List ℕ) → Passing op page t → Sound page (unary_result t page)
  answer_sound t page = sound_below (suc t) t (omega arith) page

-- ---- again

list_in : Results → List ℕ
list_in (so_far rs s) = rs
list_in (stopped q s) = []

store_in : Results → List ℕ
store_in (so_far rs s) = s
store_in (stopped q s) = s

stopped_not : (q : Refusal) (s rs u : List ℕ) → stopped q s ≡ so_far rs u → ⊥
stopped_not q s rs u e = let z : ◌≡◌ {A = ℕ} 0 1 = cc in omega arith

-- one more result: what it was, and the store that it left
one_made : (rs : List ℕ) (m : Result ℕ Refusal) (s rs' s' : List ℕ) → one_more rs m s ≡ so_far rs' s'
    → (r : ℕ) × (m ≡ Ok r) × (merged r rs ≡ rs') × (s ≡ s')
unfolding one_more list_in store_in
one_made rs (Ok r) s rs' s' e = (r, refl, ap list_in e, ap store_in e)
one_made rs (Err q) s rs' s' e = absurd (stopped_not q s rs' s' e)

module _ (op : ℕ) (o : 0 < op) (page : List ℕ) (t : ℕ) (p : Passing op page t) (h : is_union (kind_of page t) ≡ true) where
  -- the outcomes for members are sound
  low : (i : ℕ) → i < size_of page t → (s : List ℕ) → Formed s → Grows page s → Sound s (under t (member page t i) s)
  low i k s fs g =
      rw (under_is t (member page t i) s (member_lower page p.0 t p.1 h i k))
      (answer_sound op o (member page t i) s (member_passes_lem op p h i k s fs g))

  pub results_of : (i : ℕ) → i ≤ size_of page t → (rs s : List ℕ) → results_to (under t) page t i ≡ so_far rs s
      → ResultsSound page (so_far rs s)
  results_of i l rs s e = rw e at (results_sound (under t) page p.0 t low i l)

  module _ (ih : (i : ℕ) → i < size_of page t → (s : List ℕ) → Formed s → Grows page s → Again (under t (member page t i)) s) where
    -- the results of the first i members are found again
    Repeated : ℕ → Type 0
    Repeated i = (rs s : List ℕ) → results_to (under t) page t i ≡ so_far rs s
        → (q : List ℕ) → Grows s q → Formed q → results_to (under t) q t i ≡ so_far rs q

    results_again : (i : ℕ) → i ≤ size_of page t → Repeated i
    unfolding Repeated results_to result_next list_in one_more
    results_again zero l rs s e q g fq = ap (λ (x : List ℕ). so_far x q) (ap list_in e)
    results_again (suc i) l rs s e q g fq = go (results_to (under t) page t i) refl e (results_again i (omega arith))
      where
        go : (k : Results) → results_to (under t) page t i ≡ k → result_next (under t) (member page t i) k ≡ so_far rs s → Repeated i
            → result_next (under t) (member q t i) (results_to (under t) q t i) ≡ so_far rs q
        go (stopped x s') w k rec = absurd (stopped_not x s' rs s k)
        go (so_far rs' s') w k rec =
            let x = member page t i in
            let z = results_of i (omega arith) rs' s' w in
            let d = low i l s' z.1 z.0 in
            let m = one_made rs' (under t x s').made (under t x s').store rs s k in
            let to_q : Grows (under t x s').store q = rw m.3 g in
            let from_s = grows_trans s' (under t x s').store q z.1 d.grown to_q in
            let same = members_grown page q p.0 (grows_trans page s' q p.0 z.0 from_s) t p.1 in
            rw (same, rec rs' s' w q from_s fq, ih i l s' z.1 z.0 m.0 m.1 q to_q fq)
            (ap (λ (y : List ℕ). so_far y q) m.2)

    -- their union too
    together_again : (k : Results) → results_to (under t) page t (size_of page t) ≡ k → (r : ℕ) → (together k).made ≡ Ok r
        → (q : List ℕ) → Grows (together k).store q → Formed q
        → together (results_to (under t) q t (size_of page t)) ≡ entered (Ok r) q
    unfolding together Repeated
    together_again (stopped x s) e r k q g fq = absurd (refused_not x r k)
    together_again (so_far rs s) e r k q g fq =
        let z = results_of (size_of page t) (le_refl (size_of page t)) rs s e in
        let from_s = grows_trans s (union_of s rs).store q z.1 (union_sound s z.1 rs z.2).grown g in
        rw (results_again (size_of page t) (le_refl (size_of page t)) rs s e q from_s fq) (union_again s z.1 rs z.2 r k q g fq)

module _ (op : ℕ) (o : 0 < op) where
  again_below : (m t : ℕ) → t < m → (page : List ℕ) → Passing op page t → Again (unary_result t) page
  again_below zero t l page p r e q g fq = absurd (not-suc-le-zero l)
  again_below (suc m) t l page p r e q g fq = go (is_union (kind_of page t)) refl (λ x k. again_below m x (omega arith))
    where
      grown : Grows page q
      grown = grows_trans page (unary_result t page).store q p.0 (answer_sound op o t page p).grown g

      kind : kind_of q t ≡ kind_of page t
      kind = kind_grown page q p.0 grown t p.1

      go : (b : Bool) → is_union (kind_of page t) ≡ b → ((x : ℕ) → x < t → (s : List ℕ) → Passing op s x → Again (unary_result x) s)
          → unary_result t q ≡ entered (Ok r) q
      go false h ih =
          answer_plain t q (rw kind h)
          ∙ rw kind (ap (λ (x : Result ℕ Refusal). entered x q) (sym (ap (λ (x : Entered). x.made) (answer_plain t page h)) ∙ e))
      go true h ih =
          let members : (i : ℕ) → i < size_of page t → (s : List ℕ) → Formed s → Grows page s → Again (under t (member page t i)) s =
          λ i k s fs gs r' e' q' g' fq'.
          let x = member page t i in
          let x_low = member_lower page p.0 t p.1 h i k in
          under_is t x q' x_low
          ∙ ih x x_low s (member_passes_lem op p h i k s fs gs) r' (rw (under_is t x s x_low) at e') q' (rw (under_is t x s x_low) at g') fq' in
          let is = answer_union t page h in
          answer_union t q (rw kind h)
          ∙ rw (members_grown page q p.0 grown t p.1)
          (together_again op o page t p h members (results_to (under t) page t (size_of page t)) refl r (rw is at e) q (rw is at g) fq)

  pub answer_again : (t : ℕ) (page : List ℕ) → Passing op page t → Again (unary_result t) page
  answer_again t page = again_below (suc t) t (omega arith) page
