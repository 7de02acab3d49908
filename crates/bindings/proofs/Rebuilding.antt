-- `substitute` and `rebuild`: one law for each return, and the children one after another. Assumes nothing.
use Rattle.std.proofs.Common.{Result, Ok, Err}
use Rattle.std.specs.Prelude.{Option, Some, None}
use mathlib.Core.Path.{◌≡◌, refl, sym, ◌∙◌, ap, ap₂}
use mathlib.Core.Bool.{true, false, cond}
use mathlib.Core.Logic.{⊎_elim}
use mathlib.Core.List.{List, [], ◌∷◌, ◌++◌}
use Prim.Native.Nat.{ℕ, zero, suc, ◌+◌, ◌<◌, ◌≤◌}
use native.Mathlib.Numerals.{add-one}
use native.Mathlib.Nat.{le_refl, le_of_suc-le-suc, eq-or-lt_of_le}
use native.Mathlib.Omega.{arith}
use lib.ListN.{length, get_or, take, set, length-set, replicate, length-replicate}
use lib.Seq.{take-suc, take-set-le, get_or-set_same, length-take-le}
use borrow.Author.Tests.{eq-eqb, ne_eqb}
use Rattle.refusals.specs.declared.Refusal.{Refusal}
use Rattle.kinds.specs.Kinds.{children_max, generic}
use Rattle.types.specs.Store.{types_max, Formed}
use Rattle.types.specs.Types.{types_in, kind_of, arity, child_of, name_of, Measured}
use Rattle.types.specs.Making.{entry_of, Enterable, Ready, enter_answer, enter_page, Grows}
use Rattle.types.proofs.Types.{types_few, few_children, arity_within, child_lower}
use Rattle.types.proofs.Grown.{arity_grown, child_grown, grows_refl, grows_trans}
use Rattle.types.proofs.Filled.{found_none, found_more}
use Rattle.types.proofs.Again.{enter_grows}
use Rattle.bindings.specs.Bindings.{is_bound, bound_to}
use Rattle.bindings.specs.declared.Bindings.{Bindings}
use Rattle.bindings.specs.Generics.{is_entered, Outcome, outcome, so_far, stopped, one_more, kid_next, kids_to, rebuilt, substitute_rule, substitute, Remembered, Working}
use Rattle.bindings.proofs.Substitution.{under, substitute_eq, under_is, entered_plain, enterable, more_types, usable_more, KidsSound, kids_of, substitute_sound, substitute_again}

-- ---- what is remembered

pub remembered_none : (b : Bindings) (page : List ℕ) → Remembered b page (replicate types_max None)
remembered_none b page = record { size = length-replicate {A = Option ℕ} types_max None; right = λ t r e q g f. absurd (found_none types_max t e) }

pub remembered_grown : (b : Bindings) (p q : List ℕ) (done : List (Option ℕ)) → Formed p → Grows p q → Remembered b p done → Remembered b q done
remembered_grown b p q done f g m = record { size = m.size; right = λ t r e s h fs. m.right t r e s (grows_trans p q s f g h) fs }

-- what a working type came to, and what is promised of it
abbrev pub Done : Bindings → ℕ → List ℕ → List ℕ → List (Option ℕ) → Result ℕ Refusal → Type 0
Done b t page after done r = ((r ≡ (substitute b t page).made) × (after ≡ (substitute b t page).store)) × Remembered b after done

module _ (b : Bindings) (page : List ℕ) (done : List (Option ℕ)) (t : ℕ) (w : Working b page done t) (form : Formed page) where
  pub low : t < types_max
  low = omega (arith, w.used, types_few page form)

  is_outcome : (r : Result ℕ Refusal) → substitute b t page ≡ outcome r page → Done b t page page done r
  is_outcome r e = ((sym (ap (λ (o : Outcome). o.made) e), sym (ap (λ (o : Outcome). o.store) e)), w.remembered)

  module _ (k : ℕ) (is : k ≡ kind_of page t) where
    pub done_generic : (name r : ℕ) → k ≡ generic → name ≡ name_of page t → r ≡ cond (is_bound b name) (bound_to b name) t → Done b t page page done (Ok r)
    unfolding substitute_rule
    done_generic name r g n e =
        is_outcome (Ok r) (substitute_eq b t page ∙ rw (← is, eq-eqb k generic g, ← n) (ap (λ (x : ℕ). outcome (Ok x) page) (sym e)))

    module _ (g : k ≡ generic → ⊥) where
      pub done_closed : is_entered k ≡ false → Done b t page page done (Ok t)
      unfolding substitute_rule
      done_closed e = is_outcome (Ok t) (substitute_eq b t page ∙ rw (← is, ne_eqb k generic g, e) refl)

  -- met before
  pub done_before : (r : ℕ) → get_or done t None ≡ Some r → Done b t page page done (Ok r)
  done_before r e = is_outcome (Ok r) (w.remembered.right t r e page (grows_refl page) form)

  pub done_low : (after : List ℕ) (done' : List (Option ℕ)) (m : Result ℕ Refusal) → Done b t page after done' m → (r : ℕ) → m ≡ Ok r → r < types_max
  done_low after done' m z r e =
      let s = substitute_sound b t page form w.used w.usable in
      omega (arith, s.used r (sym z.0.0 ∙ e), types_few (substitute b t page).store s.form)

  -- what it came to, remembered
  pub done_noted : (r : ℕ) (after : List ℕ) (done' : List (Option ℕ)) → Done b t page after done' (Ok r)
      → Done b t page after (set done' t (Some r)) (Ok r)
  done_noted r after done' z = (
    z.0,
    record {
      size = length-set done' t (Some r) ∙ z.1.size;
      right = λ u x e q g f.
          ⊎_elim (λ h. rw (h.0, h.1) (substitute_again b t page form w.used w.usable r (sym z.0.0) q (rw (← z.0.1) g) f))
          (λ h. z.1.right u x h q g f)
          (found_more done' t u r x (omega (arith, low, z.1.size)) e);
    },
  )

-- ---- the children, one after another

-- a refusal ends them
kids_stay : (rule : ℕ → List ℕ → Outcome) (page : List ℕ) (t i n : ℕ) (q : Refusal) (s : List ℕ) → i ≤ n → kids_to rule page t i ≡ stopped q s → kids_to rule page t n ≡ stopped q s
unfolding kids_to kid_next
kids_stay rule page t i zero q s l e = let z : i ≡ 0 = omega arith in rw z at e
kids_stay rule page t i (suc n) q s l e =
    ⊎_elim (λ (x : i ≡ suc n). rw x at e) (λ (x : i < suc n). rw (kids_stay rule page t i n q s (le_of_suc-le-suc x) e) refl) (eq-or-lt_of_le l)

-- where the walk over the children of t stands: the first i are made, their numbers in kids, and the store is p
pub record Kidding (b : Bindings) (page : List ℕ) (t n i : ℕ) (kids p : List ℕ) (done : List (Option ℕ)) : Type 0 where
  pub within_n : i ≤ n
  pub places : length kids ≡ children_max
  pub reached : kids_to (under b t) page t i ≡ so_far (take i kids) p
  pub form : Formed p
  pub remembered : Remembered b p done

module _ (b : Bindings) (page : List ℕ) (done₀ : List (Option ℕ)) (t : ℕ) (w : Working b page done₀ t) (base : Formed page) (n : ℕ) (all : n ≡ arity page t) where
  pub kids_start : (kids : List ℕ) → length kids ≡ children_max → Kidding b page t n 0 kids page done₀
  unfolding kids_to
  kids_start kids l = record { within_n = omega arith; places = l; reached = refl; form = base; remembered = w.remembered }

  few : n ≤ children_max
  few = rw all (few_children page base t w.used)

  module _ (i : ℕ) (kids p : List ℕ) (done : List (Option ℕ)) (k : Kidding b page t n i kids p done) where
    sound : KidsSound page i (so_far (take i kids) p)
    sound = kids_of b page base t w.used w.usable i (omega (arith, all, k.within_n)) (take i kids) p k.reached

    pub few_places : length (take n kids) ≤ children_max
    few_places = omega (arith, few, length-take-le n kids (omega (arith, k.places, few)))

    pub kids_size : length p ≡ length page
    kids_size = sound.0.size

    used : t < types_in p
    used = omega (arith, w.used, sound.0.more)

    module _ (l : i < n) where
      here : i < arity page t
      here = rw (← all) l

      -- what reading the child asks for
      pub child_asks : (t < types_in p) × (i < arity p t)
      child_asks = (used, rw (arity_grown page p base sound.0 t w.used) here)

      module _ (c : ℕ) (is : c ≡ child_of p t i) where
        child_is : c ≡ child_of page t i
        child_is = is ∙ child_grown page p base sound.0 t w.used i here

        pub child_low : c < t
        child_low = rw child_is (child_lower page base t w.used i here)

        -- and substituting it
        pub child_works : Working b p done c
        child_works = record {
          used = omega (arith, child_low, used);
          usable = usable_more b (types_in page) (types_in p) (more_types page p sound.0) w.usable;
          remembered = k.remembered;
        }

        module _ (m : Result ℕ Refusal) (q : List ℕ) (done' : List (Option ℕ)) (z : Done b c p q done' m) where
          next : kids_to (under b t) page t (suc i) ≡ one_more (take i kids) m q
          unfolding kids_to kid_next
          next = rw (k.reached, ← child_is, under_is b t c p child_low, ← z.0.0, ← z.0.1) refl

          pub child_number : (r : ℕ) → m ≡ Ok r → r < types_max
          child_number r e =
              let s = substitute_sound b c p k.form child_works.used child_works.usable in
              let u = s.used r (sym z.0.0 ∙ e) in
              omega (arith, u, types_few (substitute b c p).store s.form)

          pub kids_next : Formed q → (r : ℕ) → m ≡ Ok r → Kidding b page t n (i + 1) (set kids i r) q done'
          unfolding one_more
          kids_next f r e = record {
            within_n = omega arith;
            places = length-set kids i r ∙ k.places;
            reached =
                rw (add-one i)
                (next ∙ rw e (ap (λ (x : List ℕ). so_far x q) (sym
                (take-suc (set kids i r) i 0 (omega (arith, length-set kids i r, k.places, few))
                ∙ ap₂ (λ (x : List ℕ) (y : ℕ). x ++ (y ∷ [])) (take-set-le i kids i r (le_refl i)) (get_or-set_same kids i r 0 (omega (arith, k.places, few)))))));
            form = f;
            remembered = z.1;
          }

          -- a refusal is that of the whole
          pub kids_stop : is_entered (kind_of page t) ≡ true → (x : Refusal) → m ≡ Err x → Done b t page q done' m
          unfolding substitute_rule rebuilt one_more
          kids_stop e x h =
              let s : kids_to (under b t) page t (arity page t) ≡ stopped x q =
              kids_stay (under b t) page t (suc i) (arity page t) x q here (next ∙ rw h refl) in
              let o : substitute b t page ≡ outcome m q =
              substitute_eq b t page ∙ rw (ne_eqb (kind_of page t) generic (entered_plain (kind_of page t) e), e, s, h) refl in
              ((sym (ap (λ (y : Outcome). y.made) o), sym (ap (λ (y : Outcome). y.store) o)), z.1)

    -- all children made: the parent is entered
    module _ (l : n ≤ i) (e : is_entered (kind_of page t) ≡ true) (kind : ℕ) (of : kind ≡ kind_of page t) where
      whole : i ≡ n
      whole = omega (arith, k.within_n)

      count : length (take n kids) ≡ n
      count = length-take-le n kids (omega (arith, k.places, few))

      at_end : kids_to (under b t) page t (arity page t) ≡ so_far (take n kids) p
      at_end = rw (← all) (rw whole at k.reached)

      end_sound : KidsSound page (arity page t) (so_far (take n kids) p)
      end_sound = kids_of b page base t w.used w.usable (arity page t) (le_refl (arity page t)) (take n kids) p at_end

      stands : (f : Formed p) → Enterable p (entry_of kind (take n kids) 0) f
      stands f =
          let v = arity_within page base t w.used in
          rw of (enterable p (take n kids) f (kind_of page t) e (omega (arith, count, all, v.0)) (omega (arith, count, all, v.1)) end_sound.3)

      pub parent_ready : {os ds : List ℕ} → Measured p os ds → Ready p os ds (entry_of kind (take n kids) 0)
      parent_ready m = record { measured = m; enterable = stands m.held.sound }

      pub parent_done : (r : Result ℕ Refusal) (q : List ℕ) → r ≡ enter_answer p (entry_of kind (take n kids) 0) → q ≡ enter_page p (entry_of kind (take n kids) 0)
          → Done b t page q done r
      unfolding substitute_rule rebuilt
      parent_done r q h g =
          let o : substitute b t page ≡ outcome r q =
          substitute_eq b t page ∙ rw (ne_eqb (kind_of page t) generic (entered_plain (kind_of page t) e), e, at_end, h, g, of) refl in
          let grown = enter_grows p (entry_of kind (take n kids) 0) k.form (stands k.form) in (
            (sym (ap (λ (y : Outcome). y.made) o), sym (ap (λ (y : Outcome). y.store) o)),
            rw g (remembered_grown b p (enter_page p (entry_of kind (take n kids) 0)) done k.form grown.0 k.remembered),
          )
