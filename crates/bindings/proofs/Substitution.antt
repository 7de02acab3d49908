-- `substitute`: it leaves a store in form that has grown (`substitute_sound`), and a type substituted once is found again in every
-- store that grows out of the one it left (`substitute_again`). Assumes nothing.
use Rattle.std.proofs.Common.{Result, Ok, Err}
use mathlib.Core.Path.{◌≡◌, refl, ◌∙◌, ap, ap₂}
use mathlib.Core.Bool.{Bool, true, false, cond}
use mathlib.Core.List.{List, [], ◌∷◌, ◌++◌}
use Prim.Native.Nat.{ℕ, zero, suc, ◌<◌, ◌≤◌}
use native.Mathlib.Nat.{not-suc-le-zero, le_refl}
use native.Mathlib.Omega.{arith}
use lib.Dec.{ltb, leb, eqb}
use lib.ListN.{length, length-append}
use borrow.Author.Tests.{lt-ltb, ltb-true, eqb-true, leb-true, le-leb, lt-leb}
use Rattle.refusals.specs.declared.Refusal.{Refusal}
use Rattle.pages.proofs.Quant.{and_true}
use Rattle.kinds.specs.Kinds.{callback, generic, is_built, is_named, is_stored, fewest, most}
use Rattle.types.specs.Store.{Formed}
use Rattle.types.specs.Types.{types_in, kind_of, arity, child_of, name_of}
use Rattle.types.specs.Recur.{below}
use Rattle.types.specs.Making.{entry_of, Enterable, enter_page, Grows}
use Rattle.types.specs.Calls.{all_below}
use Rattle.types.proofs.Recur.{below_lt, cov_eq}
use Rattle.types.proofs.Types.{child_lower, arity_within}
use Rattle.types.proofs.Grown.{kind_grown, arity_grown, child_grown, name_grown, grows_refl, grows_trans}
use Rattle.types.proofs.Entries.{entry_whole, entry_parts}
use Rattle.types.proofs.Again.{at_inj, enter_grows, enter_used, enter_again}
use Rattle.bindings.specs.Bindings.{place_in, is_bound, bound_to, Usable}
use Rattle.bindings.specs.declared.Bindings.{Bindings}
use Rattle.bindings.specs.Generics.{is_entered, Outcome, outcome, Kids, so_far, stopped, one_more, kid_next, kids_to, rebuilt, substitute_rule, substitute}

-- ---- its equation

module _ (b : Bindings) where
  -- the outcomes for types below t
  unfoldable pub under : ℕ → ℕ → List ℕ → Outcome
  under t = below (λ (page : List ℕ). outcome (Ok 0) page) t (substitute b)

  pub substitute_eq : (t : ℕ) (page : List ℕ) → substitute b t page ≡ substitute_rule b t (under t) page
  unfolding substitute under
  substitute_eq t page = ap (λ (f : List ℕ → Outcome). f page) (cov_eq (λ (x : List ℕ). outcome (Ok 0) x) (λ s rule. substitute_rule b s rule) t)

  pub under_is : (t c : ℕ) (page : List ℕ) → c < t → under t c page ≡ substitute b c page
  unfolding under
  under_is t c page l = ap (λ (f : List ℕ → Outcome). f page) (below_lt (λ (x : List ℕ). outcome (Ok 0) x) t (substitute b) c l)

-- ---- numbers below a bound

below_more : (t u : ℕ) (ks : List ℕ) → t ≤ u → all_below t ks ≡ true → all_below u ks ≡ true
below_more t u [] h e = refl
below_more t u (k ∷ ks) h e =
    let z = and_true (ltb k t) (all_below t ks) e in
    let l : k < u = omega (arith, ltb-true k t z.0) in
    rw (lt-ltb k u l) (below_more t u ks h z.1)

below_last : (t : ℕ) (ks : List ℕ) (r : ℕ) → all_below t ks ≡ true → r < t → all_below t (ks ++ (r ∷ [])) ≡ true
below_last t [] r e l = rw (lt-ltb r t l) refl
below_last t (k ∷ ks) r e l = let z = and_true (ltb k t) (all_below t ks) e in rw z.0 (below_last t ks r z.1 l)

-- what was refused has no number
refused_not : (q : Refusal) (r : ℕ) → ◌≡◌ {A = Result ℕ Refusal} (Err q) (Ok r) → ⊥
refused_not q r e = let z : ◌≡◌ {A = ℕ} 0 1 = cc in omega arith

-- ---- a kind that is entered

entered_bounds : (k : ℕ) → is_entered k ≡ true → (19 ≤ k) × (k ≤ 31)
entered_bounds k h = go (is_built k) refl
  where
    go : (x : Bool) → is_built k ≡ x → (19 ≤ k) × (k ≤ 31)
    go true e = let z = and_true (leb 19 k) (leb k 28) e in (leb-true 19 k z.0, omega (arith, leb-true k 28 z.1))
    go false e = let z : k ≡ callback = eqb-true k callback (rw e at h) in (omega (arith, z), omega (arith, z))

pub entered_plain : (k : ℕ) → is_entered k ≡ true → k ≡ generic → ⊥
entered_plain k h e = omega (arith, e, (entered_bounds k h).1)

entered_stored : (k : ℕ) → is_entered k ≡ true → is_stored k ≡ true
entered_stored k h = let z = entered_bounds k h in rw (le-leb 19 k z.0, le-leb k 37 (omega (arith, z.1))) refl

entered_nameless : (k : ℕ) → is_entered k ≡ true → is_named k ≡ false
entered_nameless k h = let z = entered_bounds k h in rw (lt-leb 32 k (omega (arith, z.1))) refl

-- what its children come to can be entered
pub enterable : (s ks : List ℕ) (f : Formed s) (k : ℕ) → is_entered k ≡ true → fewest k ≤ length ks → length ks ≤ most k → all_below (types_in s) ks ≡ true
    → Enterable s (entry_of k ks 0) f
enterable s ks f k h a b u = record {
  whole = entry_whole k ks 0;
  parts = entry_parts k ks 0 f.names (types_in s) (entered_stored k h) u (rw (entered_nameless k h) refl) (rw (le-leb (fewest k) (length ks) a, le-leb (length ks) (most k) b) refl);
}

-- ---- the store afterwards

-- it has grown and is in form, and what was made is in use
pub record Sound (page : List ℕ) (o : Outcome) : Type 0 where
  pub grown : Grows page o.store
  pub form : Formed o.store
  pub used : (r : ℕ) → o.made ≡ Ok r → r < types_in o.store

-- likewise after i children
abbrev pub KidsSound : List ℕ → ℕ → Kids → Type 0
KidsSound page i (so_far ks s) = Grows page s × Formed s × (length ks ≡ i) × (all_below (types_in s) ks ≡ true)
KidsSound page i (stopped q s) = Grows page s × Formed s

pub more_types : (p q : List ℕ) → Grows p q → types_in p ≤ types_in q
more_types p q g = omega (arith, g.more)

-- a step from the children so far to one more
kid_sound : (page : List ℕ) (i : ℕ) (ks s : List ℕ) → Formed page → KidsSound page i (so_far ks s) → (o : Outcome) → Sound s o
    → KidsSound page (suc i) (one_more ks o.made o.store)
unfolding one_more
kid_sound page i ks s f h o z = go o.made refl
  where
    go : (m : Result ℕ Refusal) → o.made ≡ m → KidsSound page (suc i) (one_more ks m o.store)
    go (Ok r) e = (
      grows_trans page s o.store f h.0 z.grown,
      z.form,
      length-append ks (r ∷ []) ∙ omega (arith, h.2),
      below_last (types_in o.store) ks r (below_more (types_in s) (types_in o.store) ks (more_types s o.store z.grown) h.3) (z.used r e),
    )
    go (Err q) e = (grows_trans page s o.store f h.0 z.grown, z.form)

module _ (rule : ℕ → List ℕ → Outcome) (page : List ℕ) (f : Formed page) (t : ℕ) (u : t < types_in page)
    (ih : (c : ℕ) → c < t → (s : List ℕ) → Formed s → Grows page s → Sound s (rule c s)) where
  kids_sound : (i : ℕ) → i ≤ arity page t → KidsSound page i (kids_to rule page t i)
  unfolding kids_to kid_next
  kids_sound zero l = (grows_refl page, f, refl, refl)
  kids_sound (suc i) l = go (kids_to rule page t i) (kids_sound i (omega arith))
    where
      go : (k : Kids) → KidsSound page i k → KidsSound page (suc i) (kid_next rule (child_of page t i) k)
      go (so_far ks s) h = kid_sound page i ks s f h (rule (child_of page t i) s) (ih (child_of page t i) (child_lower page f t u i l) s h.1 h.0)
      go (stopped q s) h = h

  rebuilt_sound : is_entered (kind_of page t) ≡ true → (k : Kids) → KidsSound page (arity page t) k → Sound page (rebuilt (kind_of page t) k)
  unfolding rebuilt
  rebuilt_sound e (so_far ks s) h =
      let w = arity_within page f t u in
      let a : fewest (kind_of page t) ≤ length ks = omega (arith, w.0, h.2) in
      let c : length ks ≤ most (kind_of page t) = omega (arith, w.1, h.2) in
      let n = enterable s ks h.1 (kind_of page t) e a c h.3 in
      let g = enter_grows s (entry_of (kind_of page t) ks 0) h.1 n in
      record {
        grown = grows_trans page s _ f h.0 g.0;
        form = g.1;
        used = λ r q. enter_used s (entry_of (kind_of page t) ks 0) h.1 n r q;
      }
  rebuilt_sound e (stopped q s) h = record { grown = h.0; form = h.1; used = λ r x. absurd (refused_not q r x) }

-- ---- every type

pub usable_more : (b : Bindings) (t u : ℕ) → t ≤ u → Usable b t → Usable b u
usable_more b t u h z = record { few = z.few; used = λ i l. omega (arith, z.used i l) }

-- a bound name's type is in use
bound_used : (b : Bindings) (t name : ℕ) → Usable b t → is_bound b name ≡ true → bound_to b name < t
unfolding is_bound bound_to
bound_used b t name z h = z.used (place_in b b.count name) (ltb-true (place_in b b.count name) b.count h)

itself : (page : List ℕ) (x : ℕ) → Formed page → x < types_in page → Sound page (outcome (Ok x) page)
itself page x f l = record { grown = grows_refl page; form = f; used = λ r e. rw (← at_inj x r e) l }

module _ (b : Bindings) where
  sound_below : (m t : ℕ) → t < m → (page : List ℕ) → Formed page → t < types_in page → Usable b (types_in page) → Sound page (substitute b t page)
  unfolding substitute_rule
  sound_below zero t l page f u z = absurd (not-suc-le-zero l)
  sound_below (suc m) t l page f u z = rw (substitute_eq b t page) (go (eqb (kind_of page t) generic) (is_entered (kind_of page t)) refl (λ c k. sound_below m c (omega arith)))
    where
      which : (x : Bool) → is_bound b (name_of page t) ≡ x → cond x (bound_to b (name_of page t)) t < types_in page
      which true e = bound_used b (types_in page) (name_of page t) z e
      which false e = u

      go : (x y : Bool) → is_entered (kind_of page t) ≡ y
          → ((c : ℕ) → c < t → (s : List ℕ) → Formed s → c < types_in s → Usable b (types_in s) → Sound s (substitute b c s))
          → Sound page (cond x (outcome (Ok (cond (is_bound b (name_of page t)) (bound_to b (name_of page t)) t)) page)
          (cond y (rebuilt (kind_of page t) (kids_to (under b t) page t (arity page t))) (outcome (Ok t) page)))
      go true y e ih = itself page _ f (which (is_bound b (name_of page t)) refl)
      go false true e ih =
          let low : (c : ℕ) → c < t → (s : List ℕ) → Formed s → Grows page s → Sound s (under b t c s) =
          λ c k s fs g. rw (under_is b t c s k) (ih c k s fs (omega (arith, u, k, g.more)) (usable_more b (types_in page) (types_in s) (more_types page s g) z)) in
          rebuilt_sound (under b t) page f t u low e _ (kids_sound (under b t) page f t u low (arity page t) (le_refl (arity page t)))
      go false false e ih = itself page t f u

  pub substitute_sound : (t : ℕ) (page : List ℕ) → Formed page → t < types_in page → Usable b (types_in page) → Sound page (substitute b t page)
  substitute_sound t page f u z = sound_below (suc t) t (omega arith) page f u z

-- ---- again

list_in : Kids → List ℕ
list_in (so_far ks s) = ks
list_in (stopped q s) = []

store_in : Kids → List ℕ
store_in (so_far ks s) = s
store_in (stopped q s) = s

stopped_not : (q : Refusal) (s ks u : List ℕ) → stopped q s ≡ so_far ks u → ⊥
stopped_not q s ks u e = let z : ◌≡◌ {A = ℕ} 0 1 = cc in omega arith

-- one more child that was made: what it was, and the store that it left
one_made : (ks : List ℕ) (m : Result ℕ Refusal) (s ks' s' : List ℕ) → one_more ks m s ≡ so_far ks' s' → (r : ℕ) × (m ≡ Ok r) × (ks ++ (r ∷ []) ≡ ks') × (s ≡ s')
unfolding one_more list_in store_in
one_made ks (Ok r) s ks' s' e = (r, refl, ap list_in e, ap store_in e)
one_made ks (Err q) s ks' s' e = absurd (stopped_not q s ks' s' e)

module _ (b : Bindings) (page : List ℕ) (f : Formed page) (t : ℕ) (u : t < types_in page) (z : Usable b (types_in page)) where
  -- the outcomes for lower types are sound
  low : (c : ℕ) → c < t → (s : List ℕ) → Formed s → Grows page s → Sound s (under b t c s)
  low c k s fs g =
      rw (under_is b t c s k)
      (substitute_sound b c s fs (omega (arith, u, k, g.more)) (usable_more b (types_in page) (types_in s) (more_types page s g) z))

  pub kids_of : (i : ℕ) → i ≤ arity page t → (ks s : List ℕ) → kids_to (under b t) page t i ≡ so_far ks s → KidsSound page i (so_far ks s)
  kids_of i l ks s e = rw e at (kids_sound (under b t) page f t u low i l)

  module _ (ih : (c : ℕ) → c < t → (s : List ℕ) → Formed s → Grows page s → (r : ℕ) → (under b t c s).made ≡ Ok r
      → (q : List ℕ) → Grows (under b t c s).store q → Formed q → under b t c q ≡ outcome (Ok r) q) where
    kids_again : (i : ℕ) → i ≤ arity page t → (ks s : List ℕ) → kids_to (under b t) page t i ≡ so_far ks s
        → (q : List ℕ) → Grows s q → Formed q → kids_to (under b t) q t i ≡ so_far ks q
    unfolding kids_to kid_next list_in one_more
    kids_again zero l ks s e q g fq = ap (λ (x : List ℕ). so_far x q) (ap list_in e)
    kids_again (suc i) l ks s e q g fq = go (kids_to (under b t) page t i) refl e (kids_again i (omega arith))
      where
        go : (k : Kids) → kids_to (under b t) page t i ≡ k → kid_next (under b t) (child_of page t i) k ≡ so_far ks s
            → ((ks' s' : List ℕ) → kids_to (under b t) page t i ≡ so_far ks' s' → (q' : List ℕ) → Grows s' q' → Formed q' → kids_to (under b t) q' t i ≡ so_far ks' q')
            → kid_next (under b t) (child_of q t i) (kids_to (under b t) q t i) ≡ so_far ks q
        go (stopped x s') p h rec = absurd (stopped_not x s' ks s h)
        go (so_far ks' s') p h rec =
            let c = child_of page t i in
            let c_low = child_lower page f t u i l in
            let k = kids_of i (omega arith) ks' s' p in
            let w = low c c_low s' k.1 k.0 in
            let m = one_made ks' (under b t c s').made (under b t c s').store ks s h in
            let to_q : Grows (under b t c s').store q = rw m.3 g in
            let from_page = grows_trans page s' q f k.0 (grows_trans s' (under b t c s').store q k.1 w.grown to_q) in
            let again = ih c c_low s' k.1 k.0 m.0 m.1 q to_q fq in
            rw (child_grown page q f from_page t u i l, rec ks' s' p q (grows_trans s' (under b t c s').store q k.1 w.grown to_q) fq, again)
            (ap (λ (x : List ℕ). so_far x q) m.2)

    -- the parent too
    rebuilt_again : is_entered (kind_of page t) ≡ true → (k : Kids) → kids_to (under b t) page t (arity page t) ≡ k → (r : ℕ)
        → (rebuilt (kind_of page t) k).made ≡ Ok r → (q : List ℕ) → Grows page q → Grows (rebuilt (kind_of page t) k).store q → Formed q
        → rebuilt (kind_of page t) (kids_to (under b t) q t (arity page t)) ≡ outcome (Ok r) q
    unfolding rebuilt
    rebuilt_again e (stopped x s) p r h q gp g fq = absurd (refused_not x r h)
    rebuilt_again e (so_far ks s) p r h q gp g fq =
        let k = kids_of (arity page t) (le_refl (arity page t)) ks s p in
        let w = arity_within page f t u in
        let n = enterable s ks k.1 (kind_of page t) e (omega (arith, w.0, k.2)) (omega (arith, w.1, k.2)) k.3 in
        let entry = entry_of (kind_of page t) ks 0 in
        let to_q = grows_trans s (enter_page s entry) q k.1 (enter_grows s entry k.1 n).0 g in
        let a = enter_again s entry k.1 n r h q g fq in
        rw (kids_again (arity page t) (le_refl (arity page t)) ks s p q to_q fq) (ap₂ outcome a.0 a.1)

pub generic_named : (k : ℕ) → eqb k generic ≡ true → is_named k ≡ true
generic_named k e = rw (eqb-true k generic e) refl

module _ (b : Bindings) where
  again_below : (m t : ℕ) → t < m → (page : List ℕ) → Formed page → t < types_in page → Usable b (types_in page) → (r : ℕ) → (substitute b t page).made ≡ Ok r
      → (q : List ℕ) → Grows (substitute b t page).store q → Formed q → substitute b t q ≡ outcome (Ok r) q
  unfolding substitute_rule
  again_below zero t l page f u z r h q g fq = absurd (not-suc-le-zero l)
  again_below (suc m) t l page f u z r h q g fq =
      let gp = grows_trans page (substitute b t page).store q f (substitute_sound b t page f u z).grown g in
      let ih : (c : ℕ) → c < t → (s : List ℕ) → Formed s → Grows page s → (r' : ℕ) → (under b t c s).made ≡ Ok r'
      → (q' : List ℕ) → Grows (under b t c s).store q' → Formed q' → under b t c q' ≡ outcome (Ok r') q' =
      λ c k s fs gs r' h' q' g' fq'.
      under_is b t c q' k
      ∙ again_below m c (omega arith) s fs (omega (arith, u, k, gs.more)) (usable_more b (types_in page) (types_in s) (more_types page s gs) z) r'
      (rw (under_is b t c s k) at h') q' (rw (under_is b t c s k) at g') fq' in
      substitute_eq b t q
      ∙ rw (kind_grown page q f gp t u, arity_grown page q f gp t u)
      (go gp ih (eqb (kind_of page t) generic) (is_entered (kind_of page t)) refl refl (rw (substitute_eq b t page) at h) (rw (substitute_eq b t page) at g))
    where
      go : Grows page q → ((c : ℕ) → c < t → (s : List ℕ) → Formed s → Grows page s → (r' : ℕ) → (under b t c s).made ≡ Ok r'
          → (q' : List ℕ) → Grows (under b t c s).store q' → Formed q' → under b t c q' ≡ outcome (Ok r') q')
          → (x y : Bool) → eqb (kind_of page t) generic ≡ x → is_entered (kind_of page t) ≡ y
          → (cond x (outcome (Ok (cond (is_bound b (name_of page t)) (bound_to b (name_of page t)) t)) page)
          (cond y (rebuilt (kind_of page t) (kids_to (under b t) page t (arity page t))) (outcome (Ok t) page))).made ≡ Ok r
          → Grows (cond x (outcome (Ok (cond (is_bound b (name_of page t)) (bound_to b (name_of page t)) t)) page)
          (cond y (rebuilt (kind_of page t) (kids_to (under b t) page t (arity page t))) (outcome (Ok t) page))).store q
          → cond x (outcome (Ok (cond (is_bound b (name_of q t)) (bound_to b (name_of q t)) t)) q)
          (cond y (rebuilt (kind_of page t) (kids_to (under b t) q t (arity page t))) (outcome (Ok t) q)) ≡ outcome (Ok r) q
      go gp ih true y e d h g = rw (name_grown page q f gp t u (generic_named (kind_of page t) e)) (ap (λ (x : Result ℕ Refusal). outcome x q) h)
      go gp ih false true e d h g = rebuilt_again b page f t u z ih d (kids_to (under b t) page t (arity page t)) refl r h q gp g fq
      go gp ih false false e d h g = ap (λ (x : Result ℕ Refusal). outcome x q) h

  pub substitute_again : (t : ℕ) (page : List ℕ) → Formed page → t < types_in page → Usable b (types_in page) → (r : ℕ) → (substitute b t page).made ≡ Ok r
      → (q : List ℕ) → Grows (substitute b t page).store q → Formed q → substitute b t q ≡ outcome (Ok r) q
  substitute_again t page = again_below (suc t) t (omega arith) page
