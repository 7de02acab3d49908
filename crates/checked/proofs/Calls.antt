-- The calls on checked types: one law for each return. Assumes nothing.
use Rattle.std.specs.Prelude.{Option}
use Rattle.std.proofs.Common.{Result, Ok, Err}
use Rattle.std.specs.Prelude.{None}
use mathlib.Core.Path.{◌≡◌, refl, sym, ◌∙◌, ap}
use mathlib.Core.Bool.{Bool, true, false, ◌&&◌, not}
use mathlib.Core.List.{List, [], ◌∷◌}
use Prim.Native.Nat.{ℕ, ◌-◌, ◌<◌, ◌≤◌}
use native.Mathlib.Omega.{arith}
use lib.ListN.{length, get_or, replicate}
use lib.Dec.{ltb, eqb}
use borrow.Author.Tests.{lt-ltb, le-ltb, ltb-true}
use Rattle.refusals.specs.Lowest.{◌when◌, answer_of}
use Rattle.refusals.specs.Numbers.{Verdict}
use Rattle.refusals.specs.declared.Refusal.{Refusal}
use Rattle.refusals.specs.declared.Refusal.TheVariants.{Broken, Unused}
use Rattle.refusals.proofs.Lowest.{first_holds}
use Rattle.pages.proofs.Bytes.{and_false}
use Rattle.kinds.specs.Kinds.{fixed_max, callback}
use Rattle.pages.specs.Bytes.{count_bytes, count_of}
use Rattle.types.specs.Store.{types_max, offset}
use Rattle.types.specs.Types.{place_of, types_in, kind_of, Measured}
use Rattle.types.specs.Making.{taken_back, Grows}
use Rattle.types.proofs.Placing.{offset_start, offset_le}
use Rattle.types.proofs.Types.{end_inside}
use Rattle.types.proofs.Back.{back}
use Rattle.types.specs.Calls.{store_broken, opened_answer, const_answer, const_page}
use Rattle.types.proofs.Calls.{opened_err}
use Rattle.matching.specs.Matching.{matches, in_use}
use Rattle.matching.specs.declared.Checked.{Checked}
use Rattle.matching.specs.declared.Checked.TheVariants.{Known, Unknown, Function}
use Rattle.names.specs.Calls.{used_of}
use Rattle.bindings.specs.Bindings.{formed}
use Rattle.bindings.specs.Generics.{has_generic, substitute, Working}
use Rattle.bindings.specs.declared.Bindings.{Bindings}
use Rattle.bindings.proofs.Bound.{usable}
use Rattle.bindings.proofs.Substitution.{substitute_sound}
use Rattle.bindings.proofs.Rebuilding.{remembered_none}
use Rattle.unification.specs.Unification.{unified, unify_arg}
use Rattle.unification.specs.declared.Unified.{Unified}
use Rattle.checked.specs.Calls.{verdict_of, of_made, const_of, const_after, matches_answer, generic_answer, into_const, into_const_page, bindings_verdict, substitute_answer, substitute_page, kept_by, unified_or, unify_arg_answer, unify_answer}

-- ---- numbers in use

module _ (page : List ℕ) (c : Checked) where
  pub used_unknown : c ≡ Unknown → true ≡ in_use page c
  unfolding in_use
  used_unknown e = sym (ap (in_use page) e)

  pub used_known : (t n : ℕ) → c ≡ Known t → n ≡ types_in page → ltb t n ≡ in_use page c
  unfolding in_use
  used_known t n e is = rw is (sym (ap (in_use page) e))

  module _ (t n : ℕ) (e : c ≡ Function t) (is : n ≡ types_in page) where
    pub used_function : t < n → (k : ℕ) → k ≡ kind_of page t → eqb k callback ≡ in_use page c
    unfolding in_use
    used_function l k kind = sym (ap (in_use page) e ∙ rw (← is, lt-ltb t n l, ← kind) refl)

    pub unused_function : n ≤ t → false ≡ in_use page c
    unfolding in_use
    unused_function l = sym (ap (in_use page) e ∙ rw (← is, le-ltb t n l) refl)

-- ---- verdicts

module _ (page : List ℕ) (names : Option (List ℕ)) (f u : Bool) where
  pub verdict_broken : store_broken page names ≡ true → verdict_of page names f u ≡ Err Broken
  unfolding verdict_of
  verdict_broken b = rw b (first_holds Broken ((Unused when not u) ∷ []) refl)

  module _ (b : store_broken page names ≡ false) where
    pub verdict_unformed : f ≡ false → verdict_of page names f u ≡ Err Broken
    unfolding verdict_of
    verdict_unformed h = rw (b, h) (first_holds Broken ((Unused when not u) ∷ []) refl)

    module _ (h : f ≡ true) where
      pub verdict_unused : u ≡ false → verdict_of page names f u ≡ Err Unused
      unfolding verdict_of
      verdict_unused k = rw (b, h, k) refl

      pub verdict_passed : u ≡ true → verdict_of page names f u ≡ Ok tt
      unfolding verdict_of
      verdict_passed k = rw (b, h, k) refl

-- ---- `matches`

module _ (page : List ℕ) (names : Option (List ℕ)) (a e : Checked) where
  matches_broken : store_broken page names ≡ true → Err Broken ≡ matches_answer page names a e
  unfolding matches_answer
  matches_broken b = rw (verdict_broken page names true (in_use page a && in_use page e) b) refl

  pub matches_refused : (r : Refusal) → Err r ≡ opened_answer page names → Err r ≡ matches_answer page names a e
  matches_refused r h = let o = opened_err page names r h in rw o.1 (matches_broken o.0)

  module _ (b : store_broken page names ≡ false) where
    pub matches_left : in_use page a ≡ false → Err Unused ≡ matches_answer page names a e
    unfolding matches_answer
    matches_left h = rw (verdict_unused page names true (in_use page a && in_use page e) b refl (rw h refl)) refl

    pub matches_right : in_use page e ≡ false → Err Unused ≡ matches_answer page names a e
    unfolding matches_answer
    matches_right h = rw (verdict_unused page names true (in_use page a && in_use page e) b refl (rw h (and_false (in_use page a)))) refl

    pub matches_says : in_use page a ≡ true → in_use page e ≡ true → (r : Bool) → r ≡ matches page a e → Ok r ≡ matches_answer page names a e
    unfolding matches_answer
    matches_says h k r q = rw (verdict_passed page names true (in_use page a && in_use page e) b refl (rw (h, k) refl), q) refl

-- ---- `has_generic`

module _ (page : List ℕ) (names : Option (List ℕ)) (t : ℕ) where
  generic_broken : store_broken page names ≡ true → Err Broken ≡ generic_answer page names t
  unfolding generic_answer
  generic_broken b = rw (verdict_broken page names true (ltb t (types_in page)) b) refl

  pub generic_refused : (r : Refusal) → Err r ≡ opened_answer page names → Err r ≡ generic_answer page names t
  generic_refused r h = let o = opened_err page names r h in rw o.1 (generic_broken o.0)

  module _ (b : store_broken page names ≡ false) where
    pub generic_unused : types_in page ≤ t → Err Unused ≡ generic_answer page names t
    unfolding generic_answer
    generic_unused h = rw (verdict_unused page names true (ltb t (types_in page)) b refl (le-ltb t (types_in page) h)) refl

    pub generic_says : t < types_in page → (r : Bool) → r ≡ has_generic page t → Ok r ≡ generic_answer page names t
    unfolding generic_answer
    generic_says h r q = rw (verdict_passed page names true (ltb t (types_in page)) b refl (lt-ltb t (types_in page) h), q) refl

-- ---- `into_const`

module _ (page : List ℕ) (names : Option (List ℕ)) (c : Checked) where
  -- what the call promises
  abbrev Converts : Result Checked Refusal → List ℕ → Type 0
  Converts r after = (r ≡ into_const page names c) × (after ≡ into_const_page page names c)

  const_broken : store_broken page names ≡ true → Converts (Err Broken) page
  unfolding into_const into_const_page
  const_broken b = let v = verdict_broken page names true (in_use page c) b in (rw v refl, rw v refl)

  pub const_refused : (r : Refusal) → Err r ≡ opened_answer page names → Converts (Err r) page
  const_refused r h = let o = opened_err page names r h in rw o.1 (const_broken o.0)

  module _ (b : store_broken page names ≡ false) where
    pub const_unused : in_use page c ≡ false → Converts (Err Unused) page
    unfolding into_const into_const_page
    const_unused h = let v = verdict_unused page names true (in_use page c) b refl h in (rw v refl, rw v refl)

    module _ (h : in_use page c ≡ true) where
      passed : Converts (const_of page c) (const_after page c)
      unfolding into_const into_const_page
      passed = let v = verdict_passed page names true (in_use page c) b refl h in (rw v refl, rw v refl)

      pub const_unknown : c ≡ Unknown → Converts (Ok Unknown) page
      const_unknown e = (ap (const_of page) (sym e) ∙ passed.0, ap (const_after page) (sym e) ∙ passed.1)

      pub const_function : (f : ℕ) → c ≡ Function f → Converts (Ok (Function f)) page
      const_function f e = (ap (const_of page) (sym e) ∙ passed.0, ap (const_after page) (sym e) ∙ passed.1)

      pub const_known : (t : ℕ) → c ≡ Known t → (m : Result ℕ Refusal) (after : List ℕ) → m ≡ const_answer page t → after ≡ const_page page t → Converts (of_made m) after
      const_known t e m after p q = (ap of_made p ∙ ap (const_of page) (sym e) ∙ passed.0, q ∙ ap (const_after page) (sym e) ∙ passed.1)

-- ---- `substitute`

-- the number of a known type is in use
pub known_used : (page : List ℕ) (c : Checked) (t : ℕ) → c ≡ Known t → in_use page c ≡ true → t < types_in page
unfolding in_use
known_used page c t e h = ltb-true t (types_in page) (ap (in_use page) (sym e) ∙ h)

module _ (page : List ℕ) (names : Option (List ℕ)) (b : Bindings) (t : ℕ) where
  -- what the call promises
  abbrev Substitutes : Result ℕ Refusal → List ℕ → Type 0
  Substitutes r after = (r ≡ substitute_answer page names b t) × (after ≡ substitute_page page names b t)

  refused : (q : Refusal) → bindings_verdict page names b (ltb t (types_in page)) ≡ Err q → Substitutes (Err q) page
  unfolding substitute_answer substitute_page
  refused q v = (rw v refl, rw v refl)

  substitute_broken : store_broken page names ≡ true → Substitutes (Err Broken) page
  unfolding bindings_verdict
  substitute_broken h = refused Broken (verdict_broken page names (formed (used_of names) (types_in page) b) (ltb t (types_in page)) h)

  pub substitute_refused : (r : Refusal) → Err r ≡ opened_answer page names → Substitutes (Err r) page
  substitute_refused r h = let o = opened_err page names r h in rw o.1 (substitute_broken o.0)

  module _ (h : store_broken page names ≡ false) where
    pub substitute_unformed : formed (used_of names) (types_in page) b ≡ false → Substitutes (Err Broken) page
    unfolding bindings_verdict
    substitute_unformed k = refused Broken (verdict_unformed page names (formed (used_of names) (types_in page) b) (ltb t (types_in page)) h k)

    module _ (k : formed (used_of names) (types_in page) b ≡ true) where
      pub substitute_unused : types_in page ≤ t → Substitutes (Err Unused) page
      unfolding bindings_verdict
      substitute_unused l =
          refused Unused (verdict_unused page names (formed (used_of names) (types_in page) b) (ltb t (types_in page)) h k (le-ltb t (types_in page) l))

      module _ (l : t < types_in page) where
        passes : bindings_verdict page names b (ltb t (types_in page)) ≡ Ok tt
        unfolding bindings_verdict
        passes = verdict_passed page names (formed (used_of names) (types_in page) b) (ltb t (types_in page)) h k (lt-ltb t (types_in page) l)

        pub substitute_made : (m : Result ℕ Refusal) (after : List ℕ) (r : ℕ) → m ≡ Ok r → m ≡ (substitute b t page).made → after ≡ (substitute b t page).store → Substitutes m after
        unfolding substitute_answer substitute_page
        substitute_made m after r e p q = (rw passes p, rw (passes, ← p, e) q)

        pub substitute_stopped : (m : Result ℕ Refusal) (x : Refusal) → m ≡ Err x → m ≡ (substitute b t page).made → Substitutes m page
        unfolding substitute_answer substitute_page
        substitute_stopped m x e p = (rw passes p, rw (passes, ← p, e) refl)

-- what substituting asks for
pub end_there : (page : List ℕ) (n end : ℕ) → n ≡ types_in page → end ≡ place_of page n → end ≡ offset page (count_of page)
end_there page n end is e = let z : n - fixed_max ≡ count_of page = omega (arith, is) in e ∙ ap (offset page) z

module _ (page os ds : List ℕ) (m : Measured page os ds) where
  pub works : (b : Bindings) (k t : ℕ) → formed k (types_in page) b ≡ true → t < types_in page → Working b page (replicate types_max None) t
  works b k t h l = record { used = l; usable = usable k (types_in page) b h; remembered = remembered_none b page }

  -- a store that has grown, taken back
  module _ (after : List ℕ) (g : Grows page after) (end : ℕ) (is : end ≡ offset page (count_of page)) where
    pub grown_back : taken_back after (get_or page 0 0 ∷ get_or page 1 0 ∷ []) end ≡ page
    grown_back = rw is (back page after m.held.sound g)

    pub grown_asks : (count_bytes ≤ end) × (end ≤ length after)
    grown_asks =
        (omega (arith, is, offset_start page, offset_le page 0 (count_of page) (omega arith)), omega (arith, is, g.size, end_inside page m.held.sound))

  module _ (b : Bindings) (k t : ℕ) (h : formed k (types_in page) b ≡ true) (l : t < types_in page) (after : List ℕ) (e : after ≡ (substitute b t page).store) where
    grown : Grows page after
    grown = rw e (substitute_sound b t page m.held.sound l (usable k (types_in page) b h)).grown

    pub taken_back_lem : (end : ℕ) → end ≡ offset page (count_of page) → taken_back after (get_or page 0 0 ∷ get_or page 1 0 ∷ []) end ≡ page
    taken_back_lem end is = grown_back after grown end is

    pub back_asks : (end : ℕ) → end ≡ offset page (count_of page) → (count_bytes ≤ end) × (end ≤ length after)
    back_asks end is = grown_asks after grown end is

-- ---- `unify` and `unify_arg`

module _ (page : List ℕ) (names : Option (List ℕ)) (b : Bindings) (e : ℕ) (c : Checked) where
  -- what the tests come to, and the walk after them
  abbrev Tested : Result Unified Refusal
  Tested = answer_of (bindings_verdict page names b (ltb e (types_in page) && in_use page c)) (unify_arg page e c b)

  fails : (q : Refusal) → bindings_verdict page names b (ltb e (types_in page) && in_use page c) ≡ Err q → Err q ≡ Tested
  fails q v = rw v refl

  unify_broken : store_broken page names ≡ true → Err Broken ≡ Tested
  unfolding bindings_verdict
  unify_broken h = fails Broken (verdict_broken page names (formed (used_of names) (types_in page) b) (ltb e (types_in page) && in_use page c) h)

  pub unify_refused : (r : Refusal) → Err r ≡ opened_answer page names → Err r ≡ Tested
  unify_refused r h = let o = opened_err page names r h in rw o.1 (unify_broken o.0)

  module _ (h : store_broken page names ≡ false) where
    pub unify_unformed : formed (used_of names) (types_in page) b ≡ false → Err Broken ≡ Tested
    unfolding bindings_verdict
    unify_unformed k = fails Broken (verdict_unformed page names (formed (used_of names) (types_in page) b) (ltb e (types_in page) && in_use page c) h k)

    module _ (k : formed (used_of names) (types_in page) b ≡ true) where
      unused : (ltb e (types_in page) && in_use page c) ≡ false → Err Unused ≡ Tested
      unfolding bindings_verdict
      unused l = fails Unused (verdict_unused page names (formed (used_of names) (types_in page) b) (ltb e (types_in page) && in_use page c) h k l)

      pub unify_unused : types_in page ≤ e → Err Unused ≡ Tested
      unify_unused l = unused (rw (le-ltb e (types_in page) l) refl)

      pub unify_unused_actual : in_use page c ≡ false → Err Unused ≡ Tested
      unify_unused_actual u = unused (rw u (and_false (ltb e (types_in page))))

      pub unify_says : e < types_in page → in_use page c ≡ true → (u : Unified) → u ≡ unify_arg page e c b → Ok u ≡ Tested
      unfolding bindings_verdict
      unify_says l u r q =
          let w : (ltb e (types_in page) && in_use page c) ≡ true = rw (lt-ltb e (types_in page) l, u) refl in
          rw (verdict_passed page names (formed (used_of names) (types_in page) b) (ltb e (types_in page) && in_use page c) h k w, q) refl

  -- what is answered of that
  abbrev given : Result Unified Refusal → Unified
  given (Ok u) = kept_by u.answer u.bindings b
  given (Err r) = unified (Err r) b

  given_is : given Tested ≡ unify_arg_answer page names b e c
  unfolding unify_arg_answer
  given_is = go (bindings_verdict page names b (ltb e (types_in page) && in_use page c))
    where
      go : (v : Verdict) → given (answer_of v (unify_arg page e c b)) ≡ unified_or v (unify_arg page e c b) b
      go (Ok t) = refl
      go (Err r) = refl

  pub unify_passed : (u : Unified) → Ok u ≡ Tested → kept_by u.answer u.bindings b ≡ unify_arg_answer page names b e c
  unify_passed u h = ap given h ∙ given_is

  pub unify_stopped : (r : Refusal) → Err r ≡ Tested → unified (Err r) b ≡ unify_arg_answer page names b e c
  unify_stopped r h = ap given h ∙ given_is

-- an actual type is a checked one that is Known
pub unify_known : (page : List ℕ) (names : Option (List ℕ)) (b : Bindings) (e a : ℕ) → unify_arg_answer page names b e (Known a) ≡ unify_answer page names b e a
unfolding unify_arg_answer unify_answer unify_arg in_use
unify_known page names b e a = refl
