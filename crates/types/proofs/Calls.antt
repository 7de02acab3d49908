-- What the calls on a store of types come to, one law for each return. Assumes nothing.
use Rattle.std.specs.Prelude.{Option}
use Rattle.std.specs.List.{list_all}
use Rattle.std.proofs.Common.{Result, Ok, Err}
use mathlib.Core.Path.{◌≡◌, refl, ◌∙◌, ap, subst, sym}
use mathlib.Core.Bool.{Bool, true, false, ◌&&◌, ◌||◌, not, cond}
use mathlib.Core.List.{List, [], ◌∷◌}
use Prim.Native.Nat.{ℕ, ◌+◌, ◌<◌, ◌≤◌}
use native.Mathlib.Omega.{arith}
use lib.Dec.{ltb, leb, T}
use lib.ListN.{length, replicate}
use borrow.Author.Tests.{lt-ltb, le-ltb, ltb-false, le-leb, leb-true, leb-false, not-false}
use Rattle.refusals.specs.Lowest.{Condition, ◌when◌, lowest, unless_refused}
use Rattle.refusals.specs.declared.Refusal.{Refusal}
use Rattle.refusals.specs.declared.Refusal.TheVariants.{Undefined, Broken, Unused, Width, Depth, Full}
use Rattle.refusals.proofs.Lowest.{first_holds, passed_parts, answer_of_ok, one_ok, one_err, verdict_err}
use Rattle.pages.specs.Bytes.{within, count_bytes, count_of}
use Rattle.pages.proofs.Quant.{and_true}
use Rattle.names.specs.Calls.{lent_broken, used_of, used_answer, is_used}
use Rattle.names.proofs.Calls.{used_ok, used_err}
use Rattle.kinds.specs.Kinds.{fixed_max, children_max, kind_last, is_named, is_stored, fewest, most}
use Rattle.types.specs.Store.{depth_max, equal_to, formed}
use Rattle.types.specs.Types.{types_in, Measured}
use Rattle.types.specs.Making.{entry_of, Enterable, Ready, is_made, depth_of, roomy, with_entry, enter_verdict, enter_answer, enter_page}
use Rattle.types.specs.Calls.{store_broken, form_verdict, opened_answer, empty_verdict, empty_page, all_below, parts_used, is_new, make_verdict, make_answer, make_page}
use Rattle.types.proofs.Types.{whole, most_few}
use Rattle.types.proofs.Again.{enter_used}
use Rattle.types.proofs.Fresh.{zeros_formed}
use Rattle.types.proofs.Entries.{entry_whole, entry_parts}

-- ---- making a store

module _ (page : List ℕ) where
  pub empty_short : length page < count_bytes → (Err Broken ≡ empty_verdict page) × (page ≡ empty_page page)
  unfolding empty_verdict empty_page
  empty_short h = (rw (lt-ltb (length page) count_bytes h), rw (lt-ltb (length page) count_bytes h))

  pub empty_made : count_bytes ≤ length page → (Ok tt ≡ empty_verdict page) × (replicate (length page) 0 ≡ empty_page page)
  unfolding empty_verdict empty_page
  empty_made h = (rw (le-ltb (length page) count_bytes h), rw (le-ltb (length page) count_bytes h))

  pub empty_formed : count_bytes ≤ length page → (n : ℕ) → formed (empty_page page) n ≡ true
  empty_formed h n = rw (← (empty_made h).1) (zeros_formed (length page) n h)

-- ---- names and store

module _ (page : List ℕ) (names : Option (List ℕ)) where
  pub broken_names : lent_broken names ≡ true → store_broken page names ≡ true
  unfolding store_broken
  broken_names l = rw l

  module _ (l : lent_broken names ≡ false) where
    pub unbroken : formed page (used_of names) ≡ true → store_broken page names ≡ false
    unfolding store_broken
    unbroken f = rw (l, f)

  -- where neither breaks its form
  pub unbroken_both : store_broken page names ≡ false → (lent_broken names ≡ false) × (formed page (used_of names) ≡ true)
  unfolding store_broken
  unbroken_both e = go (lent_broken names) refl
    where
      go : (b : Bool) → lent_broken names ≡ b → (b ≡ false) × (formed page (used_of names) ≡ true)
      go true l = let z : ◌≡◌ {A = Bool} true false = rw l at e in absurd (subst T z tt)
      go false l = (refl, not-false (formed page (used_of names)) (rw l at e))

  -- what an answer of `opened` says of names and store, and what a refusal does
  pub opened_ok : (n : ℕ) → Ok n ≡ opened_answer page names → (store_broken page names ≡ false) × (n ≡ used_of names)
  unfolding opened_answer
  opened_ok n e = one_ok Broken (store_broken page names) (used_of names) n e

  pub opened_err : (r : Refusal) → Err r ≡ opened_answer page names → (store_broken page names ≡ true) × (r ≡ Broken)
  unfolding opened_answer
  opened_err r e = one_err Broken (store_broken page names) (used_of names) r e

  -- so where it answers, the page has a count
  pub opened_two : (n : ℕ) → Ok n ≡ opened_answer page names → count_bytes ≤ length page
  opened_two n e = (whole page (used_of names) (unbroken_both (opened_ok n e).0).1).two

  -- its returns
  pub opened_unnamed : lent_broken names ≡ true → Err Broken ≡ opened_answer page names
  unfolding opened_answer
  opened_unnamed l = rw (broken_names l)

  module _ (l : lent_broken names ≡ false) (n : ℕ) (is : n ≡ used_of names) where
    pub opened_unformed : (r : Refusal) → Err r ≡ form_verdict page n → Err r ≡ opened_answer page names
    unfolding opened_answer form_verdict store_broken
    opened_unformed r e = let k = verdict_err Broken (not (formed page n)) r e in rw (k.1, l, ← is, k.0)

    pub opened_passed : Ok tt ≡ form_verdict page n → Ok n ≡ opened_answer page names
    unfolding opened_answer form_verdict
    opened_passed e = let k = passed_parts Broken (not (formed page n)) [] (sym e) in rw (unbroken l (rw (← is) (not-false (formed page n) k.0)), ← is)

  -- of a call that asks the names first, and the store behind it
  pub used_refused : (r : Refusal) → Err r ≡ used_answer names → Err r ≡ opened_answer page names
  used_refused r e = let k = used_err names r e in rw k.1 (opened_unnamed k.0)

  module _ (n : ℕ) (e : Ok n ≡ used_answer names) where
    pub used_unformed : (r : Refusal) → Err r ≡ form_verdict page n → Err r ≡ opened_answer page names
    used_unformed r f = let k = used_ok names n e in opened_unformed k.0 n k.1 r f

    module _ (f : Ok tt ≡ form_verdict page n) where
      formed_both : Ok n ≡ opened_answer page names
      formed_both = let k = used_ok names n e in opened_passed k.0 n k.1 f

      pub used_sound : (store_broken page names ≡ false) × (n ≡ used_of names)
      used_sound = opened_ok n formed_both

      pub used_two : count_bytes ≤ length page
      used_two = opened_two n formed_both

-- ---- the parts of a type

module _ (page : List ℕ) (n k : ℕ) (cs : List ℕ) (m : ℕ) where
  pub parts_above : all_below (types_in page) cs ≡ false → false ≡ parts_used page n k cs m
  unfolding parts_used
  parts_above b = rw b

  module _ (b : all_below (types_in page) cs ≡ true) where
    pub parts_named : is_named k ≡ true → is_used n m ≡ parts_used page n k cs m
    unfolding parts_used
    parts_named h = rw (b, h)

    pub parts_nameless : is_named k ≡ false → true ≡ parts_used page n k cs m
    unfolding parts_used
    parts_nameless h = rw (b, h)

-- ---- making a type

-- a kind that no store holds is fixed
unstored_fixed : (k : ℕ) → k ≤ kind_last → is_stored k ≡ false → k < fixed_max
unstored_fixed k l s = leb-false fixed_max k (go (leb fixed_max k) (rw (le-leb k kind_last l) at s))
  where
    go : (b : Bool) → (b && true) ≡ false → b ≡ false
    go true e = e
    go false e = refl

module _ (page : List ℕ) (names : Option (List ℕ)) (k : ℕ) (cs : List ℕ) (m : ℕ) where
  -- what `make_type` promises
  abbrev Makes : Result ℕ Refusal → List ℕ → Type 0
  Makes r after = (r ≡ make_answer page names k cs m) × (after ≡ make_page page names k cs m)

  -- the conditions of depth and room, and those before them
  abbrev deep : List Condition
  deep =
      (Depth when (is_new page k cs m && ltb depth_max (depth_of page (entry_of k cs m))))
      ∷ (Full when (is_new page k cs m && not (roomy page (entry_of k cs m))))
      ∷ []

  abbrev wide : List Condition
  wide = (Width when not (within (fewest k) (most k) (length cs))) ∷ deep

  abbrev unused : List Condition
  unused = (Unused when not (parts_used page (used_of names) k cs m)) ∷ wide

  refused : (q : Refusal) → make_verdict page names k cs m ≡ Err q → Makes (Err q) page
  unfolding make_answer make_page
  refused q v = (rw v, rw v)

  pub make_undefined : kind_last < k → Makes (Err Undefined) page
  unfolding make_verdict
  make_undefined h = refused Undefined (rw (lt-ltb kind_last k h) (first_holds Undefined ((Broken when store_broken page names) ∷ unused) refl))

  module _ (d : k ≤ kind_last) where
    broken : store_broken page names ≡ true → Makes (Err Broken) page
    unfolding make_verdict
    broken b = refused Broken (rw (le-ltb kind_last k d, b) (first_holds Broken unused refl))

    pub make_refused : (r : Refusal) → Err r ≡ opened_answer page names → Makes (Err r) page
    make_refused r e = let o = opened_err page names r e in rw o.1 (broken o.0)

    module _ (sound : store_broken page names ≡ false) (n : ℕ) (is : n ≡ used_of names) where
      pub make_unused : parts_used page n k cs m ≡ false → Makes (Err Unused) page
      unfolding make_verdict
      make_unused u = refused Unused (rw (le-ltb kind_last k d, sound, ← is, u) (first_holds Unused wide refl))

      module _ (u : parts_used page n k cs m ≡ true) where
        pub make_miscounted : within (fewest k) (most k) (length cs) ≡ false → Makes (Err Width) page
        unfolding make_verdict
        make_miscounted w = refused Width (rw (le-ltb kind_last k d, sound, ← is, u, w) (first_holds Width deep refl))

        module _ (w : within (fewest k) (most k) (length cs) ≡ true) where
          verdict_is : make_verdict page names k cs m ≡ lowest deep
          unfolding make_verdict
          verdict_is = rw (le-ltb kind_last k d, sound, ← is, u, w)

          pub make_fixed : is_stored k ≡ false → Makes (Ok k) page
          unfolding make_answer make_page is_new
          make_fixed s =
              let v : make_verdict page names k cs m ≡ (Ok tt) = verdict_is ∙ rw s refl in
              (rw (v, lt-ltb k fixed_max (unstored_fixed k d s)), rw (v, s))

          module _ (s : is_stored k ≡ true) where
            -- a kind that is stored is entered
            new_is : is_new page k cs m ≡ not (is_made page (entry_of k cs m))
            unfolding is_new
            new_is = rw s

            entered : make_verdict page names k cs m ≡ enter_verdict page (entry_of k cs m)
            unfolding enter_verdict
            entered = verdict_is ∙ rw new_is

            pub make_entered : Makes (enter_answer page (entry_of k cs m)) (enter_page page (entry_of k cs m))
            unfolding make_answer make_page enter_answer enter_page
            make_entered =
                let b : ltb k fixed_max ≡ false = le-ltb k fixed_max (leb-true fixed_max k (and_true (leb fixed_max k) (leb k kind_last) s).0) in (
                  rw (entered, b),
                  rw (entered, new_is) (ap (λ (x : List ℕ). unless_refused (enter_verdict page (entry_of k cs m)) x page) (turned (is_made page (entry_of k cs m)))),
                )
              where
                turned : (b : Bool) → cond b page (with_entry page (entry_of k cs m)) ≡ cond (not b) (with_entry page (entry_of k cs m)) page
                turned true = refl
                turned false = refl

            pub make_few : length cs ≤ children_max
            make_few = omega (arith, leb-true (length cs) (most k) (and_true (leb (fewest k) (length cs)) (leb (length cs) (most k)) w).1, most_few k)

            pub make_enterable : (f : formed page n ≡ true) → Enterable page (entry_of k cs m) (record { names = n; form = f })
            unfolding parts_used
            make_enterable f =
                let p = and_true (all_below (types_in page) cs) (not (is_named k) || is_used n m) u in
                record { whole = entry_whole k cs m; parts = entry_parts k cs m n (types_in page) s p.0 p.1 w }

            pub make_ready : (os ds : List ℕ) → Measured page os ds → Ready page os ds (entry_of k cs m)
            make_ready os ds g =
                let f : formed page n ≡ true = rw is (unbroken_both page names sound).1 in record {
                  measured = record {
                    held = record { sound = record { names = n; form = f }; size = g.held.size; places = g.held.places };
                    size = g.size;
                    known = g.known;
                  };
                  enterable = make_enterable f;
                }

  -- a type that was made is there
  pub made_is : (t : ℕ) → make_answer page names k cs m ≡ Ok t → t < types_in (make_page page names k cs m)
  unfolding make_answer make_verdict
  made_is t at = go (is_stored k) refl
    where
      v : (lowest ((Undefined when ltb kind_last k) ∷ (Broken when store_broken page names) ∷ unused) ≡ Ok tt)
          × (cond (ltb k fixed_max) k (fixed_max + equal_to page (count_of page) (entry_of k cs m)) ≡ t)
      v = let z = answer_of_ok (make_verdict page names k cs m) (cond (ltb k fixed_max) k (fixed_max + equal_to page (count_of page) (entry_of k cs m))) t (sym at) in (z.0, sym z.1)

      d : (ltb kind_last k ≡ false) × (lowest ((Broken when store_broken page names) ∷ unused) ≡ Ok tt)
      d = passed_parts Undefined (ltb kind_last k) ((Broken when store_broken page names) ∷ unused) v.0

      b : (store_broken page names ≡ false) × (lowest unused ≡ Ok tt)
      b = passed_parts Broken (store_broken page names) unused d.1

      u : (not (parts_used page (used_of names) k cs m) ≡ false) × (lowest wide ≡ Ok tt)
      u = passed_parts Unused (not (parts_used page (used_of names) k cs m)) wide b.1

      w : (not (within (fewest k) (most k) (length cs)) ≡ false) × (lowest deep ≡ Ok tt)
      w = passed_parts Width (not (within (fewest k) (most k) (length cs))) deep u.1

      known : k ≤ kind_last
      known = ltb-false kind_last k d.0

      go : (x : Bool) → is_stored k ≡ x → t < types_in (make_page page names k cs m)
      go true s =
          let z = unbroken_both page names b.0 in
          let used = not-false (parts_used page (used_of names) k cs m) u.0 in
          let counted = not-false (within (fewest k) (most k) (length cs)) w.0 in
          let r = make_entered known b.0 (used_of names) refl used counted s in
          let e = make_enterable known b.0 (used_of names) refl used counted s z.1 in
          rw (← r.1) (enter_used page (entry_of k cs m) (record { names = used_of names; form = z.1 }) e t (r.0 ∙ at))
      go false s =
          let l = unstored_fixed k known s in
          let q : k ≡ t = rw (lt-ltb k fixed_max l) at v.1 in
          omega (arith, l, q)

-- numbers below t, one by one
pub below_listed : (t : ℕ) (cs : List ℕ) → list_all (λ c. ltb c t) cs ≡ all_below t cs
below_listed t [] = refl
below_listed t (c ∷ cs) = ap (λ b. ltb c t && b) (below_listed t cs)
