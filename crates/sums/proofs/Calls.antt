-- What the calls for group sums and convertibility come to, one law for each return. Assumes nothing.
use Rattle.std.proofs.Common.{Ok, Err, Option}
use mathlib.Core.Path.{◌≡◌, refl, sym, fun_ext}
use mathlib.Core.Bool.{Bool, true, false, ◌&&◌, not, and-true}
use mathlib.Core.List.{List, [], ◌∷◌}
use Prim.Native.Nat.{ℕ}
use borrow.Author.Tests.{not-false}
use Rattle.refusals.specs.Lowest.{◌when◌}
use Rattle.refusals.specs.declared.Refusal.{Refusal}
use Rattle.refusals.specs.declared.Refusal.TheVariants.{Broken, Unused, BadUnit}
use Rattle.refusals.proofs.Lowest.{first_holds, passed_parts}
use Rattle.pages.specs.Bytes.{count_of}
use Rattle.pages.proofs.Quant.{and_true}
use Rattle.names.specs.Table.{names_max}
use Rattle.names.specs.Calls.{lent_broken, used_of}
use Rattle.names.proofs.Calls.{used_few}
use Rattle.units.specs.Unit.{places_max, in_use}
use Rattle.units.specs.Unit as units
use Rattle.units.specs.Calls.{terms_of, present, form_verdict}
use Rattle.units.specs.declared.Unit.{Unit}
use Rattle.groups.specs.Groups.{walk}
use Rattle.pairs.specs.Page.{parents_in, Held, formed}
use Rattle.pairs.proofs.Page.{formed_held}
use Rattle.pairs.specs.Calls.{table_broken, opened_answer}
use Rattle.pairs.proofs.Calls.{unbroken, opened_err, root_in}
use Rattle.pairs.proofs.Run.{form_all}
use Rattle.sums.specs.Sums.{group_sums, convertible, sums_of}
use Rattle.sums.specs.Calls.{all_used, all_formed, units_verdict, roots_in, sums_answer, or_empty, convert_answer}

-- ---- two units

module _ (page : List ℕ) (names : Option (List ℕ)) (a b : Unit) where
  units_broken : table_broken page names ≡ true → Err Broken ≡ units_verdict page names (a ∷ b ∷ [])
  unfolding units_verdict
  units_broken t =
      sym (rw t (first_holds Broken ((Unused when not (all_used (used_of names) (a ∷ b ∷ []))) ∷ (BadUnit when not (all_formed (a ∷ b ∷ []))) ∷ []) refl))

  pub units_unopened : (r : Refusal) → Err r ≡ opened_answer page names → Err r ≡ units_verdict page names (a ∷ b ∷ [])
  units_unopened r e = let o = opened_err page names r e in rw o.1 (units_broken o.0)

  module _ (t : table_broken page names ≡ false) where
    unused : all_used (used_of names) (a ∷ b ∷ []) ≡ false → Err Unused ≡ units_verdict page names (a ∷ b ∷ [])
    unfolding units_verdict
    unused u = sym (rw (t, u) (first_holds Unused ((BadUnit when not (all_formed (a ∷ b ∷ []))) ∷ []) refl))

    pub left_unused : in_use (used_of names) (present a) ≡ false → Err Unused ≡ units_verdict page names (a ∷ b ∷ [])
    left_unused u = unused (rw u)

    module _ (ua : in_use (used_of names) (present a) ≡ true) where
      pub right_unused : in_use (used_of names) (present b) ≡ false → Err Unused ≡ units_verdict page names (a ∷ b ∷ [])
      right_unused u = unused (rw (ua, u))

      module _ (ub : in_use (used_of names) (present b) ≡ true) where
        bad : all_formed (a ∷ b ∷ []) ≡ false → Err BadUnit ≡ units_verdict page names (a ∷ b ∷ [])
        unfolding units_verdict
        bad f = rw (t, ua, ub, f)

        pub left_bad : units.formed places_max names_max (terms_of a) ≡ false → Err BadUnit ≡ units_verdict page names (a ∷ b ∷ [])
        left_bad f = bad (rw f)

        module _ (fa : units.formed places_max names_max (terms_of a) ≡ true) where
          -- the second unit's form is judged last
          pub right_judged : form_verdict b ≡ units_verdict page names (a ∷ b ∷ [])
          unfolding form_verdict units_verdict
          right_judged = rw (t, ua, ub, fa, and-true (units.formed places_max names_max (terms_of b)))

  -- what two units have that are not refused
  module _ (v : units_verdict page names (a ∷ b ∷ []) ≡ Ok tt) where
    rest : (table_broken page names ≡ false) × (all_formed (a ∷ b ∷ []) ≡ true)
    unfolding units_verdict
    rest =
        let x =
        passed_parts Broken (table_broken page names)
        ((Unused when not (all_used (used_of names) (a ∷ b ∷ []))) ∷ (BadUnit when not (all_formed (a ∷ b ∷ []))) ∷ []) v in
        let y = passed_parts Unused (not (all_used (used_of names) (a ∷ b ∷ []))) ((BadUnit when not (all_formed (a ∷ b ∷ []))) ∷ []) x.1 in
        let z = passed_parts BadUnit (not (all_formed (a ∷ b ∷ []))) [] y.1 in
        (x.0, not-false (all_formed (a ∷ b ∷ [])) z.0)

    sound : (lent_broken names ≡ false) × (formed page (used_of names) ≡ true)
    sound = unbroken page names rest.0

    -- the page is in form, whether or not names are lent
    pub passed_all_names : formed page names_max ≡ true
    passed_all_names = form_all page (used_of names) (used_few names sound.0) sound.1

    pub passed_held : Held page
    passed_held = formed_held page (used_of names) sound.1

    pub passed_root : (k s : ℕ) → k ≡ count_of page → walk k (parents_in page) s ≡ roots_in page s
    passed_root k s is = root_in page (used_of names) k s sound.1 is

    both : (units.formed places_max names_max (terms_of a) ≡ true) × (all_formed (b ∷ []) ≡ true)
    both = and_true (units.formed places_max names_max (terms_of a)) (all_formed (b ∷ [])) rest.1

    pub passed_left : units.formed places_max names_max (terms_of a) ≡ true
    passed_left = both.0

    pub passed_right : units.formed places_max names_max (terms_of b) ≡ true
    passed_right = (and_true (units.formed places_max names_max (terms_of b)) true both.1).0

-- ---- group sums

and_twice : (a : Bool) → (a && (a && true)) ≡ (a && true)
and_twice true = refl
and_twice false = refl

module _ (page : List ℕ) (names : Option (List ℕ)) (u : Unit) where
  -- a unit given twice is refused as it is by itself
  twice : units_verdict page names (u ∷ u ∷ []) ≡ units_verdict page names (u ∷ [])
  unfolding units_verdict
  twice = rw (and_twice (in_use (used_of names) (present u)), and_twice (units.formed places_max names_max (terms_of u)))

  pub sums_refused : (r : Refusal) → Err r ≡ units_verdict page names (u ∷ u ∷ []) → Err r ≡ sums_answer page names u
  unfolding sums_answer
  sums_refused r is = rw (← twice, ← is)

  pub sums_given : Ok tt ≡ units_verdict page names (u ∷ u ∷ []) → (root : ℕ → ℕ) → ((s : ℕ) → root s ≡ roots_in page s)
      → Ok (sums_of (group_sums names_max root (terms_of u))) ≡ sums_answer page names u
  unfolding sums_answer
  sums_given is root same = let e : root ≡ roots_in page = fun_ext same in rw (← twice, ← is, e)

-- ---- convertible or not

module _ (page : List ℕ) (names : Option (List ℕ)) (left right : Option Unit) where
  pub convert_refused : (r : Refusal) → Err r ≡ units_verdict page names (or_empty left ∷ or_empty right ∷ [])
      → Err r ≡ convert_answer page names left right
  unfolding convert_answer
  convert_refused r v = rw (← v)

  pub convert_given : Ok tt ≡ units_verdict page names (or_empty left ∷ or_empty right ∷ [])
      → (root : ℕ → ℕ) → ((s : ℕ) → root s ≡ roots_in page s)
      → (b : Bool) → b ≡ convertible names_max root (terms_of (or_empty left)) (terms_of (or_empty right))
      → Ok b ≡ convert_answer page names left right
  unfolding convert_answer
  convert_given v root same b h = let e : root ≡ roots_in page = fun_ext same in rw (← v, ← e, h)
