-- What the call for a formula comes to, one law for each return. Assumes nothing.
use Rattle.std.proofs.Common.{Ok, Err, Option}
use Rattle.refusals.specs.declared.Refusal.{Refusal}
use Rattle.refusals.specs.declared.Refusal.TheVariants.{Undefined, Broken}
use mathlib.Core.Path.{◌≡◌, refl, sym, fun_ext}
use mathlib.Core.Bool.{Bool, true, false, ◌||◌}
use mathlib.Core.List.{List, [], ◌∷◌}
use Prim.Native.Nat.{ℕ}
use Rattle.refusals.specs.Lowest.{◌when◌, lowest}
use Rattle.refusals.proofs.Lowest.{passed_parts, verdict_err}
use Rattle.names.specs.Calls.{used_of}
use Rattle.types.specs.Calls.{store_broken, opened_answer}
use Rattle.types.proofs.Calls.{opened_err, unbroken_both}
use Rattle.pairs.specs.Calls.{table_broken, form_verdict}
use Rattle.pairs.proofs.Calls.{table_err}
use Rattle.sums.specs.Calls.{roots_in}
use Rattle.formulas.specs.Bodies.{formula_answer, formula_store}
use Rattle.formulas.specs.Calls.{nodes_lent, is_cut, first_undefined, lent_verdict, check_answer, check_page}

module _ (page : List ℕ) (names : Option (List ℕ)) (pairs nodes : List ℕ) (root : ℕ) where
  -- where what is lent is refused, it is as it was
  Refused : Refusal → Type 0
  Refused r = (Err r ≡ check_answer page names pairs nodes root) × (page ≡ check_page page names pairs nodes root)

  refused : (r : Refusal) → lent_verdict page names pairs nodes ≡ Err r → Refused r
  unfolding check_answer check_page Refused
  refused r v = (rw v refl, rw v refl)

  pub first_refused_lem : (r : Refusal) → Err r ≡ lowest ((Undefined when first_undefined (nodes_lent nodes)) ∷ [])
      → (Err r ≡ check_answer page names pairs nodes root) × (page ≡ check_page page names pairs nodes root)
  unfolding Refused
  first_refused_lem r e =
      let u = verdict_err Undefined (first_undefined (nodes_lent nodes)) r e in
      rw u.1 (refused Undefined (rw u.0 (first (store_broken page names || (table_broken pairs names || is_cut nodes)))))
    where
      first : (b : Bool) → lowest ((Undefined when true) ∷ (Broken when b) ∷ []) ≡ Err Undefined
      first true = refl
      first false = refl

  module _ (d : Ok tt ≡ lowest ((Undefined when first_undefined (nodes_lent nodes)) ∷ [])) where
    defined : first_undefined (nodes_lent nodes) ≡ false
    defined = (passed_parts Undefined (first_undefined (nodes_lent nodes)) [] (sym d)).0

    broken : (store_broken page names || (table_broken pairs names || is_cut nodes)) ≡ true → Refused Broken
    broken b = refused Broken (rw (defined, b) refl)

    pub unopened : (r : Refusal) → Err r ≡ opened_answer page names
        → (Err r ≡ check_answer page names pairs nodes root) × (page ≡ check_page page names pairs nodes root)
    unfolding Refused
    unopened r e = let o = opened_err page names r e in rw o.1 (broken (rw o.0 refl))

    module _ (b : store_broken page names ≡ false) where
      pub untabled : (n : ℕ) → n ≡ used_of names → (r : Refusal) → Err r ≡ form_verdict pairs n
          → (Err r ≡ check_answer page names pairs nodes root) × (page ≡ check_page page names pairs nodes root)
      unfolding Refused
      untabled n is r e = let t = table_err pairs names (unbroken_both page names b).0 n is r e in rw t.1 (broken (rw (b, t.0) refl))

      module _ (t : table_broken pairs names ≡ false) where
        pub cut : is_cut nodes ≡ true → (Err Broken ≡ check_answer page names pairs nodes root) × (page ≡ check_page page names pairs nodes root)
        unfolding Refused
        cut c = broken (rw (b, t, c) refl)

        pub whole : is_cut nodes ≡ false → (n : ℕ) → n ≡ used_of names → (roots : ℕ → ℕ) → ((s : ℕ) → roots s ≡ roots_in pairs s)
            → (formula_answer n roots page (nodes_lent nodes) root ≡ check_answer page names pairs nodes root)
            × (formula_store n roots page (nodes_lent nodes) root ≡ check_page page names pairs nodes root)
        unfolding check_answer check_page
        whole c n is roots same = let e : roots ≡ roots_in pairs = fun_ext same in (rw (is, e, defined, b, t, c) refl, rw (is, e, defined, b, t, c) refl)
