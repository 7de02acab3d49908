-- Group sums take no more places than a unit has, so that they can be written as a unit's bytes. Assumes nothing.
use Rattle.std.specs.Prelude.{Option}
use Rattle.std.proofs.Common.{Ok, Err, IfOk}
use mathlib.Core.Path.{◌≡◌, refl, sym}
use mathlib.Core.List.{List, [], ◌∷◌}
use Prim.Native.Nat.{ℕ, ◌≤◌}
use Rattle.refusals.specs.Numbers.{Verdict}
use Rattle.names.specs.Table.{names_max}
use Rattle.units.specs.Unit.{places_max}
use Rattle.units.specs.Calls.{terms_of}
use Rattle.units.specs.declared.Unit.{Unit}
use Rattle.sums.specs.Calls.{units_verdict, roots_in, sums_answer}
use Rattle.sums.proofs.Bound.{sums_bound}
use Rattle.sums.proofs.Calls.{passed_left, sums_refused, sums_given}

pub sums_few : (page : List ℕ) (names : Option (List ℕ)) (u : Unit) → IfOk (sums_answer page names u) (λ w. w.terms.count ≤ places_max)
sums_few page names u = go (units_verdict page names (u ∷ u ∷ [])) refl
  where
    go : (v : Verdict) → v ≡ units_verdict page names (u ∷ u ∷ []) → IfOk (sums_answer page names u) (λ w. w.terms.count ≤ places_max)
    go (Ok _) is =
        let e = sums_given page names u is (roots_in page) (λ s. refl) in
        rw (← e) (sums_bound places_max names_max (roots_in page) (terms_of u) (passed_left page names u u (sym is))).1
    go (Err r) is = let e = sums_refused page names u r is in rw (← e) tt
