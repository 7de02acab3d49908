use mathlib.Core.Path.{◌≡◌, sym, ◌∙◌}
use Rattle.std.proofs.Common.{rules, tests, arith, true, Bool, eqb, ℕ, ◌<◌, MatchOption}
use Rattle.std.proofs.lemmas.Result.{err_from_is_err_and}
use lib.ListN.{take}
use borrow.Author.Tests.{eqb-true}
use Rattle.std.proofs.lemmas.Iterator.{YieldsList-from_slice}
use Rattle.std.proofs.lemmas.Iterator.Search.{position_from_yields_List}
use Rattle.names.specs.Table.{names_max}
use Rattle.pages.specs.Quant.{first_to}
use Rattle.pages.proofs.Quant.{found_taken, first_found, first_missed}
use Rattle.units.specs.Unit.{places_max, formed}
use Rattle.units.specs.Calls.{terms_of}
use Rattle.units.proofs.Signed.{inside_back}
use Rattle.units.proofs.Form.{Places, sym_at, exp_at, formed_count, formed_inside}
use Rattle.units.proofs.Held.{places_of}
use Rattle.units.proofs.Calls.{form_ok, exponent_refused, exponent_given, seeking_start, sought_absent, sought_found, seeking_to}
use Rattle.units.proofs.exponent.Goals as goal

abbrev has : Places → ℕ → ℕ → Bool
has u s j = eqb (sym_at u j) s

pub returns-in_err-unit_form : goal.returns-in_err-unit_form
returns-in_err-unit_form c =
    let p = err_from_is_err_and c.from_residual.result c.from_residual.ensures.1 in
    rw (p.1, p.2) (exponent_refused c.args.u c.args.symbol _ (sym c.in_err-unit_form.was ∙ c.unit_form.ensures))

pub shared_ref_as_front-iter : goal.shared_ref_as_front-iter
shared_ref_as_front-iter c = formed_count places_max names_max (places_of c.args.u) (form_ok c.args.u (sym c.in_ok-unit_form.was ∙ c.unit_form.ensures))

pub returns-in-Some : goal.returns-in-Some
returns-in-Some c =
    let u = places_of c.args.u in
    let s = c.args.symbol in
    let form : formed places_max names_max (terms_of c.args.u) ≡ true = form_ok c.args.u (sym c.in_ok-unit_form.was ∙ c.unit_form.ensures) in
    let few = formed_count places_max names_max u form in
    let place = position_from_yields_List (λ x. eqb x s) _ _ _ c.position.ensures.ran (YieldsList-from_slice (take u.count u.symbols) cc) (λ x b q h. search (rules, tests)) in
    let told : MatchOption c.position.result (first_to u.count (has u s) ≡ u.count) (λ (i : ℕ). (i < u.count) × (i ≡ first_to u.count (has u s))) = found_taken (λ x. eqb x s) 0 u.count u.symbols c.position.result (search rules) place in
    let found = rw c.in-Some.is at told in
    let first = first_found (has u s) u.count (rw found.1 at found.0) in
    let at = rw (← found.1) at first in
    let seeking = seeking_to places_max u s c.in-Some.i (seeking_start places_max names_max u s form) (omega (arith, found.0)) at.0 in
    exponent_given c.args.u s _ form (inside_back (exp_at u c.in-Some.i) (formed_inside places_max names_max u form c.in-Some.i found.0) ∙ sought_found places_max u s c.in-Some.i seeking found.0 (eqb-true _ _ at.1))

pub returns-in-None : goal.returns-in-None
returns-in-None c =
    let u = places_of c.args.u in
    let s = c.args.symbol in
    let form : formed places_max names_max (terms_of c.args.u) ≡ true = form_ok c.args.u (sym c.in_ok-unit_form.was ∙ c.unit_form.ensures) in
    let few = formed_count places_max names_max u form in
    let place = position_from_yields_List (λ x. eqb x s) _ _ _ c.position.ensures.ran (YieldsList-from_slice (take u.count u.symbols) cc) (λ x b q h. search (rules, tests)) in
    let told : MatchOption c.position.result (first_to u.count (has u s) ≡ u.count) (λ (i : ℕ). (i < u.count) × (i ≡ first_to u.count (has u s))) = found_taken (λ x. eqb x s) 0 u.count u.symbols c.position.result (search rules) place in
    let missed = rw c.in-None.is at told in
    let none = first_missed (has u s) u.count (omega (arith, missed)) in
    let seeking = seeking_to places_max u s u.count (seeking_start places_max names_max u s form) (omega arith) none in
    exponent_given c.args.u s _ form (sought_absent places_max u s u.count seeking (omega arith))
