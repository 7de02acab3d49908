-- The route rule (demand 3 of the mission): after any insertions into a table in form, of two formulas that pass, with number results,
-- no union in any type and no sum or difference with exactly one unitless side, the two results are called convertible exactly when any
-- two routes down them have the same exponent total in every group, and inconvertible exactly when they have not. Assumes nothing.
use Rattle.std.proofs.Common.{Ok, Option}
use mathlib.Core.Path.{◌≡◌, refl, sym, ap, subst, ◌∙◌}
use mathlib.Core.Logic.{◌↔◌}
use mathlib.Core.Bool.{true, false}
use mathlib.Core.List.{List, [], ◌∷◌}
use Prim.Native.Nat.{ℕ, ◌<◌}
use Rattle.names.specs.Table.{names_max}
use Rattle.names.specs.Calls.{used_of}
use Rattle.units.specs.Unit.{places_max, Term, in_use}
use Rattle.units.specs.Calls.{present}
use Rattle.units.specs.declared.Unit.{Unit}
use Rattle.units.proofs.Form.{formed_count, formed_ordered}
use Rattle.units.proofs.Held.{places_of}
use Rattle.units.proofs.Used.{present_all, ordered_used}
use Rattle.groups.specs.Groups.{Pair, Within, root_of}
use Rattle.pairs.specs.Page.{listed_in, formed}
use Rattle.pairs.specs.Calls.{table_broken}
use Rattle.pairs.specs.Runs.{Request, page_after_all, accepted_pairs}
use Rattle.pairs.proofs.Run.{all_lend, page_run, page_within, run_listed}
use Rattle.sums.specs.Sums.{sum_at, SameSums}
use Rattle.sums.specs.Calls.{units_verdict, or_empty}
use Rattle.sums.proofs.Convert.{convertible_each, each_convertible, convertible_groups}
use Rattle.sums.proofs.Run.{run_converts, run_converts_not}
use Rattle.answers.proofs.Proper.{Proper}
use Rattle.routes.specs.Routes.{value_terms, Route}
use Rattle.routes.specs.Rule.{Formula, answers_in, unit_at, Fine, lent_after, called, SameTotals, Tells, RouteRule}
use Rattle.routes.proofs.Down.{result_proper, route_sums}

-- ---- the call is not refused

-- the symbols that a unit in form shows are in use
proper_present : (n : ℕ) (m : Option Unit) → Proper n m → in_use n (present (or_empty m)) ≡ true
proper_present n m p = ap (in_use n) (present_all (or_empty m) (formed_count places_max names_max (places_of (or_empty m)) p.form)) ∙ p.used

-- and symbols that every table can have
proper_all : (n : ℕ) (m : Option Unit) → Proper n m → in_use names_max (value_terms m) ≡ true
proper_all n m p = ordered_used 0 (value_terms m) (formed_ordered places_max names_max (value_terms m) p.form)

-- two units in form with symbols in use are not refused beside a table in form
pub proper_passed : (page : List ℕ) (names : Option (List ℕ)) (left right : Option Unit) → table_broken page names ≡ false
    → Proper (used_of names) left → Proper (used_of names) right → units_verdict page names (or_empty left ∷ or_empty right ∷ []) ≡ Ok tt
unfolding units_verdict
proper_passed page names left right t p q =
    rw (t, proper_present (used_of names) left p, proper_present (used_of names) right q, p.form, q.form) refl

-- ---- terms with the sums of a unit

-- terms whose sums are those of others, by the roots of the groups, have equal sums in every group where those have
pub same_moved : (n : ℕ) (ps : List Pair) → Within n ps → (xs ys us vs : List Term)
    → in_use n xs ≡ true → in_use n ys ≡ true → in_use n us ≡ true → in_use n vs ≡ true
    → ((g : ℕ) → g < n → sum_at (root_of n ps) g xs ≡ sum_at (root_of n ps) g us)
    → ((g : ℕ) → g < n → sum_at (root_of n ps) g ys ≡ sum_at (root_of n ps) g vs)
    → SameSums n ps us vs → SameSums n ps xs ys
same_moved n ps w xs ys us vs ux uy uu uv a b h =
    let root = root_of n ps in
    let c = (convertible_groups n ps w us vs uu uv).1 h in
    (convertible_groups n ps w xs ys ux uy).0
    (each_convertible n root xs ys (λ g l. a g l ∙ convertible_each n root us vs c g l ∙ sym (b g l)))

-- ---- the theorem

module _ (start : List ℕ) (form : formed start names_max ≡ true) (requests : List Request) (names : Option (List ℕ))
    (sound : table_broken (page_after_all start requests) names ≡ false) where
  -- the pairs that are listed at the end are pairs of symbols that a table can have
  within : Within names_max (listed_in (page_after_all start requests))
  within = page_within (page_after_all start requests) names_max (page_run names_max requests start form (all_lend requests)).0

  module _ (store other : List ℕ) (f g : Formula) (a : Fine (lent_after start requests names) store f) (b : Fine (lent_after start requests names) other g)
      (xs ys : List Term) (v : Route f.nodes f.root xs) (w : Route g.nodes g.root ys) where
    -- the units of the two results
    abbrev one : Option Unit
    one = unit_at (answers_in (lent_after start requests names) store f) f.root

    abbrev two : Option Unit
    two = unit_at (answers_in (lent_after start requests names) other g) g.root

    one_proper : Proper (used_of names) (unit_at (answers_in (lent_after start requests names) store f) f.root)
    one_proper = result_proper (lent_after start requests names) store f a

    two_proper : Proper (used_of names) (unit_at (answers_in (lent_after start requests names) other g) g.root)
    two_proper = result_proper (lent_after start requests names) other g b

    passed : units_verdict (page_after_all start requests) names (or_empty one ∷ or_empty two ∷ []) ≡ Ok tt
    passed = proper_passed (page_after_all start requests) names one two sound one_proper two_proper

    -- the units' sums are equal in every group exactly if the routes' are
    same : SameSums names_max (accepted_pairs start requests) (value_terms one) (value_terms two) ↔ SameTotals start requests xs ys
    same =
        let x = route_sums (lent_after start requests names) store f a v in
        let y = route_sums (lent_after start requests names) other g b w in
        let p = proper_all (used_of names) one one_proper in
        let q = proper_all (used_of names) two two_proper in
        subst (λ (ps : List Pair). SameSums names_max ps (value_terms one) (value_terms two) ↔ SameSums names_max ps xs ys) (run_listed requests start form) (
          same_moved names_max (listed_in (page_after_all start requests)) within xs ys (value_terms one) (value_terms two) x.0 y.0 p q x.1 y.1,
          same_moved names_max (listed_in (page_after_all start requests)) within (value_terms one) (value_terms two) xs ys p q x.0 y.0
              (λ i l. sym (x.1 i l)) (λ i l. sym (y.1 i l)),
        )

    told : Tells (called (lent_after start requests names) store f other g) start requests xs ys
    told =
        let yes = run_converts requests start names one two form passed in
        let no = run_converts_not requests start names one two form passed in (
          (λ e. same.0 (yes.0 e), λ t. yes.1 (same.1 t)),
          (λ e t. no.0 e (same.1 t), λ never. no.1 (λ s. never (same.0 s))),
        )

-- demand 3
pub route_rule : (start : List ℕ) → formed start names_max ≡ true → (requests : List Request) → (names : Option (List ℕ))
    → table_broken (page_after_all start requests) names ≡ false → RouteRule start requests names
route_rule start form requests names sound store other f g a b xs ys v w = told start form requests names sound store other f g a b xs ys v w
