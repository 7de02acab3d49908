-- A convertibility call that is not refused says yes exactly if the two units have equal exponent sums in every group, and no
-- exactly if they have not: of the pairs that its page lists (`converts`, `converts_not`) and, from any page in form, of those that
-- it listed before any list of insertions with those accepted since (`run_converts`, `run_converts_not`). Assumes nothing.
use Rattle.refusals.specs.declared.Refusal.{Refusal}
use Rattle.std.proofs.Common.{Result, Ok, Option}
use mathlib.Core.Path.{◌≡◌, refl, subst}
use mathlib.Core.Logic.{◌↔◌}
use mathlib.Core.Bool.{Bool, true, false}
use mathlib.Core.List.{List, [], ◌∷◌}
use Prim.Native.Nat.{ℕ}
use native.Mathlib.Omega.{arith}
use Rattle.names.specs.Table.{names_max}
use Rattle.units.specs.Unit.{places_max, in_use}
use Rattle.units.specs.Unit as units
use Rattle.units.specs.Calls.{terms_of}
use Rattle.units.specs.declared.Unit.{Unit}
use Rattle.units.proofs.Form.{formed_ordered}
use Rattle.units.proofs.Used.{ordered_used}
use Rattle.pairs.specs.Page.{listed_in, formed}
use Rattle.pairs.specs.Runs.{Request, page_after_all, accepted_pairs}
use Rattle.pairs.proofs.Run.{page_within, run_listed}
use Rattle.sums.specs.Sums.{convertible, SameSums}
use Rattle.sums.specs.Calls.{units_verdict, roots_in, or_empty, convert_answer}
use Rattle.sums.proofs.Convert.{convertible_groups}
use Rattle.sums.proofs.Calls.{passed_all_names, passed_left, passed_right}

-- yes is the answer of the test
answer_yes : (b : Bool) → (◌≡◌ {A = Result Bool Refusal} (Ok b) (Ok true)) ↔ (b ≡ true)
answer_yes b = (λ e. cc, λ e. rw e)

answer_no : (b : Bool) → (◌≡◌ {A = Result Bool Refusal} (Ok b) (Ok false)) ↔ (◌≡◌ {A = Result Bool Refusal} (Ok b) (Ok true) → ⊥)
answer_no true = (λ e _. let z : ◌≡◌ {A = ℕ} 0 1 = cc in omega arith, λ n. absurd (n refl))
answer_no false = (λ e k. let z : ◌≡◌ {A = ℕ} 0 1 = cc in omega arith, λ n. refl)

formed_used : (u : Unit) → units.formed places_max names_max (terms_of u) ≡ true → in_use names_max (terms_of u) ≡ true
formed_used u f = ordered_used 0 (terms_of u) (formed_ordered places_max names_max (terms_of u) f)

module _ (page : List ℕ) (names : Option (List ℕ)) (left right : Option Unit) (v : units_verdict page names (or_empty left ∷ or_empty right ∷ []) ≡ Ok tt) where
  answer_is : (convert_answer page names left right ≡ Ok true)
      ↔ (convertible names_max (roots_in page) (terms_of (or_empty left)) (terms_of (or_empty right)) ≡ true)
  unfolding convert_answer
  answer_is = rw v (answer_yes (convertible names_max (roots_in page) (terms_of (or_empty left)) (terms_of (or_empty right))))

  -- of the pairs that the page lists
  pub converts : (convert_answer page names left right ≡ Ok true) ↔ SameSums names_max (listed_in page) (terms_of (or_empty left)) (terms_of (or_empty right))
  converts =
      let f = passed_all_names page names (or_empty left) (or_empty right) v in
      let g =
      convertible_groups names_max (listed_in page) (page_within page names_max f) (terms_of (or_empty left)) (terms_of (or_empty right))
      (formed_used (or_empty left) (passed_left page names (or_empty left) (or_empty right) v))
      (formed_used (or_empty right) (passed_right page names (or_empty left) (or_empty right) v)) in
      (λ e. g.0 (answer_is.0 e), λ s. answer_is.1 (g.1 s))

  no_is : (convert_answer page names left right ≡ Ok false) ↔ (convert_answer page names left right ≡ Ok true → ⊥)
  unfolding convert_answer
  no_is = rw v (answer_no (convertible names_max (roots_in page) (terms_of (or_empty left)) (terms_of (or_empty right))))

  pub converts_not : (convert_answer page names left right ≡ Ok false) ↔ (¬ (SameSums names_max (listed_in page) (terms_of (or_empty left)) (terms_of (or_empty right))))
  converts_not = (λ e s. no_is.0 e (converts.1 s), λ never. no_is.1 (λ y. never (converts.0 y)))

-- after any list of insertions: of the accepted pairs
pub run_converts : (rs : List Request) (page : List ℕ) (names : Option (List ℕ)) (left right : Option Unit)
    → formed page names_max ≡ true → units_verdict (page_after_all page rs) names (or_empty left ∷ or_empty right ∷ []) ≡ Ok tt
    → (convert_answer (page_after_all page rs) names left right ≡ Ok true)
    ↔ SameSums names_max (accepted_pairs page rs) (terms_of (or_empty left)) (terms_of (or_empty right))
run_converts rs page names left right g v =
    subst (λ ps. (convert_answer (page_after_all page rs) names left right ≡ Ok true) ↔ SameSums names_max ps (terms_of (or_empty left)) (terms_of (or_empty right)))
    (run_listed rs page g) (converts (page_after_all page rs) names left right v)

pub run_converts_not : (rs : List Request) (page : List ℕ) (names : Option (List ℕ)) (left right : Option Unit)
    → formed page names_max ≡ true → units_verdict (page_after_all page rs) names (or_empty left ∷ or_empty right ∷ []) ≡ Ok tt
    → (convert_answer (page_after_all page rs) names left right ≡ Ok false) ↔ (¬ (SameSums names_max (accepted_pairs page rs) (terms_of (or_empty left)) (terms_of (or_empty right))))
run_converts_not rs page names left right g v =
    subst (λ ps. (convert_answer (page_after_all page rs) names left right ≡ Ok false) ↔ (¬ (SameSums names_max ps (terms_of (or_empty left)) (terms_of (or_empty right)))))
    (run_listed rs page g) (converts_not (page_after_all page rs) names left right v)
