-- What the calls for operators and indexing come to, one law for each return. Assumes nothing.
use Rattle.units.specs.declared.Unit.{Unit}
use Rattle.std.proofs.Common.{Result, Ok, Err, Option}
use mathlib.Core.Path.{◌≡◌, refl, sym, ap, fun_ext, ◌∙◌}
use mathlib.Core.Bool.{true, false, ◌&&◌, ◌||◌, not}
use mathlib.Core.List.{List, [], ◌∷◌}
use Prim.Native.Nat.{ℕ, ◌<◌, ◌≤◌}
use native.Mathlib.Nat.{le_refl}
use native.Mathlib.Omega.{arith}
use borrow.Author.Tests.{not-false}
use Rattle.refusals.specs.Lowest.{◌when◌, lowest}
use Rattle.refusals.specs.declared.Refusal.{Refusal}
use Rattle.refusals.specs.declared.Refusal.TheVariants.{Undefined, Broken, Unused, BadUnit}
use Rattle.refusals.proofs.Lowest.{first_holds, passed_parts}
use Rattle.pages.proofs.Quant.{and_true}
use Rattle.names.specs.Calls.{used_of}
use Rattle.types.specs.Store.{Formed}
use Rattle.types.specs.Types.{types_in}
use Rattle.types.specs.Making.{Grows}
use Rattle.types.specs.Calls.{store_broken, opened_answer}
use Rattle.types.proofs.Calls.{unbroken_both, opened_err}
use Rattle.matching.specs.Matching as matching
use Rattle.matching.specs.declared.Checked.{Checked}
use Rattle.units.specs.Unit.{in_use}
use Rattle.units.specs.Calls.{present}
use Rattle.pairs.specs.Calls.{table_broken, form_verdict}
use Rattle.pairs.proofs.Calls.{table_err}
use Rattle.sums.specs.Calls.{roots_in, or_empty}
use Rattle.operators.specs.Operators.{is_operator}
use Rattle.operators.specs.Outcome.{number_of}
use Rattle.operators.proofs.Table.{operator_range}
use Rattle.operators.specs.declared.Outcome.{Outcome}
use Rattle.members.specs.Members.{Concluded, concluded}
use Rattle.members.specs.Leaves.{Leaves}
use Rattle.members.proofs.Leaves.{leaves_grown}
use Rattle.members.proofs.Kept.{Kept, number_used}
use Rattle.unary.specs.Unary.{check_unary}
use Rattle.unary.proofs.Kept.{unary_kept}
use Rattle.indexing.specs.Indexing.{check_index}
use Rattle.answers.specs.Calls.{operand_used, operand_formed, operand_conditions, answered, binary_verdict, binary_checked, binary_answer, concluded_by, store_after, unary_verdict, unary_unit, unary_checked, unary_answer, unary_page, keyed, index_verdict, index_answer, index_page}
use Rattle.answers.specs.declared.CheckedExpr.{CheckedExpr}
use Rattle.answers.specs.declared.Answered.{Answered}

-- ---- two operands

module _ (page : List ℕ) (n : ℕ) (left right : CheckedExpr) where
  unused : (operand_used page n left && operand_used page n right) ≡ false → Err Unused ≡ lowest (operand_conditions page n left right)
  unused u = sym (rw u (first_holds Unused ((BadUnit when not (operand_formed left && operand_formed right)) ∷ []) refl))

  pub left_unused : operand_used page n left ≡ false → Err Unused ≡ lowest (operand_conditions page n left right)
  left_unused u = unused (rw u)

  module _ (l : operand_used page n left ≡ true) where
    pub right_unused : operand_used page n right ≡ false → Err Unused ≡ lowest (operand_conditions page n left right)
    right_unused u = unused (rw (l, u))

    module _ (r : operand_used page n right ≡ true) where
      pub left_bad : operand_formed left ≡ false → Err BadUnit ≡ lowest (operand_conditions page n left right)
      left_bad f = rw (l, r, f)

      module _ (f : operand_formed left ≡ true) where
        pub right_bad : operand_formed right ≡ false → Err BadUnit ≡ lowest (operand_conditions page n left right)
        right_bad g = rw (l, r, f, g)

        pub both_pass : operand_formed right ≡ true → Ok tt ≡ lowest (operand_conditions page n left right)
        both_pass g = rw (l, r, f, g)

  -- what two operands have that are not refused
  module _ (v : lowest (operand_conditions page n left right) ≡ Ok tt) where
    parts : (not (operand_used page n left && operand_used page n right) ≡ false) × (lowest ((BadUnit when not (operand_formed left && operand_formed right)) ∷ []) ≡ Ok tt)
    parts = passed_parts Unused (not (operand_used page n left && operand_used page n right)) ((BadUnit when not (operand_formed left && operand_formed right)) ∷ []) v

    pub passed_formed : (operand_formed left ≡ true) × (operand_formed right ≡ true)
    passed_formed =
        and_true (operand_formed left) (operand_formed right)
        (not-false (operand_formed left && operand_formed right) (passed_parts BadUnit (not (operand_formed left && operand_formed right)) [] parts.1).0)

    pub passed_used : (matching.in_use page left.checked ≡ true) × (matching.in_use page right.checked ≡ true)
    passed_used =
        let both = and_true (operand_used page n left) (operand_used page n right) (not-false (operand_used page n left && operand_used page n right) parts.0) in (
          (and_true (matching.in_use page left.checked) (in_use n (present (or_empty left.unit))) both.0).0,
          (and_true (matching.in_use page right.checked) (in_use n (present (or_empty right.unit))) both.1).0,
        )

-- ---- binary operators

module _ (page : List ℕ) (names : Option (List ℕ)) (pairs : List ℕ) (op : ℕ) (left right : CheckedExpr) where
  binary_refused : (r : Refusal) → binary_verdict page names pairs op left right ≡ Err r → Err r ≡ binary_answer page names pairs op left right
  unfolding binary_answer
  binary_refused r v = rw v

  pub binary_undefined : is_operator op ≡ false → Err Undefined ≡ binary_answer page names pairs op left right
  binary_undefined d =
      binary_refused Undefined
      (rw d
      (first_holds Undefined
      ((Broken when (store_broken page names || table_broken pairs names)) ∷ operand_conditions page (used_of names) left right) refl))

  module _ (d : is_operator op ≡ true) where
    binary_broken : (store_broken page names || table_broken pairs names) ≡ true → Err Broken ≡ binary_answer page names pairs op left right
    binary_broken b = binary_refused Broken (rw (d, b) (first_holds Broken (operand_conditions page (used_of names) left right) refl))

    pub binary_unopened : (r : Refusal) → Err r ≡ opened_answer page names → Err r ≡ binary_answer page names pairs op left right
    binary_unopened r e = let o = opened_err page names r e in rw o.1 (binary_broken (rw o.0))

    pub binary_unformed : store_broken page names ≡ false → (n : ℕ) → n ≡ used_of names → (r : Refusal) → Err r ≡ form_verdict pairs n
        → Err r ≡ binary_answer page names pairs op left right
    binary_unformed b n is r e = let t = table_err pairs names (unbroken_both page names b).0 n is r e in rw t.1 (binary_broken (rw (b, t.0)))

    module _ (b : store_broken page names ≡ false) (t : table_broken pairs names ≡ false) where
      pub binary_unfit : (r : Refusal) → Err r ≡ lowest (operand_conditions page (used_of names) left right)
          → Err r ≡ binary_answer page names pairs op left right
      binary_unfit r v = binary_refused r (rw (d, b, t) (sym v))

      pub binary_passed : Ok tt ≡ lowest (operand_conditions page (used_of names) left right)
          → (root : ℕ → ℕ) → ((s : ℕ) → root s ≡ roots_in pairs s)
          → binary_checked page root op left right ≡ binary_answer page names pairs op left right
      unfolding binary_answer
      binary_passed v root same = rw (d, b, t, ← v) (ap (λ (by : ℕ → ℕ). binary_checked page by op left right) (fun_ext same))

-- ---- a conclusion and the store that it leaves

-- the check of an operator with one operand
module _ (page : List ℕ) (f : Formed page) (op : ℕ) (d : is_operator op ≡ true) (x : Checked) (u : matching.in_use page x ≡ true)
    (r : Result Outcome Refusal) (after : List ℕ) (e : concluded r after ≡ check_unary page op x) where
  kept : Kept page (concluded r after)
  kept = rw e (unary_kept page f op (operator_range op d).0 x u)

  pub unary_used : (o : Outcome) → r ≡ Ok o → number_of o.checked < types_in after
  unary_used o h = number_used after o.checked (kept.used o h)

  pub unary_grown : Grows page after
  unary_grown = kept.grown

  -- a table of leaves has those of the types that there were
  pub unary_leaves : (leaves : List ℕ) (n : ℕ) → n ≡ types_in page → Leaves true page leaves (types_in page)
      → (n ≤ types_in after) × Leaves true after leaves n
  unary_leaves leaves n is l =
      (omega (arith, is, kept.grown.more), rw is (leaves_grown true page after f kept.form kept.grown leaves (types_in page) (le_refl (types_in page)) l))

module _ (page : List ℕ) (z : Concluded) (r : Result Outcome Refusal) (after : List ℕ) (e : concluded r after ≡ z) where
  pub unary_is : (op : ℕ) (u : Option Unit) (o : Outcome) → r ≡ Ok o
      → (Ok (answered o (unary_unit after op o u)) ≡ unary_checked z op u) × (after ≡ store_after z page)
  unary_is op u o h = (rw (← e, h) refl, rw (← e, h) refl)

  pub unary_stopped : (op : ℕ) (u : Option Unit) (q : Refusal) → r ≡ Err q → (Err q ≡ unary_checked z op u) × (page ≡ store_after z page)
  unary_stopped op u q h = (rw (← e, h) refl, rw (← e, h) refl)

  pub index_is : (u : Option Unit) (o : Outcome) → r ≡ Ok o → (Ok (answered o u) ≡ concluded_by z.conclusion u) × (after ≡ store_after z page)
  index_is u o h = (rw (← e, h) refl, rw (← e, h) refl)

  pub index_stopped : (u : Option Unit) (q : Refusal) → r ≡ Err q → z.store ≡ page
      → (Err q ≡ concluded_by z.conclusion u) × (after ≡ store_after z page)
  index_stopped u q h same =
      let left : after ≡ page = ap (λ (y : Concluded). y.store) e ∙ same in
      (rw (← e, h) refl, left ∙ rw (← e, h) refl)

-- ---- operators with one operand

module _ (page : List ℕ) (names : Option (List ℕ)) (op : ℕ) (x : CheckedExpr) where
  -- an answer and a page are those of the call
  abbrev Unary : Result Answered Refusal → List ℕ → Type 0
  Unary a after = (a ≡ unary_answer page names op x) × (after ≡ unary_page page names op x)

  unary_refused : (r : Refusal) → unary_verdict page names op x ≡ Err r → Unary (Err r) page
  unfolding unary_answer unary_page
  unary_refused r v = (rw v refl, rw v refl)

  pub unary_undefined : is_operator op ≡ false → Unary (Err Undefined) page
  unary_undefined d =
      unary_refused Undefined
      (rw d (first_holds Undefined ((Broken when store_broken page names) ∷ operand_conditions page (used_of names) x x) refl))

  module _ (d : is_operator op ≡ true) where
    unary_broken : store_broken page names ≡ true → Unary (Err Broken) page
    unary_broken b = unary_refused Broken (rw (d, b) (first_holds Broken (operand_conditions page (used_of names) x x) refl))

    pub unary_unopened : (r : Refusal) → Err r ≡ opened_answer page names → Unary (Err r) page
    unary_unopened r e = let o = opened_err page names r e in rw o.1 (unary_broken o.0)

    module _ (b : store_broken page names ≡ false) where
      pub unary_unfit : (r : Refusal) → Err r ≡ lowest (operand_conditions page (used_of names) x x) → Unary (Err r) page
      unary_unfit r v = unary_refused r (rw (d, b) (sym v))

      pub unary_passed : Ok tt ≡ lowest (operand_conditions page (used_of names) x x) → {a : Result Answered Refusal} {after : List ℕ}
          → a ≡ unary_checked (check_unary page op x.checked) op x.unit → after ≡ store_after (check_unary page op x.checked) page → Unary a after
      unfolding unary_answer unary_page
      unary_passed v p q = (rw (d, b, ← v) p, rw (d, b, ← v) q)

-- ---- indexing

module _ (page : List ℕ) (names : Option (List ℕ)) (target : CheckedExpr) (key : Checked) where
  -- an answer and a page are those of the call
  abbrev Indexed : Result Answered Refusal → List ℕ → Type 0
  Indexed a after = (a ≡ index_answer page names target key) × (after ≡ index_page page names target key)

  index_refused : (r : Refusal) → index_verdict page names target key ≡ Err r → Indexed (Err r) page
  unfolding index_answer index_page
  index_refused r v = (rw v refl, rw v refl)

  index_broken : store_broken page names ≡ true → Indexed (Err Broken) page
  index_broken b = index_refused Broken (rw b (first_holds Broken (operand_conditions page (used_of names) target (keyed key)) refl))

  pub index_unopened : (r : Refusal) → Err r ≡ opened_answer page names → Indexed (Err r) page
  index_unopened r e = let o = opened_err page names r e in rw o.1 (index_broken o.0)

  module _ (b : store_broken page names ≡ false) where
    pub index_unfit : (r : Refusal) → Err r ≡ lowest (operand_conditions page (used_of names) target (keyed key)) → Indexed (Err r) page
    index_unfit r v = index_refused r (rw b (sym v))

    pub index_passed : Ok tt ≡ lowest (operand_conditions page (used_of names) target (keyed key)) → {a : Result Answered Refusal} {after : List ℕ}
        → a ≡ concluded_by (check_index page key target.checked).conclusion target.unit
        → after ≡ store_after (check_index page key target.checked) page → Indexed a after
    unfolding index_answer index_page
    index_passed v p q = (rw (b, ← v) p, rw (b, ← v) q)
