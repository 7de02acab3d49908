-- Down a formula: by induction on the route, the sums of its terms in every group are those of the answered unit, at each node whose
-- answer is a Known type (`down`); so at the root of a formula that is as asked (`route_sums`). Assumes nothing.
use Rattle.std.proofs.Common.{Option}
use mathlib.Core.Path.{◌≡◌, refl, sym, ap, ap₂, subst, ◌∙◌}
use mathlib.Core.Bool.{Bool, true, false, ◌||◌}
use mathlib.Core.List.{List, [], Memᴰ}
use mathlib.Core.List.Memᴰ.{head, tail}
use Prim.Native.Nat.{ℕ, ◌<◌}
use native.Mathlib.Omega.{arith}
use lib.ListN.{length}
use lib.IntN.{neg_ℤ, ◌+ℤ◌}
use borrow.Author.Tests.{not-true}
use Rattle.pages.specs.Quant.{any_to}
use Rattle.names.specs.Table.{names_max}
use Rattle.names.specs.Calls.{used_of}
use Rattle.kinds.specs.Kinds.{is_union}
use Rattle.types.specs.Types.{kind_of, arity, child_of}
use Rattle.types.specs.Recur.{below, cov}
use Rattle.types.proofs.Recur.{cov_eq}
use Rattle.matching.specs.declared.Checked.{Checked}
use Rattle.matching.specs.declared.Checked.TheVariants.{Known, Unknown, Function}
use Rattle.units.specs.Unit.{Term, places_max, in_use}
use Rattle.units.specs.declared.Unit.{Unit}
use Rattle.units.proofs.Form.{formed_ordered}
use Rattle.units.proofs.Used.{ordered_used}
use Rattle.units.proofs.Tested.{combine_turn}
use Rattle.sums.specs.Sums.{sum_at}
use Rattle.sums.specs.Calls.{roots_in}
use Rattle.operators.specs.Operators.{minus}
use Rattle.answers.proofs.Proper.{Proper}
use Rattle.formulas.specs.Nodes.{node_at, operand_at, State, state}
use Rattle.formulas.specs.Below.{writings, written_at, Stands, operands_of, Part, errors_at}
use Rattle.formulas.specs.Below.Part.{itself, below as under}
use Rattle.formulas.specs.declared.Written.{Written}
use Rattle.formulas.specs.declared.Written.TheVariants.{Value, Unary, Binary, Index}
use Rattle.formulas.proofs.Steps.{Traced, Ran, traced_sound, answers_ran}
use Rattle.formulas.proofs.Parts.{Lower, part_same, passes_root, passes_each}
use Rattle.formulas.proofs.Operands.{writings_at, ran_written, store_at, operand_settled, at_value, at_unary, unary_kind, at_binary, at_index, traced_lower}
use Rattle.routes.specs.Routes.{Adds, times, over, value_terms, negated, Route}
use Rattle.routes.specs.Routes.Route.{value, negation, left, right, product, quotient, target}
use Rattle.routes.specs.Rule.{Formula, Lent, answers_in, checked_at, unit_at, is_unitless, is_number_in, holds_union, admitted, Fine}
use Rattle.routes.proofs.Totals.{sum_append, sum_negated, append_used, negated_used}
use Rattle.routes.proofs.Checks.{sum_adopts, times_rule, over_rule, negation_is, index_is, operands_known, sum_sides, product_sums}

pub neither : (a b : Bool) → (a || b) ≡ false → (a ≡ false) × (b ≡ false)
neither true b h = absurd (let z : ◌≡◌ {A = ℕ} 0 1 = cc in omega arith)
neither false b h = (refl, h)

-- a type that is admitted is no union itself
pub no_union : (store : List ℕ) (t : ℕ) → admitted store (Known t) ≡ true → is_union (kind_of store t) ≡ false
unfolding holds_union
no_union store t h =
    let step = λ (x : ℕ) (rule : ℕ → Bool). is_union (kind_of store x) || any_to (arity store x) (λ i. rule (child_of store x i)) in
    let e = sym (cov_eq false step t) ∙ not-true (holds_union store t) h in
    (neither (is_union (kind_of store t)) (any_to (arity store t) (λ i. below false t (cov false step) (child_of store t i))) e).0

-- a number is a Known type
pub number_known : (store : List ℕ) (c : Checked) → is_number_in store c ≡ true → (t : ℕ) × (c ≡ Known t)
number_known store (Known t) h = (t, refl)
number_known store Unknown h = absurd cc
number_known store (Function f) h = absurd cc

-- ---- a formula whose parts are answered without errors

pub record Passing (n : ℕ) (root : ℕ → ℕ) (ws : List Written) (r : ℕ) (s : State) : Type 0 where
  pub traced : Traced n root s
  pub same : (k : ℕ) → k < length s.nodes → written_at (writings s.nodes) k ≡ written_at ws k
  pub each : (k : ℕ) → Part ws r k → (k < length s.nodes) × (errors_at s.nodes k ≡ 0)
  pub plain : (k : ℕ) → Part ws r k → admitted s.store (checked_at s k) ≡ true
  pub sides : (k op a b : ℕ) → Part ws r k → Stands ws k (Binary op a b) → Adds op → is_unitless s a ≡ is_unitless s b

module _ (n : ℕ) (root : ℕ → ℕ) (ws : List Written) (r : ℕ) (s : State) (f : Passing n root ws r s) where
  -- terms have symbols in use, and the sums of a unit in every group
  abbrev pub Agree : List Term → Option Unit → Type 0
  Agree xs u = (in_use names_max xs ≡ true) × ((g : ℕ) → g < names_max → sum_at root g xs ≡ sum_at root g (value_terms u))

  module _ (k : ℕ) (p : Part ws r k) where
    there : k < length s.nodes
    there = (f.each k p).0

    clean : errors_at s.nodes k ≡ 0
    clean = (f.each k p).1

    module _ (w : Written) (st : Stands ws k w) where
      written : (node_at s.nodes k).written ≡ w
      written = sym (writings_at s.nodes k) ∙ f.same k there ∙ st.1

      part : (a : ℕ) → Memᴰ a (operands_of w) → Part ws r a
      part a m = under p (subst (λ v. Memᴰ a (operands_of v)) (sym st.1) m)

    -- its unit is in form
    proper : Proper n (unit_at s k)
    proper = ((traced_sound n root s f.traced).each k there).proper

    -- of a value: its own terms
    of_value : (t : ℕ) (u : Option Unit) → Stands ws k (Value t u) → Agree (value_terms u) (unit_at s k)
    of_value t u st =
        let e : unit_at s k ≡ u = ap (λ x. x.unit) (at_value n root s f.traced k there t u (written (Value t u) st)) in
        let used = ordered_used 0 (value_terms (unit_at s k)) (formed_ordered places_max names_max (value_terms (unit_at s k)) proper.form) in
        (rw e at used, λ g l. ap (λ x. sum_at root g (value_terms x)) (sym e))

    module _ (t : ℕ) (known : checked_at s k ≡ Known t) where
      -- − keeps its operand's unit
      of_negation : (a : ℕ) → Stands ws k (Unary minus a) → ((i : ℕ) × (checked_at s a ≡ Known i)) × (unit_at s k ≡ unit_at s a)
      of_negation a st =
          let w = written (Unary minus a) st in
          let h = at_unary n root s f.traced k there minus a w in
          let page = store_at n root s f.traced k there in
          let plain = no_union s.store t (ap (admitted s.store) (sym known) ∙ f.plain k p) in
          negation_is page (node_at s.nodes k).answer t known clean (checked_at s a) (unit_at s a) h.2
          (ap is_union (sym (unary_kind n root s f.traced k there minus a w t known)) ∙ plain)

      -- and so does an index its target's
      of_index : (a b : ℕ) → Stands ws k (Index a b) → ((i : ℕ) × (checked_at s a ≡ Known i)) × (unit_at s k ≡ unit_at s a)
      of_index a b st =
          let h = at_index n root s f.traced k there a b (written (Index a b) st) in
          index_is (store_at n root s f.traced k there) (node_at s.nodes k).answer t known (checked_at s b) (checked_at s a) (unit_at s a) h.2

      module _ (op a b : ℕ) (st : Stands ws k (Binary op a b)) where
        -- a binary operator has two Known operands
        of_both : (i : ℕ) × (j : ℕ) × (checked_at s a ≡ Known i) × (checked_at s b ≡ Known j)
        of_both =
            let h = at_binary n root s f.traced k there op a b (written (Binary op a b) st) in
            operands_known (store_at n root s f.traced k there) root op (operand_at s.nodes a) (operand_at s.nodes b) (node_at s.nodes k).answer h.2 t known clean

        -- a sum has the sums of either side
        of_sum : Adds op → (g : ℕ) → g < names_max
            → (sum_at root g (value_terms (unit_at s a)) ≡ sum_at root g (value_terms (unit_at s k))) × (sum_at root g (value_terms (unit_at s b)) ≡ sum_at root g (value_terms (unit_at s k)))
        of_sum su g l =
            let h = at_binary n root s f.traced k there op a b (written (Binary op a b) st) in
            let x = operand_settled n root s f.traced k there a h.0 in
            let y = operand_settled n root s f.traced k there b h.1 in
            sum_sides (store_at n root s f.traced k there) root op (operand_at s.nodes a) (operand_at s.nodes b) (node_at s.nodes k).answer h.2 t known clean
            ((f.traced.each k there).sound.form) (sum_adopts op su) (f.sides k op a b p st su) x.used y.used g l

      -- a product's sums are those of both sides together
      of_product : (a b : ℕ) → Stands ws k (Binary times a b) → (g : ℕ)
          → sum_at root g (value_terms (unit_at s k)) ≡ sum_at root g (value_terms (unit_at s a)) +ℤ sum_at root g (value_terms (unit_at s b))
      of_product a b st g =
          let h = at_binary n root s f.traced k there times a b (written (Binary times a b) st) in
          let x = operand_settled n root s f.traced k there a h.0 in
          let y = operand_settled n root s f.traced k there b h.1 in
          product_sums (store_at n root s f.traced k there) root times (operand_at s.nodes a) (operand_at s.nodes b) (node_at s.nodes k).answer h.2 t known clean n
          x.proper y.proper false times_rule g

      -- and of a quotient those of the dividend less those of the divisor
      of_quotient : (a b : ℕ) → Stands ws k (Binary over a b) → (g : ℕ)
          → sum_at root g (value_terms (unit_at s k)) ≡ sum_at root g (value_terms (unit_at s a)) +ℤ neg_ℤ (sum_at root g (value_terms (unit_at s b)))
      of_quotient a b st g =
          let h = at_binary n root s f.traced k there over a b (written (Binary over a b) st) in
          let x = operand_settled n root s f.traced k there a h.0 in
          let y = operand_settled n root s f.traced k there b h.1 in
          product_sums (store_at n root s f.traced k there) root over (operand_at s.nodes a) (operand_at s.nodes b) (node_at s.nodes k).answer h.2 t known clean n
          x.proper y.proper true over_rule g
          ∙ combine_turn true (sum_at root g (value_terms (unit_at s a))) (sum_at root g (value_terms (unit_at s b)))

  -- by induction on the route
  pub down : {k : ℕ} {xs : List Term} → Route ws k xs → Part ws r k → (t : ℕ) → checked_at s k ≡ Known t → Agree xs (unit_at s k)
  down {k} (value {t = t} {u = u} st) p i known = of_value k p t u st
  down {k} (negation {a = a} {xs = xs} st w) p t known =
      let h = of_negation k p t known a st in
      let ih = down w (part k p (Unary minus a) st a (head refl)) (h.0).0 (h.0).1 in
      (ih.0, λ g l. ih.1 g l ∙ ap (λ x. sum_at root g (value_terms x)) (sym h.1))
  down {k} (left {op = op} {a = a} {b = b} st su w) p t known =
      let h = of_both k p t known op a b st in
      let ih = down w (part k p (Binary op a b) st a (head refl)) h.0 h.2 in
      (ih.0, λ g l. ih.1 g l ∙ (of_sum k p t known op a b st su g l).0)
  down {k} (right {op = op} {a = a} {b = b} st su w) p t known =
      let h = of_both k p t known op a b st in
      let ih = down w (part k p (Binary op a b) st b (tail (head refl))) h.1 h.3 in
      (ih.0, λ g l. ih.1 g l ∙ (of_sum k p t known op a b st su g l).1)
  down {k} (product {a = a} {b = b} {xs = xs} {ys = ys} st v w) p t known =
      let h = of_both k p t known times a b st in
      let x = down v (part k p (Binary times a b) st a (head refl)) h.0 h.2 in
      let y = down w (part k p (Binary times a b) st b (tail (head refl))) h.1 h.3 in
      (append_used names_max xs ys x.0 y.0, λ g l. sum_append root g xs ys ∙ ap₂ ◌+ℤ◌ (x.1 g l) (y.1 g l) ∙ sym (of_product k p t known a b st g))
  down {k} (quotient {a = a} {b = b} {xs = xs} {ys = ys} st v w) p t known =
      let h = of_both k p t known over a b st in
      let x = down v (part k p (Binary over a b) st a (head refl)) h.0 h.2 in
      let y = down w (part k p (Binary over a b) st b (tail (head refl))) h.1 h.3 in (
        append_used names_max xs (negated ys) x.0 (negated_used names_max ys y.0),
        λ g l.
            sum_append root g xs (negated ys) ∙ ap₂ ◌+ℤ◌ (x.1 g l) (sum_negated root g ys ∙ ap neg_ℤ (y.1 g l))
            ∙ sym (of_quotient k p t known a b st g),
      )
  down {k} (target {a = a} {k = b} st w) p t known =
      let h = of_index k p t known a b st in
      let ih = down w (part k p (Index a b) st a (head refl)) (h.0).0 (h.0).1 in
      (ih.0, λ g l. ih.1 g l ∙ ap (λ x. sum_at root g (value_terms x)) (sym h.1))

-- ---- a formula that is as asked

module _ (lent : Lent) (store : List ℕ) (f : Formula) (fine : Fine lent store f) where
  last : State
  last = answers_in lent store f

  ran : Ran (used_of lent.names) (roots_in lent.table) (state store []) f.nodes (answers_in lent store f)
  ran = answers_ran (used_of lent.names) (roots_in lent.table) store fine.sound f.nodes

  alike : (k : ℕ) → k < length (answers_in lent store f).nodes → written_at (writings (answers_in lent store f).nodes) k ≡ written_at f.nodes k
  alike = ran_written (used_of lent.names) (roots_in lent.table) store f.nodes (answers_in lent store f) ran

  answered_lower : Lower (writings (answers_in lent store f).nodes) (length (answers_in lent store f).nodes)
  answered_lower = traced_lower (used_of lent.names) (roots_in lent.table) (answers_in lent store f) ran.whole

  written_lower : Lower f.nodes (length (answers_in lent store f).nodes)
  written_lower k l a m = answered_lower k l a (subst (λ w. Memᴰ a (operands_of w)) (sym (alike k l)) m)

  -- its root is answered
  root_answered : f.root < length (answers_in lent store f).nodes
  root_answered = passes_root (answers_in lent store f).nodes f.root fine.pass

  pub passing : Passing (used_of lent.names) (roots_in lent.table) f.nodes f.root (answers_in lent store f)
  passing = record {
    traced = ran.whole;
    same = alike;
    each = λ k p.
        passes_each (answers_in lent store f).nodes f.root fine.pass answered_lower k
        (part_same f.nodes (length (answers_in lent store f).nodes) written_lower (writings (answers_in lent store f).nodes) (λ i l. sym (alike i l)) root_answered p);
    plain = fine.plain;
    sides = fine.sides;
  }

  -- the result's unit is in form, with symbols in use
  pub result_proper : Proper (used_of lent.names) (unit_at (answers_in lent store f) f.root)
  result_proper = ((traced_sound (used_of lent.names) (roots_in lent.table) (answers_in lent store f) ran.whole).each f.root root_answered).proper

  -- every route down the formula has the sums of its result's unit
  pub route_sums : {xs : List Term} → Route f.nodes f.root xs
      → (in_use names_max xs ≡ true) × ((g : ℕ) → g < names_max → sum_at (roots_in lent.table) g xs ≡ sum_at (roots_in lent.table) g (value_terms (unit_at (answers_in lent store f) f.root)))
  route_sums w =
      let k = number_known (answers_in lent store f).store (checked_at (answers_in lent store f) f.root) fine.number in
      down (used_of lent.names) (roots_in lent.table) f.nodes f.root (answers_in lent store f) passing w itself k.0 k.1
