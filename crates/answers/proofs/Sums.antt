-- Sums and differences of two operands with units (document 01, "Answers"): where the units are not convertible, no type, and so no
-- number, is answered without an error (`sum_errs`); where they are, a type that is answered has the left's unit (`sum_keeps`). The same
-- by the roots of any groups: `checked_errs`, `checked_keeps`, and that without an error the units are convertible, `checked_agrees`.
-- Assumes nothing.
use Rattle.std.specs.Prelude.{IfOk}
use Rattle.std.specs.Prelude.{Option}
use Rattle.refusals.specs.declared.Refusal.{Refusal}
use Rattle.sums.specs.Calls.{or_empty}
use Rattle.std.proofs.Common.{Ok, Err, Result}
use mathlib.Core.Path.{◌≡◌, refl, sym, ap, ◌∙◌}
use mathlib.Core.Bool.{Bool, true, false, ◌||◌, not, cond}
use mathlib.Core.List.{List, ◌∷◌}
use Prim.Native.Nat.{ℕ, ◌<◌, ◌≤◌}
use native.Mathlib.Omega.{arith}
use lib.Dec.{eqb, leb}
use borrow.Author.Tests.{leb-true, le-leb, eqb-false}
use Rattle.refusals.specs.Lowest.{◌when◌, lowest, guarded}
use Rattle.refusals.specs.declared.Refusal.TheVariants.{Undefined, Broken}
use Rattle.refusals.specs.Numbers.{Verdict}
use Rattle.refusals.proofs.Lowest.{passed_parts}
use Rattle.pages.specs.Bytes.{within}
use Rattle.pages.proofs.Quant.{and_true}
use Rattle.pages.proofs.Bytes.{and_false}
use Rattle.names.specs.Table.{names_max}
use Rattle.names.specs.Calls.{used_of}
use Rattle.kinds.specs.Kinds.{is_union}
use Rattle.types.specs.Store.{Formed}
use Rattle.types.specs.Types.{kind_of}
use Rattle.types.specs.Calls.{store_broken}
use Rattle.types.proofs.Calls.{unbroken_both}
use Rattle.matching.specs.Matching.{in_use}
use Rattle.matching.specs.declared.Checked.{Checked}
use Rattle.matching.specs.declared.Checked.TheVariants.{Known, Unknown, Function}
use Rattle.matching.proofs.Matching.{known_in_use}
use Rattle.units.specs.Calls.{terms_of, unitless}
use Rattle.pairs.specs.Calls.{table_broken}
use Rattle.sums.specs.Sums.{convertible}
use Rattle.sums.specs.Calls.{roots_in}
use Rattle.operators.specs.Operators.{is_operator, class_of, unit_rule, no_family, looks, suits, fits}
use Rattle.operators.specs.declared.Class.TheVariants.{Arithmetic}
use Rattle.operators.specs.declared.UnitRule.TheVariants.{Adopted, Multiplied, Divided, Compared, Ignored}
use Rattle.operators.specs.Outcome.{one_error, outcome, is_known, passes, misfit, plain_binary, count_of}
use Rattle.operators.specs.declared.Reason.TheVariants.{NoMember}
use Rattle.operators.specs.declared.Outcome.{Outcome}
use Rattle.binary.specs.Binary.{family_in, either, binary_any, beside_function, check_binary}
use Rattle.binary.proofs.Rule.{plain_says}
use Rattle.binary.proofs.Operands.{beside_fails}
use Rattle.binary.proofs.Binary.{known_eq, known_passes, any_passes}
use Rattle.answers.specs.Units.{no_unit, clashes, adopted_by, binary_unit}
use Rattle.answers.specs.Calls.{operand_conditions, answered, with_unit, binary_verdict, binary_checked, binary_answer}
use Rattle.answers.specs.declared.Answered.{Answered}
use Rattle.answers.specs.declared.CheckedExpr.{CheckedExpr}
use Rattle.answers.proofs.Calls.{passed_used}

never : false ≡ true → ⊥
never e = let z : ◌≡◌ {A = ℕ} 0 1 = cc in omega arith

-- ---- a check of a sum or difference

module _ (op : ℕ) (sum : unit_rule op ≡ Adopted) where
  sum_class : class_of op ≡ Arithmetic
  unfolding class_of unit_rule
  sum_class =
      let p = and_true (leb 1 op) (leb op 2) (first (within 1 2 op) (eqb op 3) (eqb op 4) (within 5 10 op) sum) in
      let high : op ≤ 4 = omega (arith, leb-true op 2 p.1) in
      rw (p.0, le-leb op 4 high) refl
    where
      first : (a b c d : Bool) → cond a Adopted (cond b Multiplied (cond c Divided (cond d Compared Ignored))) ≡ Adopted → a ≡ true
      first true b c d e = refl
      first false true c d e = absurd (let z : ◌≡◌ {A = ℕ} 0 1 = cc in omega arith)
      first false false true d e = absurd (let z : ◌≡◌ {A = ℕ} 0 1 = cc in omega arith)
      first false false false true e = absurd (let z : ◌≡◌ {A = ℕ} 0 1 = cc in omega arith)
      first false false false false e = absurd (let z : ◌≡◌ {A = ℕ} 0 1 = cc in omega arith)

  clash_unfit : (f g : ℕ) → fits op true f g ≡ false
  unfolding fits looks
  clash_unfit f g = rw sum (and_false (suits op f g))

  plain_known : (f g : ℕ) → is_known (plain_binary op false f g).checked ≡ true → passes (plain_binary op false f g) ≡ true
  unfolding plain_binary fits misfit passes
  plain_known f g h = go (suits op f g) refl h
    where
      go : (b : Bool) → suits op f g ≡ b → is_known (plain_binary op false f g).checked ≡ true → passes (plain_binary op false f g) ≡ true
      go true e k = rw e refl
      go false e k = absurd (never (rw (e, sum_class) at k))

  module _ (page : List ℕ) (form : Formed page) where
    clash_fails : (x y : Checked) → in_use page x ≡ true → in_use page y ≡ true → passes (check_binary page op true x y) ≡ false
    unfolding check_binary passes
    clash_fails Unknown y u v = refl
    clash_fails (Known l) Unknown u v = refl
    clash_fails (Known l) (Known r) u v = known_passes page form op true l r (known_in_use page l u) (known_in_use page r v) ∙ clash_unfit _ _
    clash_fails (Known l) (Function g) u v = beside_fails page l _ ((plain_says op true (family_in page l) no_family).failing (clash_unfit _ _))
    clash_fails (Function f) Unknown u v = refl
    clash_fails (Function f) (Known r) u v = beside_fails page r _ ((plain_says op true no_family (family_in page r)).failing (clash_unfit _ _))
    clash_fails (Function f) (Function g) u v = (plain_says op true no_family no_family).failing (clash_unfit _ _)

    beside_known : (t : ℕ) (o : Outcome) → (is_known o.checked ≡ true → passes o ≡ true)
        → is_known (beside_function page t o).checked ≡ true → passes (beside_function page t o) ≡ true
    unfolding beside_function
    beside_known t o h = go (is_union (kind_of page t))
      where
        go : (b : Bool) → is_known (cond b (outcome Unknown (one_error NoMember)) o).checked ≡ true
            → passes (cond b (outcome Unknown (one_error NoMember)) o) ≡ true
        go true k = absurd (never k)
        go false k = h k

    check_known : (x y : Checked) → in_use page x ≡ true → in_use page y ≡ true
        → is_known (check_binary page op false x y).checked ≡ true → passes (check_binary page op false x y) ≡ true
    unfolding check_binary
    check_known Unknown y u v h = absurd (never h)
    check_known (Known l) Unknown u v h = absurd (never h)
    check_known (Known l) (Known r) u v h =
        let e = known_eq page op false form l r (known_in_use page l u) (known_in_use page r v) in
        rw e (go (either page l r) (rw e at h))
      where
        go : (b : Bool)
            → is_known (cond b (binary_any page op false l r) (plain_binary op false (family_in page l) (family_in page r))).checked ≡ true
            → passes (cond b (binary_any page op false l r) (plain_binary op false (family_in page l) (family_in page r))) ≡ true
        go true k = any_passes page form op false l r (known_in_use page l u) (known_in_use page r v) ∙ k
        go false k = plain_known (family_in page l) (family_in page r) k
    check_known (Known l) (Function g) u v h = beside_known l _ (plain_known (family_in page l) no_family) h
    check_known (Function f) Unknown u v h = absurd (never h)
    check_known (Function f) (Known r) u v h = beside_known r _ (plain_known no_family (family_in page r)) h
    check_known (Function f) (Function g) u v h = plain_known no_family no_family h

-- ---- the answer, by the roots of any groups

module _ (page : List ℕ) (form : Formed page) (root : ℕ → ℕ) (op : ℕ) (left right : CheckedExpr) (sum : unit_rule op ≡ Adopted)
    (l : unitless left.unit ≡ false) (r : unitless right.unit ≡ false) (u : in_use page left.checked ≡ true)
    (v : in_use page right.checked ≡ true) (a : Answered)
    (given : binary_checked page root op left right ≡ Ok a) (t : ℕ) (known : a.checked ≡ Known t) where
  module _ (apart : convertible names_max root (terms_of (or_empty left.unit)) (terms_of (or_empty right.unit)) ≡ false) where
    clash : clashes root left.unit right.unit ≡ true
    unfolding clashes
    clash = rw (l, r, apart) refl

    fails : passes (check_binary page op true left.checked right.checked) ≡ false
    fails = clash_fails op sum page form left.checked right.checked u v

    is_outcome : a ≡ answered (check_binary page op true left.checked right.checked) no_unit
    unfolding binary_checked with_unit
    is_outcome =
        let z : ◌≡◌ {A = Result Answered Refusal} (Ok (answered (check_binary page op true left.checked right.checked) no_unit)) (Ok a) = rw (clash, fails) at given in
        cc

    pub checked_errs : 0 < count_of a.errors
    unfolding passes
    checked_errs =
        let o = check_binary page op true left.checked right.checked in
        let k : o.checked ≡ Known t = ap (λ (x : Answered). x.checked) (sym is_outcome) ∙ known in
        let n : eqb (count_of o.errors) 0 ≡ false = rw k at fails in
        rw is_outcome (omega (arith, eqb-false (count_of o.errors) 0 n))

  module _ (together : convertible names_max root (terms_of (or_empty left.unit)) (terms_of (or_empty right.unit)) ≡ true) where
    no_clash : clashes root left.unit right.unit ≡ false
    unfolding clashes
    no_clash = rw (l, r, together) refl

    left_unit : binary_unit op left.unit right.unit ≡ Ok left.unit
    unfolding binary_unit adopted_by
    left_unit = rw (sum, l) refl

    -- whether or not the check passes, its type is answered
    is_either : ◌≡◌ {A = Result Answered Refusal}
        (cond (passes (check_binary page op false left.checked right.checked))
        (Ok (answered (check_binary page op false left.checked right.checked) left.unit))
        (Ok (answered (check_binary page op false left.checked right.checked) no_unit)))
        (Ok a)
    unfolding binary_checked with_unit
    is_either = rw (no_clash, left_unit) at given

    pub checked_keeps : a.unit ≡ left.unit
    checked_keeps =
        let o = check_binary page op false left.checked right.checked in
        let k : o.checked ≡ Known t = either_way (passes o) o is_either ∙ known in
        let p = check_known op sum page form left.checked right.checked u v (rw k refl) in
        let z : ◌≡◌ {A = Result Answered Refusal} (Ok (answered o left.unit)) (Ok a) = rw p at is_either in
        let y : answered o left.unit ≡ a = cc in
        ap (λ (x : Answered). x.unit) (sym y)
      where
        either_way : (b : Bool) (o : Outcome) → ◌≡◌ {A = Result Answered Refusal} (cond b (Ok (answered o left.unit)) (Ok (answered o no_unit))) (Ok a) → o.checked ≡ a.checked
        either_way true o e = let y : answered o left.unit ≡ a = cc in ap (λ (x : Answered). x.checked) y
        either_way false o e = let y : answered o no_unit ≡ a = cc in ap (λ (x : Answered). x.checked) y

  -- without an error the units are convertible: the other way round of `checked_errs`
  pub checked_agrees : count_of a.errors ≡ 0 → convertible names_max root (terms_of (or_empty left.unit)) (terms_of (or_empty right.unit)) ≡ true
  checked_agrees none = go (convertible names_max root (terms_of (or_empty left.unit)) (terms_of (or_empty right.unit))) refl
    where
      go : (b : Bool) → convertible names_max root (terms_of (or_empty left.unit)) (terms_of (or_empty right.unit)) ≡ b → b ≡ true
      go true e = refl
      go false e = let some = checked_errs e in absurd (omega (arith, some, none))

-- ---- and of the call

module _ (page : List ℕ) (names : Option (List ℕ)) (pairs : List ℕ) (op : ℕ) (left right : CheckedExpr) (sum : unit_rule op ≡ Adopted)
    (l : unitless left.unit ≡ false) (r : unitless right.unit ≡ false)
    (a : Answered) (given : binary_answer page names pairs op left right ≡ Ok a) where
  not_refused : (v : Verdict) (x : Result Answered Refusal) → guarded v x ≡ Ok a → (v ≡ Ok tt) × (x ≡ Ok a)
  not_refused (Ok _) x e = (refl, e)
  not_refused (Err q) x e = absurd (let z : ◌≡◌ {A = ℕ} 0 1 = cc in omega arith)

  verdict : binary_verdict page names pairs op left right ≡ Ok tt
  unfolding binary_answer
  verdict = (not_refused _ (binary_checked page (roots_in pairs) op left right) given).0

  is_checked : binary_checked page (roots_in pairs) op left right ≡ Ok a
  unfolding binary_answer
  is_checked = (not_refused _ (binary_checked page (roots_in pairs) op left right) given).1

  behind : (store_broken page names ≡ false) × (lowest (operand_conditions page (used_of names) left right) ≡ Ok tt)
  behind =
      let broken = store_broken page names || table_broken pairs names in
      let p = passed_parts Undefined (not (is_operator op)) ((Broken when broken) ∷ operand_conditions page (used_of names) left right) verdict in
      let q = passed_parts Broken broken (operand_conditions page (used_of names) left right) p.1 in
      (first (store_broken page names) (table_broken pairs names) q.0, q.1)
    where
      first : (a b : Bool) → (a || b) ≡ false → a ≡ false
      first true b e = absurd (never (sym e))
      first false b e = refl

  form : Formed page
  form = record { names = used_of names; form = (unbroken_both page names behind.0).1 }

  used : (in_use page left.checked ≡ true) × (in_use page right.checked ≡ true)
  used = passed_used page (used_of names) left right behind.1

  module _ (t : ℕ) (known : a.checked ≡ Known t) where
    pub sum_errs : convertible names_max (roots_in pairs) (terms_of (or_empty left.unit)) (terms_of (or_empty right.unit)) ≡ false → 0 < count_of a.errors
    sum_errs apart = checked_errs page form (roots_in pairs) op left right sum l r used.0 used.1 a is_checked t known apart

    pub is_known_lem : IfOk (binary_checked page (roots_in pairs) op left right) (λ x. x.checked ≡ Known t)
    is_known_lem = rw is_checked known

    pub sum_keeps : convertible names_max (roots_in pairs) (terms_of (or_empty left.unit)) (terms_of (or_empty right.unit)) ≡ true → a.unit ≡ left.unit
    sum_keeps together = checked_keeps page form (roots_in pairs) op left right sum l r used.0 used.1 a is_checked t known together
