-- What a binary check answers: where it passes one of five types, never a union; and in any case a number below 256, and a type in use.
-- Assumes nothing.
use mathlib.Core.Path.{◌≡◌, refl, ap, sym, ◌∙◌}
use mathlib.Core.Bool.{Bool, true, false, ◌&&◌, ◌||◌, not, cond}
use mathlib.Core.List.{List}
use Prim.Native.Nat.{ℕ, suc, ◌-◌, ◌%◌, ◌<◌}
use native.Mathlib.Omega.{arith}
use borrow.Author.Tests.{ltb-true, ltb-false, lt-leb, ne_eqb}
use lib.Dec.{eqb, ltb, leb}
use Rattle.pages.specs.Bytes.{within}
use Rattle.pages.specs.Quant.{all_to}
use Rattle.pages.proofs.Quant.{and_true, all_at}
use Rattle.kinds.specs.Kinds.{is_union}
use Rattle.types.specs.Store.{Formed}
use Rattle.types.specs.Types.{types_in, kind_of}
use Rattle.types.proofs.Types.{kind_fixed}
use Rattle.matching.specs.Matching.{in_use}
use Rattle.matching.specs.declared.Checked.{Checked}
use Rattle.matching.specs.declared.Checked.TheVariants.{Known, Unknown, Function}
use Rattle.matching.proofs.Matching.{known_in_use, in_use_known}
use Rattle.operators.specs.Operators.{result_rule, class_of, rule_gives}
use Rattle.operators.specs.declared.Class.TheVariants.{NotBinary, Equality, Logic, Arithmetic, Ordering}
use Rattle.operators.specs.declared.ResultRule.TheVariants.{Nothing, Operands, Truth}
use Rattle.operators.specs.Operators.{int, uint, float, bool, no_family, family_of, is_number, takes, gives, suits, fits}
use Rattle.operators.specs.Outcome.{no_error, outcome, number_of, passes, misfit, plain_binary, class_misfit, not_bools, one_error}
use Rattle.operators.specs.declared.Outcome.{Outcome}
use Rattle.members.specs.Leaves.{leaf_of}
use Rattle.members.proofs.Kept.{unknown_used}
use Rattle.binary.specs.Binary.{family_in, either, binary_known, binary_any, beside_function, check_binary}
use Rattle.binary.proofs.Rule.{never, fits_takes}
use Rattle.binary.proofs.Families.{standing}
use Rattle.binary.proofs.Binary.{known_eq, known_says, known_passes, any_unknown}
use Rattle.operators.specs.declared.Class.{Class}
use Rattle.operators.specs.declared.ResultRule.{ResultRule}
use Rattle.operators.specs.declared.Reason.TheVariants.{BadUnits}

-- ---- families

-- Byte
abbrev byte : ℕ
byte = 11

-- the types that binary operators answer: Int, UInt, Float, Byte, Bool
abbrev pub is_answer : ℕ → Bool
is_answer t = eqb t int || (eqb t uint || (eqb t float || (eqb t byte || eqb t bool)))

-- what holds of no family, and of the families of the kinds below 36, holds of every family
family_all : (p : ℕ → Bool) → p no_family ≡ true → all_to 36 (λ k. p (family_of k)) ≡ true → (k : ℕ) → p (family_of k) ≡ true
unfolding family_of
family_all p z h k = go (ltb k 36) refl
  where
    drop : (a b : Bool) → p (cond (a && false) (k - suc k % 2) (cond (b && false) (k - k % 2) no_family)) ≡ true
    drop true true = z
    drop true false = z
    drop false true = z
    drop false false = z

    go : (b : Bool) → ltb k 36 ≡ b → p (family_of k) ≡ true
    go true e = all_at (λ k. p (family_of k)) 36 k h (ltb-true k 36 e)
    go false e =
        let far = ltb-false k 36 e in
        rw (lt-leb k 14 (omega arith), lt-leb k 35 (omega arith)) (drop (leb 1 k) (leb 32 k))

-- a number's family is one of the five
number_answer : (k : ℕ) → (not (is_number (family_of k)) || is_answer (family_of k)) ≡ true
unfolding family_of all_to
number_answer = family_all (λ f. not (is_number f) || is_answer f) refl refl

family_small : (k : ℕ) → ltb (family_of k) 256 ≡ true
unfolding family_of all_to
family_small = family_all (λ f. ltb f 256) refl refl

five_low : (t : ℕ) → is_answer t ≡ true → t < 12
five_low t h = go (ltb t 12) refl
  where
    go : (b : Bool) → ltb t 12 ≡ b → t < 12
    go true e = ltb-true t 12 e
    go false e =
        let far = ltb-false t 12 e in
        let no : (k : ℕ) → k < 12 → eqb t k ≡ false = λ k l. ne_eqb t k (λ z. omega arith) in
        let none = rw (no int (omega arith), no uint (omega arith), no float (omega arith), no byte (omega arith), no bool (omega arith)) at h in
        absurd (never (sym none))

-- ---- the answer of an operator

module _ (op : ℕ) where
  -- an operator that answers its operands' family takes only numbers
  operands_numbers : (f : ℕ) → result_rule op ≡ Operands → takes op f ≡ is_number f
  unfolding takes result_rule class_of
  operands_numbers f h = go (within 1 4 op) refl
    where
      rest : (b : Bool) → cond b Truth Nothing ≡ Operands → ⊥
      rest true e = let z : ◌≡◌ {A = ℕ} 0 1 = cc in omega arith
      rest false e = let z : ◌≡◌ {A = ℕ} 0 1 = cc in omega arith

      go : (b : Bool) → within 1 4 op ≡ b → takes op f ≡ is_number f
      go true e = rw e refl
      go false e = absurd (rest (within 5 12 op) (rw e at h))

  -- what it answers for a family that it takes
  gives_answer : (k : ℕ) → takes op (family_of k) ≡ true → is_answer (gives op (family_of k)) ≡ true
  unfolding gives
  gives_answer k h = go (result_rule op) refl
    where
      go : (r : ResultRule) → result_rule op ≡ r → is_answer (rule_gives r (family_of k)) ≡ true
      go Nothing e = refl
      go Operands e = rw (sym (operands_numbers (family_of k) e) ∙ h) at (number_answer k)
      go Truth e = refl

module _ (page : List ℕ) (form : Formed page) (op : ℕ) (clash : Bool) (l r : ℕ) (u : l < types_in page) (v : r < types_in page)
    (h : passes (binary_known page op clash l r) ≡ true) where
  fit : fits op clash (standing page l) (standing page r) ≡ true
  fit = sym (known_passes page form op clash l r u v) ∙ h

  -- a check that passes answers what the family that stands for both types comes to
  pub answer_known : binary_known page op clash l r ≡ outcome (Known (gives op (standing page l))) no_error
  answer_known = (known_says page form op clash l r u v).passing fit

  -- Int, UInt, Float, Byte or Bool
  pub answer_five : is_answer (number_of (binary_known page op clash l r).checked) ≡ true
  answer_five =
      rw answer_known (gives_answer op (kind_of page (leaf_of false page l)) (fits_takes op clash (standing page l) (standing page r) fit))

  -- and so never a union
  pub answer_plain : is_union (kind_of page (number_of (binary_known page op clash l r).checked)) ≡ false
  answer_plain =
      let t = number_of (binary_known page op clash l r).checked in
      let low = five_low t answer_five in
      rw (← kind_fixed page t (omega arith), lt-leb 29 t (omega arith)) refl

-- ---- numbers

small : (b : Bool) (o p : Outcome) → number_of o.checked < 256 → number_of p.checked < 256 → number_of (cond b o p).checked < 256
small true o p h k = h
small false o p h k = k

-- the number that an operator's own rule answers
pub plain_small : (op : ℕ) (clash : Bool) (k g : ℕ) → number_of (plain_binary op clash (family_of k) g).checked < 256
unfolding plain_binary misfit gives
plain_small op clash k g =
    small (fits op clash (family_of k) g) _ _ given (misfits (class_of op))
  where
    given : rule_gives (result_rule op) (family_of k) < 256
    given = go (result_rule op)
      where
        go : (r : ResultRule) → rule_gives r (family_of k) < 256
        go Nothing = omega arith
        go Operands = ltb-true (family_of k) 256 (family_small k)
        go Truth = omega arith

    suit : Bool
    suit = suits op (family_of k) g

    misfits : (c : Class) → number_of (class_misfit c suit (rule_gives (result_rule op) (family_of k)) (not_bools (family_of k) g)).checked < 256
    misfits NotBinary = omega arith
    misfits Arithmetic = small suit _ _ given (omega arith)
    misfits Ordering = small suit _ _ given (omega arith)
    misfits Equality = small suit _ _ given (omega arith)
    misfits Logic = omega arith

-- the number that a check of members answers
module _ (page : List ℕ) (form : Formed page) (op : ℕ) (clash : Bool) (l r : ℕ) (u : l < types_in page) (v : r < types_in page)
    (e : either page l r ≡ true) where
  pub any_small : number_of (binary_any page op clash l r).checked < 256
  any_small = go (passes (binary_any page op clash l r)) refl
    where
      is_known_lem : binary_known page op clash l r ≡ binary_any page op clash l r
      is_known_lem = known_eq page op clash form l r u v ∙ rw e refl

      go : (b : Bool) → passes (binary_any page op clash l r) ≡ b → number_of (binary_any page op clash l r).checked < 256
      go true h =
          let five = answer_five page form op clash l r u v (ap passes is_known_lem ∙ h) in
          omega (arith, five_low (number_of (binary_any page op clash l r).checked) (rw is_known_lem at five))
      go false h = rw (any_unknown page form op clash l r u v h) (omega arith)

-- ---- types in use

-- what a check answers is in use
abbrev Used : List ℕ → Outcome → Type 0
Used page o = in_use page o.checked ≡ true

choice : (page : List ℕ) (b : Bool) (o p : Outcome) → (b ≡ true → Used page o) → Used page p → Used page (cond b o p)
choice page true o p h k = h refl
choice page false o p h k = k

plain_used : (page : List ℕ) (op : ℕ) (clash : Bool) (k g : ℕ) → Used page (plain_binary op clash (family_of k) g)
unfolding plain_binary misfit suits
plain_used page op clash k g =
    choice page (fits op clash (family_of k) g) _ _ (λ e. given (fits_takes op clash (family_of k) g e))
    (misfits (class_of op))
  where
    given : takes op (family_of k) ≡ true → in_use page (Known (gives op (family_of k))) ≡ true
    given h = in_use_known page (gives op (family_of k)) (omega (arith, five_low (gives op (family_of k)) (gives_answer op k h)))

    -- where they suit, what it gives; else o
    suited : (o : Outcome) → Used page o → Used page (cond (suits op (family_of k) g) (outcome (Known (gives op (family_of k))) (one_error BadUnits)) o)
    suited o = choice page (suits op (family_of k) g) _ o (λ e. given (and_true (eqb (family_of k) g) (takes op (family_of k)) e).1)

    misfits : (c : Class) → Used page (class_misfit c (suits op (family_of k) g) (gives op (family_of k)) (not_bools (family_of k) g))
    misfits NotBinary = unknown_used page
    misfits Arithmetic = suited _ (unknown_used page)
    misfits Ordering = suited _ (unknown_used page)
    misfits Equality = suited _ (in_use_known page bool (omega arith))
    misfits Logic = in_use_known page bool (omega arith)

module _ (page : List ℕ) (form : Formed page) (op : ℕ) (clash : Bool) where
  known_used : (l r : ℕ) → l < types_in page → r < types_in page → Used page (binary_known page op clash l r)
  known_used l r u v = go (passes (binary_known page op clash l r)) refl
    where
      go : (b : Bool) → passes (binary_known page op clash l r) ≡ b → Used page (binary_known page op clash l r)
      go true h =
          let is = answer_known page form op clash l r u v h in
          let five = rw is at (answer_five page form op clash l r u v h) in
          rw is (in_use_known page (gives op (standing page l)) (omega (arith, five_low (gives op (standing page l)) five)))
      go false h =
          let is = known_eq page op clash form l r u v in
          rw is
          (choice page (either page l r) (binary_any page op clash l r) (plain_binary op clash (family_in page l) (family_in page r))
          (λ e. rw (any_unknown page form op clash l r u v (sym (ap passes (is ∙ rw e refl)) ∙ h)) (unknown_used page))
          (plain_used page op clash (kind_of page l) (family_in page r)))

  pub binary_used : (x y : Checked) → in_use page x ≡ true → in_use page y ≡ true → Used page (check_binary page op clash x y)
  unfolding check_binary beside_function family_of
  binary_used Unknown y u v = unknown_used page
  binary_used (Known l) Unknown u v = unknown_used page
  binary_used (Known l) (Known r) u v = known_used l r (known_in_use page l u) (known_in_use page r v)
  binary_used (Known l) (Function g) u v =
      choice page (is_union (kind_of page l)) _ _ (λ e. unknown_used page) (plain_used page op clash (kind_of page l) no_family)
  binary_used (Function f) Unknown u v = unknown_used page
  binary_used (Function f) (Known r) u v =
      choice page (is_union (kind_of page r)) _ _ (λ e. unknown_used page) (plain_used page op clash no_family (family_in page r))
  binary_used (Function f) (Function g) u v = plain_used page op clash no_family no_family
