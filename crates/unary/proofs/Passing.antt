-- Whether a type's check has no error: its equations, that the leaf of a type decides it (`passes_leaf`), and that it stays so while
-- the store grows (`passes_grown`). Assumes nothing.
use mathlib.Core.Path.{◌≡◌, refl, sym, ◌∙◌, ap}
use mathlib.Core.Bool.{Bool, true, false, ◌&&◌, cond}
use mathlib.Core.List.{List}
use Prim.Native.Nat.{ℕ, zero, suc, ◌<◌}
use native.Mathlib.Nat.{not-suc-le-zero}
use native.Mathlib.Omega.{arith}
use lib.Dec.{eqb, ltb}
use borrow.Author.Tests.{eqb-true, eq-eqb, ne_eqb, ltb-true, lt-ltb}
use Rattle.pages.specs.Quant.{all_to}
use Rattle.pages.proofs.Quant.{and_true, all_at, all_cong, all_each, all_failed}
use Rattle.kinds.specs.Kinds.{null, is_union}
use Rattle.types.specs.Store.{Formed}
use Rattle.types.specs.Types.{types_in, kind_of}
use Rattle.types.specs.Recur.{below}
use Rattle.types.specs.Making.{Grows}
use Rattle.types.proofs.Recur.{below_lt, cov_eq}
use Rattle.types.proofs.Grown.{kind_grown}
use Rattle.matching.specs.declared.Checked.TheVariants.{Known, Unknown}
use Rattle.operators.specs.Operators.{family_of, taker_of}
use Rattle.operators.specs.Outcome.{no_error, one_error, outcome, passes, unary_reason, plain_unary}
use Rattle.operators.specs.declared.Outcome.{Outcome}
use Rattle.members.specs.Members.{size_of, member}
use Rattle.members.specs.Leaves.{key_of, key_in, agreed, leaf_of}
use Rattle.members.proofs.Members.{member_lower, members_grown}
use Rattle.members.proofs.Leaves.{leaf_union, leaf_itself}
use Rattle.unary.specs.Unary.{pass_rule, unary_passes}

-- does member i of t pass
abbrev pub member_passes : List ℕ → ℕ → ℕ → ℕ → Bool
member_passes page op t i = unary_passes page op (member page t i)

-- ---- an operator's own rule

plain_passes : (op k : ℕ) → passes (plain_unary op k) ≡ eqb (taker_of k) op
unfolding passes plain_unary
plain_passes op k = go (eqb (taker_of k) op)
  where
    go : (b : Bool) → passes (cond b (outcome (Known (family_of k)) no_error) (outcome Unknown (one_error (unary_reason op k)))) ≡ b
    go true = refl
    go false = refl

-- ---- equations

module _ (page : List ℕ) (op : ℕ) where
  -- the answers for types below t
  under : ℕ → ℕ → Bool
  under t = below false t (unary_passes page op)

  passes_eq : (t : ℕ) → unary_passes page op t ≡ pass_rule page op (under t) t
  unfolding unary_passes under
  passes_eq t = cov_eq false (λ u rule. pass_rule page op rule u) t

  under_is : (t x : ℕ) → x < t → under t x ≡ unary_passes page op x
  unfolding under
  under_is t x l = below_lt false t (unary_passes page op) x l

  module _ (t : ℕ) where
    pub passes_plain : is_union (kind_of page t) ≡ false → unary_passes page op t ≡ eqb (taker_of (kind_of page t)) op
    unfolding pass_rule
    passes_plain h = passes_eq t ∙ rw h refl

    pub passes_union : Formed page → t < types_in page → is_union (kind_of page t) ≡ true
        → unary_passes page op t ≡ (ltb 0 (size_of page t) && all_to (size_of page t) (member_passes page op t))
    unfolding pass_rule
    passes_union f u h =
        let each : (i : ℕ) → i < size_of page t → under t (member page t i) ≡ member_passes page op t i =
        λ i l. under_is t (member page t i) (member_lower page f t u h i l) in
        passes_eq t ∙ rw (h, all_cong (λ i. under t (member page t i)) (member_passes page op t) (size_of page t) each) refl

-- ---- the leaf that stands for a type

-- all keys are op exactly if all are the first one, which is op; no key is op where there is none
agreed_key : (key : ℕ → ℕ) (n : ℕ) (x : ℕ → ℕ) (op : ℕ) → key null ≡ 0 → 0 < op
    → (ltb 0 n && all_to n (λ i. eqb (key (x i)) op)) ≡ eqb (key (agreed key n x)) op
unfolding agreed
agreed_key key zero x op z l = rw (z, ne_eqb 0 op (λ e. omega arith)) refl
agreed_key key (suc n) x op z l = rw (lt-ltb 0 (suc n) (omega arith)) (go (all_to (suc n) (λ i. eqb (key (x i)) (key (x 0)))) refl)
  where
    same : all_to (suc n) (λ i. eqb (key (x i)) (key (x 0))) ≡ true → (i : ℕ) → i < suc n → key (x i) ≡ key (x 0)
    same h i k = eqb-true (key (x i)) (key (x 0)) (all_at (λ i. eqb (key (x i)) (key (x 0))) (suc n) i h k)

    first : (b : Bool) → eqb (key (x 0)) op ≡ b → ((i : ℕ) → i < suc n → key (x i) ≡ key (x 0))
        → all_to (suc n) (λ i. eqb (key (x i)) op) ≡ b
    first true e h = all_each (suc n) (λ i. eqb (key (x i)) op) (λ i k. rw (h i k) e)
    first false e h = all_failed (λ i. eqb (key (x i)) op) (suc n) 0 (omega arith) e

    differ : (b : Bool) → all_to (suc n) (λ i. eqb (key (x i)) op) ≡ b → all_to (suc n) (λ i. eqb (key (x i)) (key (x 0))) ≡ false → b ≡ false
    differ false e h = refl
    differ true e h =
        let is : (i : ℕ) → i < suc n → key (x i) ≡ op = λ i k. eqb-true (key (x i)) op (all_at (λ i. eqb (key (x i)) op) (suc n) i e k) in
        let same_as : (i : ℕ) → i < suc n → eqb (key (x i)) (key (x 0)) ≡ true =
        λ i k. eq-eqb (key (x i)) (key (x 0)) (is i k ∙ sym (is 0 (omega arith))) in
        sym (all_each (suc n) (λ i. eqb (key (x i)) (key (x 0))) same_as) ∙ h

    go : (b : Bool) → all_to (suc n) (λ i. eqb (key (x i)) (key (x 0))) ≡ b
        → all_to (suc n) (λ i. eqb (key (x i)) op) ≡ eqb (key (cond b (x 0) null)) op
    go true e = first (eqb (key (x 0)) op) refl (same e)
    go false e = differ (all_to (suc n) (λ i. eqb (key (x i)) op)) refl e ∙ rw (z, ne_eqb 0 op (λ k. omega arith)) refl

-- no operator takes Null
null_key : (page : List ℕ) → taker_of (kind_of page null) ≡ 0
unfolding kind_of taker_of family_of
null_key page = refl

module _ (page : List ℕ) (f : Formed page) (op : ℕ) (o : 0 < op) where
  Decided : ℕ → Type 0
  Decided t = unary_passes page op t ≡ eqb (taker_of (kind_of page (leaf_of true page t))) op

  leaf_step : (t : ℕ) → t < types_in page → ((x : ℕ) → x < t → Decided x) → (b : Bool) → is_union (kind_of page t) ≡ b → Decided t
  unfolding Decided key_of
  leaf_step t u ih false h = rw (leaf_itself true page f t u h) (passes_plain page op t h)
  leaf_step t u ih true h =
      passes_union page op t f u h
      ∙ ap (λ (b : Bool). ltb 0 (size_of page t) && b)
      (all_cong (member_passes page op t) (λ i. eqb (key_in true page (leaf i)) op) (size_of page t)
      (λ i k. ih (member page t i) (member_lower page f t u h i k)))
      ∙ agreed_key (key_in true page) (size_of page t) leaf op (null_key page) o
      ∙ ap (λ (x : ℕ). eqb (key_in true page x) op) (sym (leaf_union true page f t u h))
    where
      leaf : ℕ → ℕ
      leaf i = leaf_of true page (member page t i)

  leaf_below : (m t : ℕ) → t < m → t < types_in page → Decided t
  leaf_below zero t l u = absurd (not-suc-le-zero l)
  leaf_below (suc m) t l u = leaf_step t u (λ x k. leaf_below m x (omega arith) (omega arith)) (is_union (kind_of page t)) refl

  pub passes_leaf : (t : ℕ) → t < types_in page → unary_passes page op t ≡ eqb (taker_of (kind_of page (leaf_of true page t))) op
  unfolding Decided
  passes_leaf t u = leaf_below (suc t) t (omega arith) u

  -- by that leaf, x
  pub passes_by : (t : ℕ) → t < types_in page → (x : ℕ) → x ≡ leaf_of true page t → (k : ℕ) → k ≡ kind_of page x
      → (q : Outcome) → q ≡ plain_unary op k → passes q ≡ unary_passes page op t
  passes_by t u x is k e q d = rw (d, e, is) (plain_passes op (kind_of page (leaf_of true page t)) ∙ sym (passes_leaf t u))

-- ---- a type that passes

module _ (page : List ℕ) (op t : ℕ) (p : unary_passes page op t ≡ true) where
  pub passing_taken : is_union (kind_of page t) ≡ false → taker_of (kind_of page t) ≡ op
  passing_taken h = eqb-true (taker_of (kind_of page t)) op (sym (passes_plain page op t h) ∙ p)

  module _ (f : Formed page) (u : t < types_in page) (h : is_union (kind_of page t) ≡ true) where
    both : (ltb 0 (size_of page t) ≡ true) × (all_to (size_of page t) (member_passes page op t) ≡ true)
    both = and_true (ltb 0 (size_of page t)) (all_to (size_of page t) (member_passes page op t)) (sym (passes_union page op t f u h) ∙ p)

    pub passing_some : 0 < size_of page t
    passing_some = ltb-true 0 (size_of page t) both.0

    pub passing_member : (i : ℕ) → i < size_of page t → unary_passes page op (member page t i) ≡ true
    passing_member i l = all_at (member_passes page op t) (size_of page t) i both.1 l

-- ---- while the store grows

module _ (p q : List ℕ) (f : Formed p) (fq : Formed q) (g : Grows p q) (op : ℕ) where
  grown_step : (t : ℕ) → t < types_in p → ((x : ℕ) → x < t → unary_passes q op x ≡ unary_passes p op x)
      → kind_of q t ≡ kind_of p t → (b : Bool) → is_union (kind_of p t) ≡ b → unary_passes q op t ≡ unary_passes p op t
  grown_step t u ih k false h = passes_plain q op t (rw k h) ∙ rw k refl ∙ sym (passes_plain p op t h)
  grown_step t u ih k true h =
      let m = members_grown p q f g t u in
      passes_union q op t fq (omega (arith, g.more)) (rw k h)
      ∙ ap (λ (b : Bool). ltb 0 (size_of q t) && b)
      (all_cong (member_passes q op t) (member_passes p op t) (size_of q t)
      (λ i l. rw m (ih (member p t i) (member_lower p f t u h i (rw m at l)))))
      ∙ rw m (sym (passes_union p op t f u h))

  grown_below : (m t : ℕ) → t < m → t < types_in p → unary_passes q op t ≡ unary_passes p op t
  grown_below zero t l u = absurd (not-suc-le-zero l)
  grown_below (suc m) t l u =
      grown_step t u (λ x k. grown_below m x (omega arith) (omega arith)) (kind_grown p q f g t u) (is_union (kind_of p t)) refl

  pub passes_grown : (t : ℕ) → t < types_in p → unary_passes q op t ≡ unary_passes p op t
  passes_grown t u = grown_below (suc t) t (omega arith) u
