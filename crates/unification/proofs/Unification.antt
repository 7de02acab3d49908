-- `unify`: its equation, how its bindings grow, and that a pair answered yes is answered yes again. Assumes nothing.
use Rattle.std.proofs.Common.{Result, Ok, Err, arith}
use Rattle.refusals.specs.declared.Refusal.{Refusal}
use mathlib.Core.Path.{◌≡◌, refl, sym, ◌∙◌, ap}
use mathlib.Core.Bool.{Bool, true, false, ◌&&◌, cond, false≢true}
use mathlib.Core.List.{List}
use mathlib.Core.Logic.{◌⊎◌, inl, inr, ⊎_elim}
use Prim.Native.Nat.{ℕ, zero, suc, ◌<◌, ◌≤◌}
use native.Mathlib.Nat.{not-suc-le-zero}
use mathlib.Mathlib.Data.Bool.Basic.{or-eq-false-eq-eq-false-and-eq-false}
use lib.Dec.{ltb, eqb}
use borrow.Author.Tests.{lt-ltb, le-ltb, ltb-true, eqb-true}
use Rattle.pages.specs.Bytes.{within}
use Rattle.pages.proofs.Quant.{and_true}
use Rattle.refusals.specs.declared.Refusal.TheVariants.{Full}
use Rattle.kinds.specs.Kinds.{generic, is_array, is_set, is_result, is_map, is_tuple}
use Rattle.types.specs.Store.{Formed}
use Rattle.types.specs.Types.{types_in, kind_of, arity, child_of, name_of}
use Rattle.types.specs.Recur.{below}
use Rattle.types.proofs.Recur.{below_lt, cov_eq}
use Rattle.types.proofs.Types.{child_lower}
use Rattle.matching.specs.Matching.{both, is_kind, known_matches}
use Rattle.marks.specs.Marks.{Noted}
use Rattle.matching.proofs.Matching.{known_same}
use Rattle.matching.proofs.Parts.{one_child, two_children}
use Rattle.bindings.specs.Bindings.{bindings_max, is_bound, bound_to, with_binding}
use Rattle.bindings.specs.declared.Bindings.{Bindings}
use Rattle.unification.specs.declared.Unified.{Unified}
use Rattle.unification.specs.Unification.{unified, said, and_then, pairs_to, all_pairs, generic_unify, is_adopted, is_alike, unify_rule, unify, Extends, Settled, SettledAt, Given}
use Rattle.unification.proofs.Growth.{settled_on, extends_trans, extends_with, given_with, with_bound, Grown, grown_refl, grown_trans}

-- an answer for every expected and actual type
abbrev Rule : Type 0
Rule = ℕ → ℕ → Bindings → Unified

-- ---- the rule, case by case

-- what the rule answers for a pair, whatever it is given for lower types
abbrev Answers : List ℕ → ℕ → ℕ → (Rule → Bindings → Unified) → Type 0
Answers page e a answer = (rule : Rule) (b : Bindings) → unify_rule page rule e a b ≡ answer rule b

module _ (page : List ℕ) (e a : ℕ) where
  rule_generic : is_kind generic page e ≡ true → Answers page e a (λ rule. generic_unify page (name_of page e) a)
  unfolding unify_rule
  rule_generic g rule b = rw g

  module _ (g : is_kind generic page e ≡ false) where
    rule_adopted : (both is_array page e a && is_adopted page e a) ≡ true → Answers page e a (λ rule. said true)
    unfolding unify_rule
    rule_adopted h rule b = let z = and_true (both is_array page e a) (is_adopted page e a) h in rw (g, z.0, z.1)

    rule_rest : is_alike (kind_of page e) (kind_of page a) ≡ false → Answers page e a (λ rule. said (known_matches page e a))
    unfolding unify_rule is_alike
    rule_rest h rule b =
        let x = (or-eq-false-eq-eq-false-and-eq-false (both is_array page e a) _).0 h in
        let y = (or-eq-false-eq-eq-false-and-eq-false (both is_set page e a) _).0 x.1 in
        let z = (or-eq-false-eq-eq-false-and-eq-false (both is_result page e a) _).0 y.1 in
        let w = (or-eq-false-eq-eq-false-and-eq-false (both is_map page e a) (both is_tuple page e a)).0 z.1 in
        rw (g, x.0, y.0, z.0, w.0, w.1)

    module _ (f : Formed page) (u : e < types_in page) (v : a < types_in page) where
      rule_alike : (both is_array page e a && is_adopted page e a) ≡ false → is_alike (kind_of page e) (kind_of page a) ≡ true
          → Answers page e a (λ rule. all_pairs rule page e a)
      unfolding unify_rule is_alike all_pairs pairs_to and_then
      rule_alike n h rule b =
          go (both is_array page e a) (both is_set page e a) (both is_result page e a) (both is_map page e a) (both is_tuple page e a) refl refl refl refl refl
        where
          one : (x y : ℕ) → 19 ≤ x → y ≤ 24 → both (within x y) page e a ≡ true → rule (child_of page e 0) (child_of page a 0) b ≡ all_pairs rule page e a b
          one x y l m k =
              let z = and_true (within x y (kind_of page e)) (within x y (kind_of page a)) k in
              rw (one_child page f e u x y l m z.0, one_child page f a v x y l m z.1) refl

          go : (w x y z t : Bool) → both is_array page e a ≡ w → both is_set page e a ≡ x → both is_result page e a ≡ y → both is_map page e a ≡ z
              → both is_tuple page e a ≡ t → unify_rule page rule e a b ≡ all_pairs rule page e a b
          go true x y z t p q r s o = let k : is_adopted page e a ≡ false = rw p at n in rw (g, p, k) (one 19 20 (omega arith) (omega arith) p)
          go false true y z t p q r s o = rw (g, p, q) (one 21 22 (omega arith) (omega arith) q)
          go false false true z t p q r s o = rw (g, p, q, r) (one 23 24 (omega arith) (omega arith) r)
          go false false false true t p q r s o =
              let z = and_true (is_map (kind_of page e)) (is_map (kind_of page a)) s in
              rw (g, p, q, r, s, two_children page f e u z.0, two_children page f a v z.1) refl
          go false false false false true p q r s o = rw (g, p, q, r, s, o) refl
          go false false false false false p q r s o = absurd (false≢true (rw (p, q, r, s, o) at h))

-- ---- the equation

-- rules that agree on the children of e agree on pairs
pairs_cong : (p q : Rule) (page : List ℕ) (e a k : ℕ) (b : Bindings) → ((i : ℕ) → i < k → p (child_of page e i) ≡ q (child_of page e i))
    → pairs_to p page e a k b ≡ pairs_to q page e a k b
unfolding pairs_to
pairs_cong p q page e a zero b h = refl
pairs_cong p q page e a (suc k) b h = rw (pairs_cong p q page e a k b (λ i l. h i (omega arith)), h k (omega arith))

module _ (page : List ℕ) (f : Formed page) (e a : ℕ) (u : e < types_in page) (v : a < types_in page) where
  -- the case of a pair: a generic name, a plain answer, or pairs of children
  abbrev Cases : Type 0
  Cases = Answers page e a (λ rule. generic_unify page (name_of page e) a)
      ⊎ (((answer : Bool) × Answers page e a (λ rule. said answer)) ⊎ Answers page e a (λ rule. all_pairs rule page e a))

  cases : Cases
  cases = go (is_kind generic page e) (both is_array page e a && is_adopted page e a) (is_alike (kind_of page e) (kind_of page a)) refl refl refl
    where
      go : (x y z : Bool) → is_kind generic page e ≡ x → (both is_array page e a && is_adopted page e a) ≡ y → is_alike (kind_of page e) (kind_of page a) ≡ z → Cases
      go true y z p q r = inl (rule_generic page e a p)
      go false true z p q r = inr (inl (true, rule_adopted page e a p q))
      go false false true p q r = inr (inr (rule_alike page e a p f u v q r))
      go false false false p q r = inr (inl (known_matches page e a, rule_rest page e a p r))

  pub unify_eq : (b : Bindings) → unify page e a b ≡ unify_rule page (unify page) e a b
  unfolding unify all_pairs
  unify_eq b =
      ap (λ (g : ℕ → Bindings → Unified). g a b) (cov_eq no (λ x rule. unify_rule page rule x) e)
      ∙ ⊎_elim (λ k. k lower b ∙ sym (k (unify page) b))
      (⊎_elim (λ k. k.1 lower b ∙ sym (k.1 (unify page) b)) (λ k. k lower b ∙ pairs ∙ sym (k (unify page) b))) cases
    where
      no : ℕ → Bindings → Unified
      no x c = unified (Ok false) c

      lower : Rule
      lower = below no e (unify page)

      pairs : all_pairs lower page e a b ≡ all_pairs (unify page) page e a b
      pairs =
          ap (λ (r : Unified). cond (eqb (arity page e) (arity page a)) r (unified (Ok false) b))
          (pairs_cong lower (unify page) page e a (arity page e) b (λ i l. below_lt no e (unify page) (child_of page e i) (child_lower page f e u i l)))

  module _ (b : Bindings) where
    pub generic_eq : is_kind generic page e ≡ true → unify page e a b ≡ generic_unify page (name_of page e) a b
    generic_eq g = unify_eq b ∙ rule_generic page e a g (unify page) b

    module _ (g : is_kind generic page e ≡ false) where
      pub adopted_eq : (both is_array page e a && is_adopted page e a) ≡ true → unify page e a b ≡ unified (Ok true) b
      adopted_eq h = unify_eq b ∙ rule_adopted page e a g h (unify page) b

      pub rest_eq : is_alike (kind_of page e) (kind_of page a) ≡ false → unify page e a b ≡ said (known_matches page e a) b
      rest_eq h = unify_eq b ∙ rule_rest page e a g h (unify page) b

      pub alike_eq : (both is_array page e a && is_adopted page e a) ≡ false → is_alike (kind_of page e) (kind_of page a) ≡ true
          → unify page e a b ≡ all_pairs (unify page) page e a b
      alike_eq n h = unify_eq b ∙ rule_alike page e a g f u v n h (unify page) b

-- what holds of a number if it holds of every lower one holds of each
strong : (P : ℕ → Type 0) → ((n : ℕ) → ((m : ℕ) → m < n → P m) → P n) → (n : ℕ) → P n
strong P h n = h n (lower n)
  where
    lower : (k m : ℕ) → m < k → P m
    lower zero m l = absurd (not-suc-le-zero l)
    lower (suc k) m l = h m (λ j i. lower k j (omega arith))

-- ---- how bindings grow

pub said_grown : (b : Bindings) (t : ℕ) → Given b t → (answer : Bool) → Grown b t (said answer b).bindings
said_grown b t g true = grown_refl b t g
said_grown b t g false = grown_refl b t g

generic_grown : (page : List ℕ) (name a t : ℕ) → a < t → (b : Bindings) → Given b t → Grown b t (generic_unify page name a b).bindings
unfolding generic_unify
generic_grown page name a t u b g = go (is_bound b name) (ltb b.count bindings_max) refl
  where
    go : (x y : Bool) → ltb b.count bindings_max ≡ y
        → Grown b t (cond x (said (known_matches page (bound_to b name) a) b) (cond y (unified (Ok true) (with_binding b name a)) (unified (Err Full) b))).bindings
    go true y p = said_grown b t g (known_matches page (bound_to b name) a)
    go false true p = record { given = given_with b t g (ltb-true b.count bindings_max p) name a u; extends = extends_with b name a }
    go false false p = grown_refl b t g

then_grown : (b c : Bindings) (t : ℕ) (r : Result Bool Refusal) (next : Bindings → Unified) → Grown b t c → Grown c t (next c).bindings
    → Grown b t (and_then r c next).bindings
unfolding and_then
then_grown b c t (Ok true) next p q = grown_trans b c (next c).bindings t p q
then_grown b c t (Ok false) next p q = p
then_grown b c t (Err r) next p q = p

module _ (page : List ℕ) (rule : Rule) (e a t : ℕ) where
  -- the rule lets bindings grow on pair i of children
  abbrev pub Grows : ℕ → Type 0
  Grows i = (b : Bindings) → Given b t → Grown b t (rule (child_of page e i) (child_of page a i) b).bindings

  pairs_grown : (k : ℕ) → ((i : ℕ) → i < k → Grows i) → (b : Bindings) → Given b t → Grown b t (pairs_to rule page e a k b).bindings
  unfolding pairs_to
  pairs_grown zero h b g = grown_refl b t g
  pairs_grown (suc k) h b g =
      let r = pairs_to rule page e a k b in
      let p = pairs_grown k (λ i l. h i (omega arith)) b g in
      then_grown b r.bindings t r.answer (rule (child_of page e k) (child_of page a k)) p (h k (omega arith) r.bindings p.given)

  pub all_grown : ((i : ℕ) → i < arity page e → i < arity page a → Grows i) → (b : Bindings) → Given b t → Grown b t (all_pairs rule page e a b).bindings
  unfolding all_pairs
  all_grown h b g = go (eqb (arity page e) (arity page a)) refl
    where
      go : (x : Bool) → eqb (arity page e) (arity page a) ≡ x → Grown b t (cond x (pairs_to rule page e a (arity page e) b) (unified (Ok false) b)).bindings
      go true p = let q = eqb-true (arity page e) (arity page a) p in pairs_grown (arity page e) (λ i l. h i l (omega arith)) b g
      go false p = grown_refl b t g

module _ (page : List ℕ) (f : Formed page) where
  abbrev AllGrown : ℕ → Type 0
  AllGrown e = (a : ℕ) → e < types_in page → a < types_in page → (b : Bindings) → Given b (types_in page) → Grown b (types_in page) (unify page e a b).bindings

  pub unify_grown : (e : ℕ) → AllGrown e
  unify_grown = strong AllGrown step
    where
      step : (e : ℕ) → ((x : ℕ) → x < e → AllGrown x) → AllGrown e
      step e ih a u v b g =
          ⊎_elim (λ k. rw (unify_eq page f e a u v b, k (unify page) b) (generic_grown page (name_of page e) a (types_in page) v b g))
          (⊎_elim (λ k. rw (unify_eq page f e a u v b, k.1 (unify page) b) (said_grown b (types_in page) g k.0))
          (λ k. rw (unify_eq page f e a u v b, k (unify page) b) (all_grown page (unify page) e a (types_in page) children b g)))
          (cases page f e a u v)
        where
          children : (i : ℕ) → i < arity page e → i < arity page a → Grows page (unify page) e a (types_in page) i
          children i p q =
              let x = child_lower page f e u i p in
              let y = child_lower page f a v i q in
              ih (child_of page e i) x (child_of page a i) (omega arith) (omega arith)

-- ---- a pair answered yes is answered yes again

abbrev pub is_yes : Result Bool Refusal → Bool
is_yes (Ok true) = true
is_yes (Ok false) = false
is_yes (Err r) = false

said_yes : (answer : Bool) (b : Bindings) → (said answer b).answer ≡ Ok true → answer ≡ true
said_yes true b h = refl
said_yes false b h = absurd (false≢true (ap is_yes h))

then_yes : (r : Result Bool Refusal) (c : Bindings) (next : Bindings → Unified) → (and_then r c next).answer ≡ Ok true → (r ≡ Ok true) × (and_then r c next ≡ next c)
unfolding and_then
then_yes (Ok true) c next h = (refl, refl)
then_yes (Ok false) c next h = absurd (false≢true (ap is_yes h))
then_yes (Err r) c next h = absurd (false≢true (ap is_yes h))

module _ (page : List ℕ) (f : Formed page) (name a : ℕ) (u : a < types_in page) (b : Bindings) (g : Given b (types_in page)) where
  generic_again : (d : Bindings) → (generic_unify page name a b).answer ≡ Ok true → Extends (generic_unify page name a b).bindings d
      → generic_unify page name a d ≡ unified (Ok true) d
  unfolding generic_unify
  generic_again d h k = go (is_bound b name) (ltb b.count bindings_max) (known_matches page (bound_to b name) a) refl refl refl h k
    where
      go : (x y v : Bool) → is_bound b name ≡ x → ltb b.count bindings_max ≡ y → known_matches page (bound_to b name) a ≡ v
          → (cond x (said v b) (cond y (unified (Ok true) (with_binding b name a)) (unified (Err Full) b))).answer ≡ Ok true
          → Extends (cond x (said v b) (cond y (unified (Ok true) (with_binding b name a)) (unified (Err Full) b))).bindings d
          → generic_unify page name a d ≡ unified (Ok true) d
      go true y true p q r h k = let z = k.stays name p in rw (z.0, z.1, r) refl
      go true y false p q r h k = absurd (false≢true (ap is_yes h))
      go false true v p q r h k =
          let w = with_bound b (types_in page) g (ltb-true b.count bindings_max q) name a p in
          let z = k.stays name w.0 in
          rw (z.0, z.1, w.1, known_same page f a u) refl
      go false false v p q r h k = absurd (false≢true (ap is_yes h))

module _ (page : List ℕ) (rule : Rule) (e a t : ℕ) where
  -- pair i of children, answered yes, is answered yes again
  abbrev Repeats : ℕ → Type 0
  Repeats i = (b d : Bindings) → Given b t → (rule (child_of page e i) (child_of page a i) b).answer ≡ Ok true
      → Extends (rule (child_of page e i) (child_of page a i) b).bindings d → rule (child_of page e i) (child_of page a i) d ≡ unified (Ok true) d

  pairs_again : (k : ℕ) → ((i : ℕ) → i < k → Grows page rule e a t i × Repeats i) → (b d : Bindings) → Given b t → (pairs_to rule page e a k b).answer ≡ Ok true
      → Extends (pairs_to rule page e a k b).bindings d → pairs_to rule page e a k d ≡ unified (Ok true) d
  unfolding pairs_to and_then
  pairs_again zero h b d g y x = refl
  pairs_again (suc k) h b d g y x =
      let r = pairs_to rule page e a k b in
      let next = rule (child_of page e k) (child_of page a k) in
      let z = then_yes r.answer r.bindings next y in
      let w = pairs_grown page rule e a t k (λ i l. (h i (omega arith)).0) b g in
      let v = h k (omega arith) in
      let x₁ : Extends (next r.bindings).bindings d = rw z.1 at x in
      let x₂ = extends_trans r.bindings (next r.bindings).bindings d (v.0 r.bindings w.given).extends x₁ in
      rw (pairs_again k (λ i l. h i (omega arith)) b d g z.0 x₂) (v.1 r.bindings d w.given (sym (ap (λ (s : Unified). s.answer) z.1) ∙ y) x₁)

  all_again : ((i : ℕ) → i < arity page e → i < arity page a → Grows page rule e a t i × Repeats i) → (b d : Bindings) → Given b t
      → (all_pairs rule page e a b).answer ≡ Ok true → Extends (all_pairs rule page e a b).bindings d → all_pairs rule page e a d ≡ unified (Ok true) d
  unfolding all_pairs
  all_again h b d g y x = go (eqb (arity page e) (arity page a)) refl y x
    where
      go : (s : Bool) → eqb (arity page e) (arity page a) ≡ s → (cond s (pairs_to rule page e a (arity page e) b) (unified (Ok false) b)).answer ≡ Ok true
          → Extends (cond s (pairs_to rule page e a (arity page e) b) (unified (Ok false) b)).bindings d
          → cond s (pairs_to rule page e a (arity page e) d) (unified (Ok false) d) ≡ unified (Ok true) d
      go true p y x = let q = eqb-true (arity page e) (arity page a) p in pairs_again (arity page e) (λ i l. h i l (omega arith)) b d g y x
      go false p y x = absurd (false≢true (ap is_yes y))

module _ (page : List ℕ) (f : Formed page) where
  abbrev Again : ℕ → Type 0
  Again e = (a : ℕ) → e < types_in page → a < types_in page → (b d : Bindings) → Given b (types_in page) → (unify page e a b).answer ≡ Ok true
      → Extends (unify page e a b).bindings d → unify page e a d ≡ unified (Ok true) d

  pub unify_again : (e : ℕ) → Again e
  unify_again = strong Again step
    where
      step : (e : ℕ) → ((x : ℕ) → x < e → Again x) → Again e
      step e ih a u v b d g y x =
          go (cases page f e a u v)
        where
          -- it is enough to see it of what the answer is equal to
          same : (r : Bindings → Unified) → ((c : Bindings) → unify_rule page (unify page) e a c ≡ r c)
              → ((r b).answer ≡ Ok true → Extends (r b).bindings d → r d ≡ unified (Ok true) d) → unify page e a d ≡ unified (Ok true) d
          same r k h =
              let z : (c : Bindings) → unify page e a c ≡ r c = λ c. unify_eq page f e a u v c ∙ k c in
              z d ∙ h (sym (ap (λ (s : Unified). s.answer) (z b)) ∙ y) (rw (z b) at x)

          children : (i : ℕ) → i < arity page e → i < arity page a → Grows page (unify page) e a (types_in page) i × Repeats page (unify page) e a (types_in page) i
          children i p q =
              let m = child_lower page f e u i p in
              let n = child_lower page f a v i q in (
                unify_grown page f (child_of page e i) (child_of page a i) (omega arith) (omega arith),
                ih (child_of page e i) m (child_of page a i) (omega arith) (omega arith),
              )

          go : Cases page f e a u v → unify page e a d ≡ unified (Ok true) d
          go (inl k) = same (generic_unify page (name_of page e) a) (k (unify page)) (generic_again page f (name_of page e) a v b g d)
          go (inr (inl (answer, k))) = same (said answer) (k (unify page)) (λ h z. rw (said_yes answer b h) refl)
          go (inr (inr k)) = same (all_pairs (unify page) page e a) (k (unify page)) (all_again page (unify page) e a (types_in page) children b d g)

-- arrays have an element type
pub one_element : (page : List ℕ) → Formed page → (e a : ℕ) → e < types_in page → a < types_in page → both is_array page e a ≡ true
    → (0 < arity page e) × (0 < arity page a)
one_element page f e a u v h =
    let z = and_true (is_array (kind_of page e)) (is_array (kind_of page a)) h in (
      omega (arith, one_child page f e u 19 20 (omega arith) (omega arith) z.0),
      omega (arith, one_child page f a v 19 20 (omega arith) (omega arith) z.1),
    )

-- ---- an expected generic name: one law for each return

module _ (page : List ℕ) (name a : ℕ) (b : Bindings) where
  pub generic_bound : (bound : ℕ) (answer : Bool) → is_bound b name ≡ true → bound ≡ bound_to b name → answer ≡ known_matches page bound a
      → said answer b ≡ generic_unify page name a b
  unfolding generic_unify
  generic_bound bound answer h e k = rw (h, ← e, ← k) refl

  pub generic_new : is_bound b name ≡ false → b.count < bindings_max → unified (Ok true) (with_binding b name a) ≡ generic_unify page name a b
  unfolding generic_unify
  generic_new h l = rw (h, lt-ltb b.count bindings_max l) refl

  pub generic_full : is_bound b name ≡ false → bindings_max ≤ b.count → unified (Err Full) b ≡ generic_unify page name a b
  unfolding generic_unify
  generic_full h l = rw (h, le-ltb b.count bindings_max l) refl

-- ---- what is settled after an answer

module _ (page : List ℕ) (f : Formed page) (e a : ℕ) (u : e < types_in page) (v : a < types_in page) (b : Bindings) (g : Given b (types_in page)) (r : Unified)
    (h : r ≡ unify page e a b) where
  -- what was settled still is
  pub unify_noted : (seen : List ℕ) → Noted (SettledAt page b) seen → Noted (SettledAt page r.bindings) seen
  unify_noted seen = settled_on page b r.bindings (rw h (unify_grown page f e a u v b g).extends) seen

  -- after a yes the pair is
  pub unify_settled : r.answer ≡ Ok true → Settled page r.bindings e a
  unify_settled y d x = unify_again page f e a u v b d g (rw h at y) (rw h at x)
