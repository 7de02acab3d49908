-- The nodes of a formula, where operands are numbered below their node (`Lower`): the test `has_part` says yes of its parts and of no
-- other node (`part_tested`), a formula has the same parts in every list that is written so (`part_same`), and each part of a formula
-- that passes is answered without an error (`passes_each`). Assumes nothing.
use Rattle.std.proofs.lemmas.Bool.{or_cases, or_left, or_right}
use Rattle.std.specs.List.{list_any}
use mathlib.Core.Path.{◌≡◌, refl, sym, ap, subst, ◌∙◌}
use mathlib.Core.Logic.{◌↔◌, ◌⊎◌, inl, inr}
use mathlib.Core.Bool.{Bool, true, false, ◌&&◌, ◌||◌, not}
use mathlib.Core.List.{List, [], ◌∷◌, Memᴰ}
use mathlib.Core.List.Memᴰ.{head, tail}
use Prim.Native.Nat.{ℕ, zero, suc, ◌<◌, ◌≤◌}
use native.Mathlib.Nat.{le_refl}
use native.Mathlib.Omega.{arith}
use lib.Dec.{eqb}
use lib.ListN.{length}
use borrow.Author.Tests.{eqb-true, eq-eqb, ltb-true}
use Rattle.pages.specs.Quant.{all_to}
use Rattle.pages.proofs.Quant.{and_true, all_at}
use Rattle.types.proofs.Recur.{below_lt, cov_eq}
use Rattle.types.specs.Recur.{below, cov}
use Rattle.formulas.specs.Nodes.{is_node}
use Rattle.formulas.specs.Below.{writings, written_at, operands_of, Part, has_part, errors_at, passes}
use Rattle.formulas.specs.Below.Part.{itself, below as under}
use Rattle.formulas.specs.declared.Written.{Written}
use Rattle.formulas.specs.declared.Node.{Node}

-- ---- tests of the elements of a list

any_of : {A : Type 0} (p : A → Bool) (xs : List A) → list_any p xs ≡ true → (a : A) × Memᴰ a xs × (p a ≡ true)
any_of p [] h = absurd (let z : ◌≡◌ {A = ℕ} 0 1 = cc in omega arith)
any_of p (x ∷ xs) h = go (or_cases (p x) (list_any p xs) h) (any_of p xs)
  where
    go : (p x ≡ true) ⊎ (list_any p xs ≡ true) → (list_any p xs ≡ true → (a : _) × Memᴰ a xs × (p a ≡ true)) → (a : _) × Memᴰ a (x ∷ xs) × (p a ≡ true)
    go (inl e) ih = (x, head refl, e)
    go (inr e) ih = let q = ih e in (q.0, tail q.1, q.2)

of_any : {A : Type 0} (p : A → Bool) (a : A) (xs : List A) → Memᴰ a xs → p a ≡ true → list_any p xs ≡ true
of_any p a [] m h = elim m [ ]
of_any p a (x ∷ xs) (head e) h = or_left (p x) (list_any p xs) (ap p (sym e) ∙ h)
of_any p a (x ∷ xs) (tail m) h = or_right (p x) (list_any p xs) (of_any p a xs m h)

any_same : {A : Type 0} (p q : A → Bool) (xs : List A) → ((a : A) → Memᴰ a xs → p a ≡ q a) → list_any p xs ≡ list_any q xs
any_same p q [] h = refl
any_same p q (x ∷ xs) h = rw (h x (head refl), any_same p q xs (λ a m. h a (tail m))) refl

-- ---- parts

-- the operands of each of the first k nodes are numbered below it
abbrev pub Lower : List Written → ℕ → Type 0
Lower ws k = (n : ℕ) → n < k → (a : ℕ) → Memᴰ a (operands_of (written_at ws n)) → a < n

-- a part's parts are parts
pub part_chain : {ws : List Written} {r b n : ℕ} → Part ws r b → Part ws b n → Part ws r n
part_chain p itself = p
part_chain p (under q m) = under (part_chain p q) m

module _ (ws : List Written) (k : ℕ) (low : Lower ws k) where
  -- no part is numbered above the root
  pub part_below : {r n : ℕ} → r < k → Part ws r n → n ≤ r
  part_below {r} l itself = le_refl r
  part_below l (under {n = n} {a = a} p m) = let h = part_below l p in let g = low n (omega (arith, h, l)) a m in omega (arith, h, g)

  -- the equation of the test
  has_part_eq : (r n : ℕ) → r < k → has_part ws r n ≡ (eqb r n || list_any (λ a. has_part ws a n) (operands_of (written_at ws r)))
  unfolding has_part
  has_part_eq r n l =
      let d = λ (m : ℕ). false in
      let step = λ (x : ℕ) (rule : ℕ → ℕ → Bool) (m : ℕ). eqb x m || list_any (λ a. rule a m) (operands_of (written_at ws x)) in
      ap (λ (f : ℕ → Bool). f n) (cov_eq {R = ℕ → Bool} d step r)
      ∙ ap (λ b. eqb r n || b)
      (any_same (λ a. below d r (cov d step) a n) (λ a. cov d step a n) (operands_of (written_at ws r))
      (λ a m. ap (λ (f : ℕ → Bool). f n) (below_lt d r (cov d step) a (low r l a m))))

  has_self : (r : ℕ) → r < k → has_part ws r r ≡ true
  has_self r l = has_part_eq r r l ∙ or_left (eqb r r) _ (eq-eqb r r refl)

  -- what an operand has, its node has
  has_operand : (r a n : ℕ) → r < k → Memᴰ a (operands_of (written_at ws r)) → has_part ws a n ≡ true → has_part ws r n ≡ true
  has_operand r a n l m h =
      has_part_eq r n l ∙ or_right (eqb r n) _ (of_any (λ b. has_part ws b n) a (operands_of (written_at ws r)) m h)

  -- why it says yes
  has_why : (r n : ℕ) → r < k → has_part ws r n ≡ true
      → (r ≡ n) ⊎ ((a : ℕ) × Memᴰ a (operands_of (written_at ws r)) × (has_part ws a n ≡ true))
  has_why r n l h = go (or_cases (eqb r n) _ (sym (has_part_eq r n l) ∙ h))
    where
      go : (eqb r n ≡ true) ⊎ (list_any (λ a. has_part ws a n) (operands_of (written_at ws r)) ≡ true)
          → (r ≡ n) ⊎ ((a : ℕ) × Memᴰ a (operands_of (written_at ws r)) × (has_part ws a n ≡ true))
      go (inl e) = inl (eqb-true r n e)
      go (inr e) = inr (any_of (λ a. has_part ws a n) (operands_of (written_at ws r)) e)

  -- with a node it has the node's operands
  has_down : (m r n a : ℕ) → r < m → r < k → has_part ws r n ≡ true → Memᴰ a (operands_of (written_at ws n)) → has_part ws r a ≡ true
  has_down zero r n a i l h o = absurd (omega (arith, i))
  has_down (suc m) r n a i l h o = go (has_why r n l h) (λ b j g. has_down m b n a (omega (arith, i, j)) (omega (arith, l, j)) g o)
    where
      go : (r ≡ n) ⊎ ((b : ℕ) × Memᴰ b (operands_of (written_at ws r)) × (has_part ws b n ≡ true))
          → ((b : ℕ) → b < r → has_part ws b n ≡ true → has_part ws b a ≡ true) → has_part ws r a ≡ true
      go (inl e) ih =
          let q : Memᴰ a (operands_of (written_at ws r)) = subst (λ (x : ℕ). Memᴰ a (operands_of (written_at ws x))) (sym e) o in
          has_operand r a a l q (has_self a (omega (arith, l, low r l a q)))
      go (inr q) ih = has_operand r q.0 a l q.1 (ih q.0 (low r l q.0 q.1) q.2)

  part_has : {r n : ℕ} → r < k → Part ws r n → has_part ws r n ≡ true
  part_has {r} l itself = has_self r l
  part_has {r} l (under {n = n} {a = a} p m) = has_down (suc r) r n a (omega arith) l (part_has l p) m

  has_is : (m r n : ℕ) → r < m → r < k → has_part ws r n ≡ true → Part ws r n
  has_is zero r n i l h = absurd (omega (arith, i))
  has_is (suc m) r n i l h = go (has_why r n l h) (λ b j g. has_is m b n (omega (arith, i, j)) (omega (arith, l, j)) g)
    where
      go : (r ≡ n) ⊎ ((b : ℕ) × Memᴰ b (operands_of (written_at ws r)) × (has_part ws b n ≡ true))
          → ((b : ℕ) → b < r → has_part ws b n ≡ true → Part ws b n) → Part ws r n
      go (inl e) ih = subst (Part ws r) e itself
      go (inr q) ih = part_chain (under itself q.1) (ih q.0 (low r l q.0 q.1) q.2)

  -- the test says yes exactly of the parts
  pub part_tested : (r n : ℕ) → r < k → (has_part ws r n ≡ true) ↔ Part ws r n
  part_tested r n l = (has_is (suc r) r n (omega arith) l, part_has l)

  -- a list that is written alike so far has the same parts
  pub part_same : (vs : List Written) → ((n : ℕ) → n < k → written_at ws n ≡ written_at vs n) → {r n : ℕ} → r < k → Part ws r n → Part vs r n
  part_same vs same l itself = itself
  part_same vs same {r} l (under {n = n} {a = a} p m) =
      under (part_same vs same l p) (subst (λ w. Memᴰ a (operands_of w)) (same n (omega (arith, l, part_below l p))) m)

-- ---- a formula that passes

module _ (nodes : List Node) (r : ℕ) (h : passes nodes r ≡ true) where
  both : (is_node nodes r ≡ true)
      × (all_to (suc r) (λ n. not (has_part (writings nodes) r n) || (is_node nodes n && eqb (errors_at nodes n) 0)) ≡ true)
  unfolding passes
  both = and_true (is_node nodes r) _ h

  -- its root is answered
  pub passes_root : r < length nodes
  passes_root = ltb-true r (length nodes) both.0

  -- and each part is, without an error
  pub passes_each : Lower (writings nodes) (length nodes) → (n : ℕ) → Part (writings nodes) r n → (n < length nodes) × (errors_at nodes n ≡ 0)
  passes_each low n p =
      let w = writings nodes in
      let k = length nodes in
      let e = (part_tested w k low r n passes_root).1 p in
      let i = part_below w k low passes_root p in
      let t = all_at (λ m. not (has_part w r m) || (is_node nodes m && eqb (errors_at nodes m) 0)) (suc r) n both.1 (omega (arith, i)) in
      let q : (is_node nodes n && eqb (errors_at nodes n) 0) ≡ true = rw e at t in
      let d = and_true (is_node nodes n) (eqb (errors_at nodes n) 0) q in
      (ltb-true n k d.0, eqb-true (errors_at nodes n) 0 d.1)
