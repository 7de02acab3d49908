-- The leaf that stands for a type in a store in form: its equation, that it is no union and is not numbered above the type, and that it
-- is the same in a store that grows; and the table of leaves. Assumes nothing.
use mathlib.Core.Path.{◌≡◌, refl, sym, ◌∙◌, ap}
use mathlib.Core.Bool.{Bool, true, false, cond}
use mathlib.Core.Logic.{⊎_elim, ∥∥₁_elim}
use mathlib.Core.List.{List}
use Prim.Native.Nat.{ℕ, zero, suc, ◌+◌, ◌<◌, ◌≤◌}
use native.Mathlib.Nat.{not-suc-le-zero, eq-or-lt_of_le}
use native.Mathlib.Omega.{arith}
use lib.Dec.{eqb}
use lib.ListN.{length, get_or, set, length-set}
use lib.Seq.{get_or-set_same, get_or-set_other}
use borrow.Author.Tests.{ne_eqb}
use Rattle.std.proofs.Math.Nat.{ℕ_set}
use Rattle.pages.specs.Quant.{all_to}
use Rattle.pages.proofs.Quant.{all_cong, all_failed}
use Rattle.kinds.specs.Kinds.{null, is_union}
use Rattle.types.specs.Store.{types_max, Formed}
use Rattle.types.specs.Types.{types_in, kind_of}
use Rattle.types.specs.Recur.{below}
use Rattle.types.specs.Making.{Grows}
use Rattle.types.proofs.Recur.{below_lt, cov_eq}
use Rattle.types.proofs.Types.{types_few, kind_fixed}
use Rattle.types.proofs.Grown.{kind_grown}
use Rattle.members.specs.Members.{size_of, member}
use Rattle.members.specs.Leaves.{key_of, key_in, agreed, leaf_rule, leaf_of, Leaves}
use Rattle.members.proofs.Members.{member_lower, members_grown}
use Rattle.members.proofs.Flattening.{Flattened, member_is}

-- ---- leaves of one key

-- what holds of Null and of each leaf holds of the one that stands for them
pub agreed_holds : (P : ℕ → Type 0) (key : ℕ → ℕ) (n : ℕ) (x : ℕ → ℕ) → P null → ((i : ℕ) → i < n → P (x i)) → P (agreed key n x)
unfolding agreed
agreed_holds P key zero x z h = z
agreed_holds P key (suc n) x z h = go (all_to (suc n) (λ i. eqb (key (x i)) (key (x 0))))
  where
    go : (b : Bool) → P (cond b (x 0) null)
    go true = h 0 (omega arith)
    go false = z

pub agreed_same : (k l : ℕ → ℕ) (n : ℕ) (x y : ℕ → ℕ) → ((i : ℕ) → i < n → x i ≡ y i) → ((i : ℕ) → i < n → k (y i) ≡ l (y i))
    → agreed k n x ≡ agreed l n y
unfolding agreed
agreed_same k l zero x y h e = refl
agreed_same k l (suc n) x y h e =
    let first = h 0 (omega arith) in
    rw (first, e 0 (omega arith))
    (ap (λ (b : Bool). cond b (y 0) null)
    (all_cong (λ i. eqb (k (x i)) (l (y 0))) (λ i. eqb (l (y i)) (l (y 0))) (suc n)
    (λ i m. ap (λ (z : ℕ). eqb z (l (y 0))) (ap k (h i m) ∙ e i m))))

-- has x i the key of x 0
abbrev pub same_key : (ℕ → ℕ) → (ℕ → ℕ) → ℕ → Bool
same_key key x i = eqb (key (x i)) (key (x 0))

module _ (key : ℕ → ℕ) (x : ℕ → ℕ) where
  pub agreed_none : (n : ℕ) → n ≡ 0 → agreed key n x ≡ null
  unfolding agreed
  agreed_none n e = rw e refl

  pub agreed_not : (n i : ℕ) → i < n → same_key key x i ≡ false → agreed key n x ≡ null
  unfolding agreed
  agreed_not zero i l h = absurd (not-suc-le-zero l)
  agreed_not (suc n) i l h = rw (all_failed (same_key key x) (suc n) i l h) refl

  pub agreed_all : (n : ℕ) → 0 < n → all_to n (same_key key x) ≡ true → agreed key n x ≡ x 0
  unfolding agreed
  agreed_all zero l h = absurd (not-suc-le-zero l)
  agreed_all (suc n) l h = rw h refl

-- ---- the leaf of a type

-- the leaves of the members that are numbered below a type
abbrev lower : Bool → List ℕ → ℕ → ℕ → ℕ
lower unary page t i = below null t (leaf_of unary page) (member page t i)

module _ (unary : Bool) (page : List ℕ) (f : Formed page) where
  module _ (t : ℕ) (u : t < types_in page) where
    -- given the leaves of all types
    pub leaf_eq : leaf_of unary page t ≡ leaf_rule unary page (leaf_of unary page) t
    unfolding leaf_of leaf_rule
    leaf_eq = cov_eq null (λ s rule. leaf_rule unary page rule s) t ∙ go (is_union (kind_of page t)) refl
      where
        go : (b : Bool) → is_union (kind_of page t) ≡ b
            → cond b (agreed (key_in unary page) (size_of page t) (lower unary page t)) t
            ≡ cond b (agreed (key_in unary page) (size_of page t) (λ i. leaf_of unary page (member page t i))) t
        go true e =
            agreed_same (key_in unary page) (key_in unary page) (size_of page t) (lower unary page t) (λ i. leaf_of unary page (member page t i))
            (λ i l. below_lt null t (leaf_of unary page) (member page t i) (member_lower page f t u e i l)) (λ i l. refl)
        go false e = refl

    -- of a union, and of any other type
    pub leaf_union : is_union (kind_of page t) ≡ true
        → leaf_of unary page t ≡ agreed (key_in unary page) (size_of page t) (λ i. leaf_of unary page (member page t i))
    unfolding leaf_rule
    leaf_union e = leaf_eq ∙ rw e refl

    pub leaf_itself : is_union (kind_of page t) ≡ false → leaf_of unary page t ≡ t
    unfolding leaf_rule
    leaf_itself e = leaf_eq ∙ rw e refl

  -- what a leaf is: no union, and not numbered above the type
  pub record Leaf (t : ℕ) : Type 0 where
    pub low : leaf_of unary page t ≤ t
    pub plain : is_union (kind_of page (leaf_of unary page t)) ≡ false

  leaf_below : (m t : ℕ) → t < m → t < types_in page → Leaf t
  leaf_below zero t l u = absurd (not-suc-le-zero l)
  leaf_below (suc m) t l u =
      go (is_union (kind_of page t)) refl
      (λ e i h. let low = member_lower page f t u e i h in leaf_below m (member page t i) (omega arith) (omega arith))
    where
      go : (b : Bool) → is_union (kind_of page t) ≡ b
          → (is_union (kind_of page t) ≡ true → (i : ℕ) → i < size_of page t → Leaf (member page t i)) → Leaf t
      go true e before = record {
        low =
            rw (leaf_union t u e)
            (agreed_holds (λ y. y ≤ t) (key_in unary page) (size_of page t) (λ i. leaf_of unary page (member page t i)) (omega arith)
            (λ i h. omega (arith, (before e i h).low, member_lower page f t u e i h)));
        plain =
            rw (leaf_union t u e)
            (agreed_holds (λ y. is_union (kind_of page y) ≡ false) (key_in unary page) (size_of page t) (λ i. leaf_of unary page (member page t i))
            (rw (← kind_fixed page null (omega arith)) refl) (λ i h. (before e i h).plain));
      }
      go false e before = record { low = rw (leaf_itself t u e) (omega arith); plain = rw (leaf_itself t u e) e }

  module _ (t : ℕ) (u : t < types_in page) where
    leaf_is : Leaf t
    leaf_is = leaf_below (suc t) t (omega arith) u

    pub leaf_low : leaf_of unary page t ≤ t
    leaf_low = leaf_is.low

    pub leaf_used : leaf_of unary page t < types_in page
    leaf_used = omega (arith, leaf_low)

    pub leaf_plain : is_union (kind_of page (leaf_of unary page t)) ≡ false
    leaf_plain = leaf_is.plain

-- ---- the table of leaves

-- the leaf of member i
abbrev pub leaf_in : Bool → List ℕ → ℕ → ℕ → ℕ
leaf_in unary page t i = leaf_of unary page (member page t i)

module _ (unary : Bool) (page : List ℕ) (f : Formed page) (t : ℕ) (u : t < types_in page) where
  -- what `leaf_of` promises
  abbrev Gives : ℕ → Type 0
  Gives r = (r ≡ leaf_of unary page t) × (r ≤ t)

  gives : (r : ℕ) → leaf_of unary page t ≡ r → Gives r
  gives r e = (sym e, rw (← e) (leaf_low unary page f t u))

  pub leaf_gives : is_union (kind_of page t) ≡ false → Gives t
  leaf_gives e = gives t (leaf_itself unary page f t u e)

  module _ (e : is_union (kind_of page t) ≡ true) (types : List ℕ) (n : ℕ) (fl : Flattened page t n types) where
    -- a union without members
    pub empty_gives : n ≡ 0 → Gives null
    empty_gives z =
        gives null (leaf_union unary page f t u e ∙ agreed_none (key_in unary page) (leaf_in unary page t) (size_of page t) (sym fl.0 ∙ z))

    -- a member with another key
    pub other_gives : (i j k : ℕ) → i < n → j ≡ key_in unary page (leaf_in unary page t i) → k ≡ key_in unary page (leaf_in unary page t 0)
        → (j ≡ k → ⊥) → Gives null
    other_gives i j k l a b ne =
        gives null
        (leaf_union unary page f t u e
        ∙ agreed_not (key_in unary page) (leaf_in unary page t) (size_of page t) i (rw fl.0 at l)
        (rw (← a, ← b) (ne_eqb j k ne)))

    -- members of one key
    pub all_gives : (first : ℕ) → 0 < n → first ≡ leaf_in unary page t 0
        → all_to n (same_key (key_in unary page) (leaf_in unary page t)) ≡ true → Gives first
    all_gives first l is h =
        gives first
        (leaf_union unary page f t u e
        ∙ agreed_all (key_in unary page) (leaf_in unary page t) (size_of page t) (rw fl.0 at l) (rw fl.0 at h) ∙ sym is)

    -- the leaf of a member, read in the table
    module _ (leaves : List ℕ) (h : Leaves unary page leaves t) (i : ℕ) (l : i < n) (m : ℕ) (at : m ≡ get_or types i 0) where
      read_member : m ≡ member page t i
      read_member = member_is page t n types fl i m l at

      read_low : m < t
      read_low = rw read_member (member_lower page f t u e i (rw fl.0 at l))

      pub read_place : m < length leaves
      read_place = omega (arith, read_low, h.size, types_few page f)

      module _ (leaf : ℕ) (is : leaf ≡ get_or leaves m 0) where
        pub read_leaf : leaf ≡ leaf_in unary page t i
        read_leaf = is ∙ h.holds m read_low ∙ ap (leaf_of unary page) read_member

        pub read_used : leaf < types_in page
        read_used = rw (is ∙ h.holds m read_low) (leaf_used unary page f m (omega (arith, read_low)))

        pub read_key : (k : ℕ) → k ≡ key_in unary page leaf → k ≡ key_in unary page (leaf_in unary page t i)
        read_key k q = q ∙ ap (key_in unary page) read_leaf

-- the table of a store with leaves
pub filled_by : {unary : Bool} {page leaves : List ℕ} {n : ℕ} → ∥ Leaves unary page leaves n ∥₁ → Leaves unary page leaves n
filled_by t = record {
  size = ∥∥₁_elim t (ℕ_set _ _) (λ h. h.size);
  holds = λ k l. ∥∥₁_elim t (ℕ_set _ _) (λ h. h.holds k l);
}

module _ {unary : Bool} {page leaves : List ℕ} (f : Formed page) (h : Leaves unary page leaves (types_in page)) (t : ℕ) (u : t < types_in page) where
  pub leaf_there : t < length leaves
  leaf_there = omega (arith, h.size, types_few page f)

  pub leaf_read : (x : ℕ) → x ≡ get_or leaves t 0 → Gives unary page f t u x
  leaf_read x is = gives unary page f t u x (sym (is ∙ h.holds t u))

-- one more
pub leaves_more : (unary : Bool) (page leaves : List ℕ) (t leaf : ℕ) → t < types_max → Leaves unary page leaves t → leaf ≡ leaf_of unary page t
    → Leaves unary page (set leaves t leaf) (t + 1)
leaves_more unary page leaves t leaf l h e = record {
  size = length-set leaves t leaf ∙ h.size;
  holds = λ k m. ⊎_elim
      (λ (q : k ≡ t). rw q (get_or-set_same leaves t leaf 0 (omega (arith, h.size)) ∙ e))
      (λ (q : k < t). get_or-set_other leaves t k leaf 0 (omega arith) ∙ h.holds k q)
      (eq-or-lt_of_le {n = k} {m = t} (omega arith));
}

-- ---- a store that has grown

module _ (unary : Bool) (p q : List ℕ) (f : Formed p) (fq : Formed q) (g : Grows p q) where
  leaf_grown_below : (m t : ℕ) → t < m → t < types_in p → leaf_of unary q t ≡ leaf_of unary p t
  leaf_grown_below zero t l u = absurd (not-suc-le-zero l)
  leaf_grown_below (suc m) t l u =
      go (is_union (kind_of p t)) refl
      (λ e i h. let low = member_lower p f t u e i h in leaf_grown_below m (member p t i) (omega arith) (omega arith))
    where
      uq : t < types_in q
      uq = omega (arith, g.more)

      go : (b : Bool) → is_union (kind_of p t) ≡ b
          → (is_union (kind_of p t) ≡ true → (i : ℕ) → i < size_of p t → leaf_of unary q (member p t i) ≡ leaf_of unary p (member p t i))
          → leaf_of unary q t ≡ leaf_of unary p t
      go true e before =
          leaf_union unary q fq t uq (ap is_union (kind_grown p q f g t u) ∙ e)
          ∙ rw (members_grown p q f g t u)
          (agreed_same (key_in unary q) (key_in unary p) (size_of p t) (λ i. leaf_of unary q (member p t i)) (λ i. leaf_of unary p (member p t i))
          (before e)
          (λ i h. let low = member_lower p f t u e i h in
          ap (key_of unary) (kind_grown p q f g (leaf_of unary p (member p t i)) (leaf_used unary p f (member p t i) (omega arith)))))
          ∙ sym (leaf_union unary p f t u e)
      go false e before = leaf_itself unary q fq t uq (ap is_union (kind_grown p q f g t u) ∙ e) ∙ sym (leaf_itself unary p f t u e)

  pub leaf_grown : (t : ℕ) → t < types_in p → leaf_of unary q t ≡ leaf_of unary p t
  leaf_grown t u = leaf_grown_below (suc t) t (omega arith) u

  -- a table of leaves stays one
  pub leaves_grown : (leaves : List ℕ) (n : ℕ) → n ≤ types_in p → Leaves unary p leaves n → Leaves unary q leaves n
  leaves_grown leaves n l h = record { size = h.size; holds = λ t m. h.holds t m ∙ sym (leaf_grown t (omega arith)) }
