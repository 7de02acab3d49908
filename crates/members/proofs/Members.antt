-- The members of a type in a store in form: how many they are, that they are in use, those of a union below it, and that they are the
-- same in a store that grows. Assumes nothing.
use mathlib.Core.Path.{◌≡◌, refl, ap, ◌∙◌}
use mathlib.Core.Bool.{Bool, true, false, cond}
use mathlib.Core.List.{List, [], ◌∷◌}
use Prim.Native.Nat.{ℕ, zero, suc, ◌<◌, ◌≤◌}
use native.Mathlib.Omega.{arith}
use lib.ListN.{length, get_or}
use Rattle.kinds.specs.Kinds.{children_max, is_union}
use Rattle.types.specs.Store.{Formed}
use Rattle.types.specs.Types.{types_in, kind_of, arity, child_of}
use Rattle.types.specs.Making.{Grows}
use Rattle.types.proofs.Types.{few_children, child_lower}
use Rattle.types.proofs.Grown.{kind_grown, arity_grown, child_grown}
use Rattle.members.specs.Members.{members_max, gather, share_of, members_of, size_of, member}
use Rattle.members.proofs.Gathered.{gather_each, gather_few, gather_same, ones_length}

-- an element of a list that has one
pub one_at : (l : List ℕ) (x i : ℕ) → l ≡ x ∷ [] → i < length l → get_or l i 0 ≡ x
one_at l x zero e h = rw e refl
one_at l x (suc i) e h = absurd (omega (arith, ap length e))

module _ (page : List ℕ) (t : ℕ) where
  module _ (u : is_union (kind_of page t) ≡ true) where
    pub share_union : share_of page t ≡ gather (arity page t) (λ i. child_of page t i ∷ [])
    unfolding share_of
    share_union = rw u refl

    pub members_union : members_of page t ≡ gather (arity page t) (λ i. share_of page (child_of page t i))
    unfolding members_of
    members_union = rw u refl

  module _ (u : is_union (kind_of page t) ≡ false) where
    pub share_one : share_of page t ≡ t ∷ []
    unfolding share_of
    share_one = rw u refl

    -- a type that is no union has one member, itself
    pub members_one : members_of page t ≡ t ∷ []
    unfolding members_of
    members_one = rw u refl

    pub size_one : size_of page t ≡ 1
    size_one = ap length members_one

    pub member_one : (i : ℕ) → i < size_of page t → member page t i ≡ t
    member_one i h = one_at (members_of page t) t i members_one h

module _ (page : List ℕ) (f : Formed page) (t : ℕ) (u : t < types_in page) where
  -- what a union's child gives
  pub share_few : length (share_of page t) ≤ children_max
  share_few = go (is_union (kind_of page t)) refl
    where
      go : (b : Bool) → is_union (kind_of page t) ≡ b → length (share_of page t) ≤ children_max
      go true e = rw (share_union page t e, ones_length (child_of page t) (arity page t)) (few_children page f t u)
      go false e = rw (share_one page t e) (omega arith)

  pub share_low : (i : ℕ) → i < length (share_of page t) → get_or (share_of page t) i 0 ≤ t
  share_low i h = go (is_union (kind_of page t)) refl
    where
      go : (b : Bool) → is_union (kind_of page t) ≡ b → get_or (share_of page t) i 0 ≤ t
      go true e =
          rw (share_union page t e)
          (gather_each (λ k. child_of page t k ∷ []) (λ y. y ≤ t) (arity page t)
          (λ k j p q. rw (one_at (child_of page t k ∷ []) (child_of page t k) j refl q) (omega (arith, child_lower page f t u k p)))
          i (rw (share_union page t e) at h))
      go false e = rw (one_at (share_of page t) t i (share_one page t e) h) (omega arith)

module _ (page : List ℕ) (f : Formed page) (t : ℕ) (u : t < types_in page) where
  -- a type has few members
  pub size_few : size_of page t ≤ members_max
  size_few = go (is_union (kind_of page t)) refl
    where
      go : (b : Bool) → is_union (kind_of page t) ≡ b → size_of page t ≤ members_max
      go true e =
          let n = gather_few (λ i. share_of page (child_of page t i)) (arity page t) children_max
          (λ k l. let c = child_lower page f t u k l in share_few page f (child_of page t k) (omega arith)) in
          rw (members_union page t e) (omega (arith, n, few_children page f t u))
      go false e = rw (members_one page t e) (omega arith)

  -- a member of a union is numbered below it
  pub member_lower : is_union (kind_of page t) ≡ true → (i : ℕ) → i < size_of page t → member page t i < t
  member_lower e i h =
      rw (members_union page t e)
      (gather_each (λ k. share_of page (child_of page t k)) (λ y. y < t) (arity page t)
      (λ k j p q. let c = child_lower page f t u k p in omega (arith, share_low page f (child_of page t k) (omega arith) j q))
      i (rw (members_union page t e) at h))

  -- a member of a type is not numbered above it
  pub member_low : (i : ℕ) → i < size_of page t → member page t i ≤ t
  member_low i h = go (is_union (kind_of page t)) refl
    where
      go : (b : Bool) → is_union (kind_of page t) ≡ b → member page t i ≤ t
      go true e = omega (arith, member_lower e i h)
      go false e = rw (member_one page t e i h) (omega arith)

  -- and is in use
  pub member_used : (i : ℕ) → i < size_of page t → member page t i < types_in page
  member_used i h = omega (arith, member_low i h)

-- ---- a store that has grown

module _ (p q : List ℕ) (f : Formed p) (g : Grows p q) where
  pub share_grown : (t : ℕ) → t < types_in p → share_of q t ≡ share_of p t
  unfolding share_of
  share_grown t u =
      rw (kind_grown p q f g t u, arity_grown p q f g t u)
      (ap (λ (l : List ℕ). cond (is_union (kind_of p t)) l (t ∷ []))
      (gather_same (λ i. child_of q t i ∷ []) (λ i. child_of p t i ∷ []) (arity p t)
      (λ i l. ap (λ (x : ℕ). x ∷ []) (child_grown p q f g t u i l))))

  pub members_grown : (t : ℕ) → t < types_in p → members_of q t ≡ members_of p t
  unfolding members_of
  members_grown t u =
      rw (kind_grown p q f g t u, arity_grown p q f g t u)
      (ap (λ (l : List ℕ). cond (is_union (kind_of p t)) l (t ∷ []))
      (gather_same (λ i. share_of q (child_of q t i)) (λ i. share_of p (child_of p t i)) (arity p t)
      (λ i l. ap (share_of q) (child_grown p q f g t u i l)
      ∙ share_grown (child_of p t i) (let c = child_lower p f t u i l in omega arith))))
