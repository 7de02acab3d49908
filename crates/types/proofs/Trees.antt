-- A type's number means a tree (`tree_is`), and in a store in form equal trees have equal numbers (`equal_types`). Assumes nothing.
use mathlib.Core.Path.{◌≡◌, refl, sym, ◌∙◌, ap, fun_ext}
use mathlib.Core.Bool.{Bool, true, false, cond}
use mathlib.Core.List.{List}
use Prim.Native.Nat.{ℕ, zero, suc, ◌+◌, ◌-◌, ◌<◌, ◌≤◌}
use native.Mathlib.Nat.{not-suc-le-zero}
use native.Mathlib.Omega.{arith}
use lib.Dec.{ltb, leb}
use lib.ListN.{length, get_or}
use borrow.Author.Tests.{lt-ltb, ltb-true, ltb-false, leb-true}
use Rattle.pages.specs.Bytes.{count_of}
use Rattle.pages.proofs.Quant.{and_true, any_found, first_below}
use Rattle.pages.proofs.Bytes.{eqs_refl, number_same}
use Rattle.pages.proofs.Words.{words_same}
use Rattle.kinds.specs.Kinds.{fixed_max, is_named, is_stored}
use Rattle.types.specs.Store.{head_bytes, name_bytes, children_at, kind_at, child_at, name_at, size_at, entry_at, offset, parts_at, is_entry, Formed}
use Rattle.types.specs.Types.{types_in, place_of, kind_of, arity, child_of, name_of}
use Rattle.types.specs.Recur.{below, cov}
use Rattle.types.specs.Trees.{Tree, none, node, tree_rule, tree_of, Bytes}
use Rattle.types.proofs.Recur.{below_lt, cov_eq}
use Rattle.types.proofs.Placing.{size_named, size_children}
use Rattle.types.proofs.Grown.{entry_alike}
use Rattle.types.proofs.Types.{all_good, kind_fixed, kind_entry, arity_entry, child_lower, entry_inside}

-- ---- the parts of a tree

abbrev kind_in : Tree → ℕ
kind_in none = 0
kind_in (node k m n f) = k

abbrev name_in : Tree → ℕ
name_in none = 0
name_in (node k m n f) = m

abbrev count_in : Tree → ℕ
count_in none = 0
count_in (node k m n f) = n

abbrev child_in : Tree → ℕ → Tree
child_in none i = none
child_in (node k m n f) i = f i

module _ (page : List ℕ) (f : Formed page) where
  -- a node of its kind and name over the trees of its children
  pub tree_is : (t : ℕ) → t < types_in page → tree_of page t ≡ tree_rule page (tree_of page) t
  unfolding tree_of tree_rule
  tree_is t u =
      cov_eq none (λ s rule. tree_rule page rule s) t
      ∙ ap (node (kind_of page t) (cond (is_named (kind_of page t)) (name_of page t) 0) (arity page t)) (fun_ext (λ i. go i (ltb i (arity page t)) refl))
    where
      go : (i : ℕ) (b : Bool) → ltb i (arity page t) ≡ b
          → cond b (below none t (cov none (λ s rule. tree_rule page rule s)) (child_of page t i)) none ≡ cond b (tree_of page (child_of page t i)) none
      go i true e = below_lt none t (cov none (λ s rule. tree_rule page rule s)) (child_of page t i) (child_lower page f t u i (ltb-true i (arity page t) e))
      go i false e = refl

-- ---- entries with the same parts have the same bytes

module _ (page : List ℕ) (b : Bytes page) (o u : ℕ) (kind : kind_at page o ≡ kind_at page u) (count : children_at page o ≡ children_at page u)
    (name : is_named (kind_at page u) ≡ true → name_at page o ≡ name_at page u)
    (child : is_named (kind_at page u) ≡ false → (i : ℕ) → i < children_at page u → child_at page o i ≡ child_at page u i) where
  size_same : size_at page o ≡ size_at page u
  unfolding size_at
  size_same = rw (kind, count) refl

  body_same : (i : ℕ) → head_bytes + i < size_at page u → get_or page (o + head_bytes + i) 0 ≡ get_or page (u + head_bytes + i) 0
  body_same i l = go (is_named (kind_at page u)) refl
    where
      go : (x : Bool) → is_named (kind_at page u) ≡ x → get_or page (o + head_bytes + i) 0 ≡ get_or page (u + head_bytes + i) 0
      go true e = number_same page b (o + head_bytes) (u + head_bytes) name_bytes (name e) i (omega (arith, l, size_named page u e))
      go false e = words_same page b (o + head_bytes) (u + head_bytes) (children_at page u) (child e) i (omega (arith, l, size_children page u e))

  byte_same : (i : ℕ) → i < size_at page u → get_or page (o + i) 0 ≡ get_or page (u + i) 0
  byte_same zero l =
      let p : o + 0 ≡ o = omega arith in
      let q : u + 0 ≡ u = omega arith in
      rw (p, q) count
  byte_same (suc zero) l = kind
  byte_same (suc (suc i)) l =
      let p : o + suc (suc i) ≡ o + head_bytes + i = omega arith in
      let q : u + suc (suc i) ≡ u + head_bytes + i = omega arith in
      rw (p, q) (body_same i (omega arith))

  entry_same : o + size_at page o ≤ length page → u + size_at page u ≤ length page → entry_at page o ≡ entry_at page u
  entry_same lo lu = entry_alike page page o u byte_same (omega (arith, lo, size_same)) lu

-- ---- equal trees have equal numbers

module _ (page : List ℕ) (f : Formed page) (b : Bytes page) where
  -- of two entries that are equal neither comes before the other
  not_before : (i j : ℕ) → i < j → j < count_of page → entry_at page (offset page i) ≡ entry_at page (offset page j) → ⊥
  not_before i j l h e =
      let hit : is_entry page (entry_at page (offset page j)) i ≡ true = rw e (eqs_refl (entry_at page (offset page j))) in
      omega (arith, (all_good page f j h).new, first_below (is_entry page (entry_at page (offset page j))) j (any_found (is_entry page (entry_at page (offset page j))) j i l hit))

  one_place : (i j : ℕ) → i < count_of page → j < count_of page → entry_at page (offset page i) ≡ entry_at page (offset page j) → i ≡ j
  one_place i j h k e = go (ltb i j) (ltb j i) refl refl
    where
      go : (x y : Bool) → ltb i j ≡ x → ltb j i ≡ y → i ≡ j
      go true y p q = absurd (not_before i j (ltb-true i j p) k e)
      go false true p q = absurd (not_before j i (ltb-true j i q) h (sym e))
      go false false p q = omega (arith, ltb-false i j p, ltb-false j i q)

  parts_stored : (j : ℕ) → j < count_of page → leb fixed_max (kind_at page (offset page j)) ≡ true
  unfolding parts_at
  parts_stored j h = (and_true (leb fixed_max (kind_at page (offset page j))) _ (and_true (is_stored (kind_at page (offset page j))) _ (all_good page f j h).parts).0).0

  stored : (t : ℕ) → t < types_in page → fixed_max ≤ t → fixed_max ≤ kind_of page t
  stored t u l =
      rw (← kind_entry page t l)
      (leb-true fixed_max (kind_at page (place_of page t)) (parts_stored (t - fixed_max) (omega arith)))

  -- types of equal kinds, names and children are one
  same_parts : (a c : ℕ) → a < types_in page → c < types_in page → kind_of page a ≡ kind_of page c → arity page a ≡ arity page c
      → (is_named (kind_of page c) ≡ true → name_of page a ≡ name_of page c) → ((i : ℕ) → i < arity page c → child_of page a i ≡ child_of page c i) → a ≡ c
  unfolding name_of child_of
  same_parts a c ua uc k n m h = go (ltb a fixed_max) (ltb c fixed_max) refl refl
    where
      go : (x y : Bool) → ltb a fixed_max ≡ x → ltb c fixed_max ≡ y → a ≡ c
      go true true p q = kind_fixed page a (ltb-true a fixed_max p) ∙ k ∙ sym (kind_fixed page c (ltb-true c fixed_max q))
      go true false p q =
          absurd (omega (arith, ltb-true a fixed_max p, kind_fixed page a (ltb-true a fixed_max p), k, stored c uc (ltb-false c fixed_max q)))
      go false true p q =
          absurd (omega (arith, ltb-true c fixed_max q, kind_fixed page c (ltb-true c fixed_max q), k, stored a ua (ltb-false a fixed_max p)))
      go false false p q =
          let la = ltb-false a fixed_max p in
          let lc = ltb-false c fixed_max q in
          let e =
          one_place (a - fixed_max) (c - fixed_max) (omega arith) (omega arith)
          (entry_same page b (place_of page a) (place_of page c) (kind_entry page a la ∙ k ∙ sym (kind_entry page c lc))
          (arity_entry page a la ∙ n ∙ sym (arity_entry page c lc)) (λ z. m (rw (← kind_entry page c lc) z))
          (λ z i l. h i (rw (← arity_entry page c lc) l)) (entry_inside page f a ua la) (entry_inside page f c uc lc)) in
          omega (arith, e)

  equal_below : (m a c : ℕ) → a < m → a < types_in page → c < types_in page → tree_of page a ≡ tree_of page c → a ≡ c
  unfolding tree_rule
  equal_below zero a c l ua uc e = absurd (not-suc-le-zero l)
  equal_below (suc m) a c l ua uc e =
      let t : tree_rule page (tree_of page) a ≡ tree_rule page (tree_of page) c = sym (tree_is page f a ua) ∙ e ∙ tree_is page f c uc in
      let k : kind_of page a ≡ kind_of page c = ap kind_in t in
      let n : arity page a ≡ arity page c = ap count_in t in
      same_parts a c ua uc k n
      (λ z. let w = ap name_in t in rw (k, z) at w)
      (λ i h.
      let h' : i < arity page a = rw n h in
      let w : cond (ltb i (arity page a)) (tree_of page (child_of page a i)) none ≡ cond (ltb i (arity page c)) (tree_of page (child_of page c i)) none =
      ap (λ (x : Tree). child_in x i) t in
      equal_below m (child_of page a i) (child_of page c i) (omega (arith, l, child_lower page f a ua i h')) (omega (arith, ua, child_lower page f a ua i h'))
      (omega (arith, uc, child_lower page f c uc i h)) (rw (lt-ltb i (arity page a) h', lt-ltb i (arity page c) h) at w))

  pub equal_types : (a c : ℕ) → a < types_in page → c < types_in page → tree_of page a ≡ tree_of page c → a ≡ c
  equal_types a c ua uc e = equal_below (suc a) a c (omega arith) ua uc e
