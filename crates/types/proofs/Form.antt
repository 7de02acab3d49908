-- The parts of an entry and its depth, in the test of a store's form. Assumes nothing.
use mathlib.Core.Path.{◌≡◌, refl, sym, ◌∙◌, ap, ap₂}
use mathlib.Core.Bool.{Bool, true, false, ◌&&◌, cond}
use mathlib.Core.List.{List}
use Prim.Native.Nat.{ℕ, zero, suc, ◌+◌, ◌-◌, ◌*◌, ◌<◌, ◌≤◌}
use native.Mathlib.Numerals.{add-one}
use native.Mathlib.Omega.{arith}
use lib.Dec.{ltb, leb, eqb}
use lib.ListN.{length, get_or, take}
use lib.Seq.{get_or-take}
use Rattle.std.proofs.Math.Bool.{and_comm}
use borrow.Author.Tests.{lt-ltb, ltb-true, le-leb, lt-leb, leb-true, eqb-true, ltb-false}
use Rattle.pages.specs.Quant.{all_to}
use Rattle.pages.specs.Bytes.{within}
use Rattle.pages.proofs.Quant.{and_true, all_none, all_each}
use Rattle.names.specs.Calls.{is_used}
use Rattle.kinds.specs.Kinds.{fixed_max, is_named, is_stored, fewest, most}
use Rattle.types.specs.Store.{depth_max, head_bytes, child_bytes, children_at, kind_at, child_at, name_at, size_at, offset, depth_in, larger, deepest, depth_at, depths, is_below, children_below, parts_at, good_at, Reached}
use Rattle.types.specs.Survey.{whole_at, new_at}
use Rattle.types.proofs.Placing.{size_head, size_children, offset_next, child_below, depth_fixed, depth_entry}

-- ---- a good entry is whole and new

pub good_both : (page : List ℕ) (n j : ℕ) → good_at page n j ≡ (whole_at page n j && new_at page j)
unfolding good_at
good_both page n j =
    go (leb (offset page (suc j)) (length page)) (parts_at page n (fixed_max + j) (offset page j)) (new_at page j)
    (leb (depth_at page (depths page j) (offset page j)) depth_max)
  where
    go : (a b c d : Bool) → (a && (b && (c && d))) ≡ ((a && (b && d)) && c)
    go false b c d = refl
    go true false c d = refl
    go true true c d = and_comm c d

-- ---- an entry with its parts

-- its children, if it has any, are below it and lie in it
pub parts_children : (page : List ℕ) (n t o : ℕ) → parts_at page n t o ≡ true → (head_bytes + child_bytes * children_at page o ≤ size_at page o)
    × (children_below page o t ≡ true)
unfolding parts_at
parts_children page n t o h = go (is_named (kind_at page o)) refl (and_true (is_stored (kind_at page o)) _ h).1
  where
    go : (b : Bool) → is_named (kind_at page o) ≡ b
        → cond b (eqb (children_at page o) 0 && is_used n (name_at page o))
        (within (fewest (kind_at page o)) (most (kind_at page o)) (children_at page o) && children_below page o t) ≡ true
        → (head_bytes + child_bytes * children_at page o ≤ size_at page o) × (children_below page o t ≡ true)
    go true e p =
        let z : children_at page o ≡ 0 = eqb-true (children_at page o) 0 (and_true (eqb (children_at page o) 0) _ p).0 in
        (omega (arith, z, size_head page o), ap (λ (k : ℕ). all_to k (is_below page o t)) z ∙ all_none (is_below page o t))
    go false e p = (omega (arith, size_children page o e), (and_true (within (fewest (kind_at page o)) (most (kind_at page o)) (children_at page o)) _ p).1)

-- what is below t is below what is larger
pub below_more : (page : List ℕ) (o t u : ℕ) → t ≤ u → children_below page o t ≡ true → children_below page o u ≡ true
below_more page o t u h b =
    all_each (children_at page o) (is_below page o u)
    (λ i l. lt-ltb (child_at page o i) u (lower i (child_below page o t i b l)))
  where
    lower : (i : ℕ) → child_at page o i < t → child_at page o i < u
    lower i k = omega arith

-- ---- depths as far as they are known

module _ (ds es : List ℕ) (j : ℕ) (known : take j ds ≡ es) where
  pub depth_same : (t : ℕ) → t < fixed_max + j → depth_in ds t ≡ depth_in es t
  depth_same t h = go (ltb t fixed_max) refl
    where
      go : (b : Bool) → ltb t fixed_max ≡ b → depth_in ds t ≡ depth_in es t
      go true e = let l = ltb-true t fixed_max e in sym (depth_fixed ds t l) ∙ depth_fixed es t l
      go false e =
          let l : fixed_max ≤ t = ltb-false t fixed_max e in
          sym (depth_entry ds t l) ∙ sym (get_or-take j ds (t - fixed_max) 0 (omega arith)) ∙ ap (λ (x : List ℕ). get_or x (t - fixed_max) 0) known ∙ depth_entry es t l

  module _ (page : List ℕ) (o : ℕ) where
    deepest_same : (k : ℕ) → ((i : ℕ) → i < k → child_at page o i < fixed_max + j) → deepest page ds o k ≡ deepest page es o k
    unfolding deepest
    deepest_same zero h = refl
    deepest_same (suc k) h = ap₂ larger (deepest_same k (λ i l. h i (omega arith))) (depth_same (child_at page o k) (h k (omega arith)))

    pub depth_known : children_below page o (fixed_max + j) ≡ true → depth_at page ds o ≡ depth_at page es o
    depth_known b = ap suc (deepest_same (children_at page o) (λ i l. child_below page o (fixed_max + j) i b l))

module _ (page ds : List ℕ) (j o : ℕ) (r : Reached page ds j o) where
  module _ (n : ℕ) (p : parts_at page n (fixed_max + j) o ≡ true) where
    below : children_below page o (fixed_max + j) ≡ true
    below = (parts_children page n (fixed_max + j) o p).1

    pub depth_is : depth_at page ds o ≡ depth_at page (depths page j) o
    depth_is = depth_known ds (depths page j) j r.known page o below

    -- what its depth asks for
    pub depth_asks : o + size_at page o ≤ length page → (o + head_bytes ≤ length page) × (o + head_bytes + child_bytes * children_at page o ≤ length page)
        × (children_below page o (fixed_max + length ds) ≡ true)
    depth_asks l = (
      omega (arith, l, size_head page o),
      omega (arith, l, (parts_children page n (fixed_max + j) o p).0),
      below_more page o (fixed_max + j) (fixed_max + length ds) (omega (arith, r.few, r.size)) below,
    )

  -- ---- entry j

  module _ (n : ℕ) where
    next : offset page (suc j) ≡ o + size_at page o
    next = rw r.at (rw (add-one j) at (sym (offset_next page j)))

    pub whole_cut : length page < o + size_at page o → false ≡ whole_at page n j
    whole_cut h = rw (next, lt-leb (o + size_at page o) (length page) h)

    pub whole_headless : length page < o + head_bytes → false ≡ whole_at page n j
    whole_headless h = whole_cut (omega (arith, size_head page o))

    module _ (l : o + size_at page o ≤ length page) where
      pub whole_partless : parts_at page n (fixed_max + j) o ≡ false → false ≡ whole_at page n j
      whole_partless p = rw (next, le-leb (o + size_at page o) (length page) l, ← r.at, p)

      pub whole_rest : parts_at page n (fixed_max + j) o ≡ true → leb (depth_at page ds o) depth_max ≡ whole_at page n j
      whole_rest p = rw (next, le-leb (o + size_at page o) (length page) l, ← r.at, p, depth_is n p)

    -- what a whole entry has
    pub whole_parts : whole_at page n j ≡ true → (o + size_at page o ≤ length page) × (parts_at page n (fixed_max + j) o ≡ true) × (depth_at page ds o ≤ depth_max)
    whole_parts h =
        let a = and_true (leb (offset page (suc j)) (length page)) _ h in
        let b = and_true (parts_at page n (fixed_max + j) (offset page j)) _ a.1 in
        let p : parts_at page n (fixed_max + j) o ≡ true = rw r.at b.0 in
        let e : depth_at page (depths page j) o ≤ depth_max = rw r.at (leb-true (depth_at page (depths page j) (offset page j)) depth_max b.1) in
        (rw next at (leb-true (offset page (suc j)) (length page) a.0), p, rw (depth_is n p) e)
