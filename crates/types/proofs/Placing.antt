-- The store, entry by entry: one law for each return. Assumes nothing.
use mathlib.Core.Path.{◌≡◌, refl, ap}
use mathlib.Core.Bool.{Bool, true, false, cond}
use mathlib.Core.List.{List}
use Prim.Native.Nat.{ℕ, zero, suc, ◌+◌, ◌-◌, ◌*◌, ◌<◌, ◌≤◌, max}
use native.Mathlib.Numerals.{add-one}
use native.Mathlib.Omega.{arith}
use lib.Dec.{ltb}
use lib.ListN.{get_or, take, drop}
use borrow.Author.Tests.{lt-ltb, le-ltb, ltb-true, ltb-false, eq-eqb, ne_eqb}
use Rattle.pages.specs.Bytes.{within, count_bytes}
use Rattle.pages.proofs.Quant.{all_at}
use Rattle.names.specs.Calls.{is_used}
use Rattle.kinds.specs.Kinds.{fixed_max, is_named, is_stored, fewest, most}
use Rattle.types.specs.Store.{head_bytes, child_bytes, name_bytes, children_at, kind_at, child_at, name_at, size_at, entry_at, offset, depth_in, larger, deepest, is_below, children_below, parts_at}

-- ---- sizes

module _ (page : List ℕ) (o : ℕ) where
  pub size_named : is_named (kind_at page o) ≡ true → head_bytes + name_bytes ≡ size_at page o
  unfolding size_at
  size_named h = rw h

  pub size_children : is_named (kind_at page o) ≡ false → head_bytes + child_bytes * children_at page o ≡ size_at page o
  unfolding size_at
  size_children h = rw h

  pub size_head : head_bytes ≤ size_at page o
  unfolding size_at
  size_head = omega arith

-- ---- offsets

pub offset_next : (page : List ℕ) (j : ℕ) → offset page j + size_at page (offset page j) ≡ offset page (j + 1)
unfolding offset
offset_next page j = rw (add-one j)

-- entries begin one after another
offset_up : (page : List ℕ) (i k : ℕ) → offset page i ≤ offset page (i + k)
unfolding offset
offset_up page i zero = let e : i + 0 ≡ i = omega arith in rw e (omega arith)
offset_up page i (suc k) = let e : i + suc k ≡ suc (i + k) = omega arith in rw e (omega (arith, offset_up page i k))

pub offset_le : (page : List ℕ) (i j : ℕ) → i ≤ j → offset page i ≤ offset page j
offset_le page i j h = let e : i + (j - i) ≡ j = omega arith in rw e at (offset_up page i (j - i))

-- an entry before the end lies before it
pub offset_in : (page : List ℕ) (i j n : ℕ) → i < j → offset page j ≤ n → offset page i + size_at page (offset page i) ≤ n
offset_in page i j n h l = omega (arith, offset_next page i, offset_le page (i + 1) j (omega arith))

-- ---- the parts of an entry

module _ (page : List ℕ) (n t o : ℕ) where
  pub parts_unstored : is_stored (kind_at page o) ≡ false → false ≡ parts_at page n t o
  unfolding parts_at
  parts_unstored h = rw h

  module _ (s : is_stored (kind_at page o) ≡ true) where
    module _ (m : is_named (kind_at page o) ≡ true) where
      pub parts_childful : (children_at page o ≡ 0 → ⊥) → false ≡ parts_at page n t o
      unfolding parts_at
      parts_childful h = rw (s, m, ne_eqb (children_at page o) 0 h)

      pub parts_name : children_at page o ≡ 0 → is_used n (name_at page o) ≡ parts_at page n t o
      unfolding parts_at
      parts_name h = rw (s, m, eq-eqb (children_at page o) 0 h)

    module _ (m : is_named (kind_at page o) ≡ false) where
      pub parts_uncounted : within (fewest (kind_at page o)) (most (kind_at page o)) (children_at page o) ≡ false → false ≡ parts_at page n t o
      unfolding parts_at
      parts_uncounted h = rw (s, m, h)

      pub parts_counted : within (fewest (kind_at page o)) (most (kind_at page o)) (children_at page o) ≡ true → children_below page o t ≡ parts_at page n t o
      unfolding parts_at
      parts_counted h = rw (s, m, h)

-- ---- depth

module _ (ds : List ℕ) (t : ℕ) where
  pub depth_fixed : t < fixed_max → 1 ≡ depth_in ds t
  unfolding depth_in
  depth_fixed h = rw (lt-ltb t fixed_max h)

  pub depth_entry : fixed_max ≤ t → get_or ds (t - fixed_max) 0 ≡ depth_in ds t
  unfolding depth_in
  depth_entry h = rw (le-ltb t fixed_max h)

pub deepest_none : (page ds : List ℕ) (o : ℕ) → 0 ≡ deepest page ds o 0
unfolding deepest
deepest_none page ds o = refl

pub deepest_next : (page ds : List ℕ) (o i : ℕ) → larger (deepest page ds o i) (depth_in ds (child_at page o i)) ≡ deepest page ds o (i + 1)
unfolding deepest
deepest_next page ds o i = rw (add-one i)

pub larger_is : (a b : ℕ) → max b a ≡ larger a b
larger_is a b = go (ltb a b) refl
  where
    go : (x : Bool) → ltb a b ≡ x → max b a ≡ cond x b a
    go true e = let l = ltb-true a b e in omega (arith, l)
    go false e = let l = ltb-false a b e in omega (arith, l)

pub larger_most : (a b n : ℕ) → a < n → b < n → larger a b < n
larger_most a b n h k = go (ltb a b)
  where
    go : (x : Bool) → cond x b a < n
    go true = k
    go false = h

-- a child of an entry whose children are below t is
pub child_below : (page : List ℕ) (o t i : ℕ) → children_below page o t ≡ true → i < children_at page o → child_at page o i < t
child_below page o t i h l = ltb-true (child_at page o i) t (all_at (is_below page o t) (children_at page o) i h l)

-- ---- entries as parts of the page

pub offset_start : (page : List ℕ) → count_bytes ≡ offset page 0
unfolding offset
offset_start page = refl

pub entry_part : (page : List ℕ) (at next : ℕ) → next ≡ at + size_at page at → take (next - at) (drop at page) ≡ entry_at page at
entry_part page at next e =
    let s : next - at ≡ size_at page at = omega arith in
    ap (λ (k : ℕ). take k (drop at page)) s
