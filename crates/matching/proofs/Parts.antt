-- What a type's kind says of its parts. Assumes nothing.
use mathlib.Core.Path.{◌≡◌, refl}
use mathlib.Core.Bool.{true, false}
use mathlib.Core.List.{List}
use Prim.Native.Nat.{ℕ, ◌<◌, ◌≤◌}
use native.Mathlib.Omega.{arith}
use lib.Dec.{leb}
use borrow.Author.Tests.{le-leb, lt-leb, leb-true}
use Rattle.pages.specs.Bytes.{within}
use Rattle.pages.proofs.Quant.{and_true}
use Rattle.pages.proofs.Bytes.{and_false}
use Rattle.kinds.specs.Kinds.{handle, is_record, is_enum, is_map, is_named, fewest, most, is_set}
use Rattle.types.specs.Store.{Formed}
use Rattle.types.specs.Types.{types_in, kind_of, arity, Held}
use Rattle.types.proofs.Types.{arity_within, held_by}

-- what lies between two codes lies between wider ones
within_wider : (a b x y k : ℕ) → x ≤ a → b ≤ y → within a b k ≡ true → within x y k ≡ true
within_wider a b x y k l u h =
    let d = and_true (leb a k) (leb k b) h in
    let p = leb-true a k d.0 in
    let q = leb-true k b d.1 in
    rw (le-leb x k (omega arith), le-leb k y (omega arith))

-- what lies between two codes lies in no range below or above them
pub within_below : (a b x y k : ℕ) → y < a → within a b k ≡ true → within x y k ≡ false
within_below a b x y k l h =
    let p = leb-true a k (and_true (leb a k) (leb k b) h).0 in
    rw (lt-leb k y (omega arith)) (and_false (leb x k))

pub within_above : (a b x y k : ℕ) → b < x → within a b k ≡ true → within x y k ≡ false
within_above a b x y k l h =
    let p = leb-true k b (and_true (leb a k) (leb k b) h).1 in
    rw (lt-leb x k (omega arith)) refl

pub record_named : (k : ℕ) → is_record k ≡ true → is_named k ≡ true
record_named k = within_wider 32 33 32 37 k (omega arith) (omega arith)

pub enum_named : (k : ℕ) → is_enum k ≡ true → is_named k ≡ true
enum_named k = within_wider 34 35 32 37 k (omega arith) (omega arith)

pub handle_named : (k : ℕ) → k ≡ handle → is_named k ≡ true
handle_named k e = rw e refl

module _ (page : List ℕ) (f : Formed page) (t : ℕ) (u : t < types_in page) where
  -- a type of a kind from Array to CResult has one child
  pub one_child : (x y : ℕ) → 19 ≤ x → y ≤ 24 → within x y (kind_of page t) ≡ true → arity page t ≡ 1
  unfolding fewest most
  one_child x y l m h =
      let d = and_true (leb x (kind_of page t)) (leb (kind_of page t) y) h in
      let k = leb-true (kind_of page t) y d.1 in
      let w = arity_within page f t u in
      let low : leb 25 (kind_of page t) ≡ false = lt-leb 25 (kind_of page t) (omega arith) in
      let p : (1 ≤ arity page t) × (arity page t ≤ 1) = rw (low, within_wider x y 19 24 (kind_of page t) l m h) at w in
      omega (arith, p.0, p.1)

  -- and a map has two
  pub two_children : is_map (kind_of page t) ≡ true → arity page t ≡ 2
  unfolding fewest most
  two_children h =
      let w = arity_within page f t u in
      let p : (2 ≤ arity page t) × (arity page t ≤ 2) = rw h at w in
      omega (arith, p.0, p.1)

-- a set has an element
pub set_child : {page offsets : List ℕ} → ∥ Held page offsets ∥₁ → (t : ℕ) → t < types_in page → is_set (kind_of page t) ≡ true → 0 < arity page t
set_child h t u k = omega (arith, one_child _ (held_by h).sound t u 21 22 (omega arith) (omega arith) k)
