-- Numbers in use. Assumes nothing.
use mathlib.Core.Path.{◌≡◌, refl}
use mathlib.Core.Bool.{Bool, true, false, ◌&&◌}
use Prim.Native.Nat.{ℕ, ◌<◌, ◌≤◌}
use native.Mathlib.Omega.{arith}
use lib.Dec.{ltb}
use borrow.Author.Tests.{ltb-true, lt-ltb}
use Rattle.pages.proofs.Quant.{and_true}
use Rattle.names.specs.Table.{names_max}
use Rattle.names.specs.Calls.{is_used}

module _ (used s : ℕ) where
  -- a number in use is below the number of those in use, and one that a table can have
  pub used_below : is_used used s ≡ true → (s < used) × (s < names_max)
  unfolding is_used
  used_below h = let a = and_true (ltb s used) (ltb s names_max) h in (ltb-true s used a.0, ltb-true s names_max a.1)

  -- and every such number is in use
  pub used_is : s < used → s < names_max → is_used used s ≡ true
  unfolding is_used
  used_is h k = rw (lt-ltb s used h, lt-ltb s names_max k)

  -- where no more are in use than there can be, those below their number are
  pub used_ltb : used ≤ names_max → is_used used s ≡ ltb s used
  unfolding is_used
  used_ltb h = go (ltb s used) refl
    where
      go : (b : Bool) → ltb s used ≡ b → b && ltb s names_max ≡ b
      go true e = let l = ltb-true s used e in lt-ltb s names_max (omega arith)
      go false e = refl

-- of more numbers in use, one stays in use
pub used_more : (m n s : ℕ) → m ≤ n → is_used m s ≡ true → is_used n s ≡ true
used_more m n s h u = let a = used_below m s u in used_is n s (omega arith) a.1
