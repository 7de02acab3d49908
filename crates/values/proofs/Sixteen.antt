-- Sixteen bits as a signed number, and back. Assumes nothing.
use mathlib.Core.Path.{◌≡◌, refl, ap}
use mathlib.Core.Bool.{Bool, true, false}
use Prim.Native.Nat.{ℕ, ◌<◌}
use native.Mathlib.Omega.{arith}
use lib.IntN.{ℤ, pos, negsuc}
use lib.Dec.{ltb}
use borrow.Author.Tests.{ltb-false}
use mir.Val.{to_z, of_z, SFits}
use mir.Syntax.{w16}
use Rattle.values.specs.Value.{signed_of, raw_of}

pub signed_is : (n : ℕ) → n < 65536 → to_z w16 n ≡ signed_of n
signed_is n h = go (ltb n 32768) refl
  where
    go : (b : Bool) → ltb n 32768 ≡ b → to_z w16 n ≡ signed_of n
    go true e = rw e refl
    go false e = rw e (ap negsuc (omega (arith, ltb-false n 32768 e)))

-- ---- and back

pub raw_is : (e : ℤ) → SFits w16 e → (of_z w16 e ≡ raw_of e) × (of_z w16 e < 65536)
raw_is (pos n) h = let k = h.sfits in (refl, omega arith)
raw_is (negsuc n) h = (omega arith, omega arith)
