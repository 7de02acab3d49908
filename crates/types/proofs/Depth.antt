-- Depths in a store in form: those of the first entries stand first, and none is above 32. Assumes nothing.
use mathlib.Core.Path.{◌≡◌, refl, sym, ◌∙◌}
use mathlib.Core.Bool.{Bool, true, false}
use mathlib.Core.Logic.{⊎_elim}
use mathlib.Core.List.{List, [], ◌∷◌}
use Prim.Native.Nat.{ℕ, zero, suc, ◌+◌, ◌-◌, ◌<◌, ◌≤◌}
use native.Mathlib.Nat.{eq-or-lt_of_le}
use native.Mathlib.Omega.{arith}
use lib.Dec.{ltb}
use lib.ListN.{get_or, take}
use lib.Seq.{get_or_at, get_or-take, take_all, take-append-le}
use borrow.Author.Tests.{ltb-true, ltb-false}
use Rattle.pages.specs.Bytes.{count_of}
use Rattle.kinds.specs.Kinds.{fixed_max}
use Rattle.types.specs.Store.{depth_max, offset, depth_in, depth_at, depths, Formed}
use Rattle.types.specs.Types.{types_in}
use Rattle.types.proofs.Placing.{depth_fixed, depth_entry}
use Rattle.types.proofs.Form.{parts_children, depth_known}
use Rattle.types.proofs.Filled.{depths_length}
use Rattle.types.proofs.Types.{all_good}

module _ (page : List ℕ) where
  depths_front : (n j : ℕ) → j ≤ n → take j (depths page n) ≡ depths page j
  unfolding depths
  depths_front zero j h = let z : j ≡ 0 = omega arith in rw z refl
  depths_front (suc n) j h =
      ⊎_elim (λ (e : j ≡ suc n). rw e (take_all (suc n) (depths page (suc n)) (omega (arith, depths_length page (suc n)))))
      (λ (l : j < suc n).
      take-append-le j (depths page n) (depth_at page (depths page n) (offset page n) ∷ []) (omega (arith, depths_length page n))
      ∙ depths_front n j (omega arith))
      (eq-or-lt_of_le h)

  depths_at : (n j : ℕ) → j < n → get_or (depths page n) j 0 ≡ depth_at page (depths page j) (offset page j)
  unfolding depths
  depths_at n j h =
      let x = depth_at page (depths page j) (offset page j) in
      sym (get_or-take (suc j) (depths page n) j 0 (omega arith)) ∙ rw (depths_front n (suc j) h) (get_or_at (depths page j) x [] 0 j (depths_length page j))

module _ (page : List ℕ) (f : Formed page) where
  -- over the depths of all entries, as over those before it
  pub entry_flat : (j : ℕ) → j < count_of page → depth_at page (depths page (count_of page)) (offset page j) ≤ depth_max
  entry_flat j h =
      let g = all_good page f j h in
      let b = (parts_children page f.names (fixed_max + j) (offset page j) g.parts).1 in
      rw (depth_known (depths page (count_of page)) (depths page j) j (depths_front page (count_of page) j (omega arith)) page (offset page j) b) g.flat

  pub type_flat : (t : ℕ) → t < types_in page → depth_in (depths page (count_of page)) t ≤ depth_max
  type_flat t u = go (ltb t fixed_max) refl
    where
      go : (b : Bool) → ltb t fixed_max ≡ b → depth_in (depths page (count_of page)) t ≤ depth_max
      go true e = omega (arith, depth_fixed (depths page (count_of page)) t (ltb-true t fixed_max e))
      go false e =
          let l = ltb-false t fixed_max e in
          rw (← depth_entry (depths page (count_of page)) t l, depths_at page (count_of page) (t - fixed_max) (omega arith))
          (all_good page f (t - fixed_max) (omega arith)).flat
