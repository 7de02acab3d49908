-- Terms in order of their names are as many as before, in use and within the limits as before. Assumes nothing.
use mathlib.Core.Path.{◌≡◌, refl, ◌∙◌}
use mathlib.Core.Bool.{Bool, true, false, cond}
use mathlib.Core.List.{List, [], ◌∷◌}
use Prim.Native.Nat.{ℕ, ◌+◌}
use native.Mathlib.Nat.{zero-add}
use native.Mathlib.Omega.{arith}
use lib.ListN.{length}
use Rattle.names.specs.Table.{name_at}
use Rattle.units.specs.Unit.{Term, outside, in_use}
use Rattle.units.specs.Product.{any_outside}
use Rattle.order.specs.Order.{comes, place, placed, by_name}
use Rattle.order.proofs.Order.{place_length, place_in_use}
use Rattle.units.proofs.Order.{or_both}
use Rattle.units.proofs.Used.{in_use_head, in_use_tail}

module _ (page : List ℕ) where
  placed_length : (done xs : List Term) → length (placed page done xs) ≡ length done + length xs
  unfolding placed
  placed_length done [] = omega arith
  placed_length done (x ∷ xs) = let z = placed_length (place page x done) xs in omega (arith, place_length page x done)

  pub by_name_length : (xs : List Term) → length (by_name page xs) ≡ length xs
  by_name_length xs = placed_length [] xs ∙ zero-add (length xs)

  placed_used : (n : ℕ) (done xs : List Term) → in_use n done ≡ true → in_use n xs ≡ true → in_use n (placed page done xs) ≡ true
  unfolding placed
  placed_used n done [] d h = d
  placed_used n done (x ∷ xs) d h = placed_used n (place page x done) xs (place_in_use n page x done (in_use_head n x xs h) d) (in_use_tail n x xs h)

  pub by_name_used : (n : ℕ) (xs : List Term) → in_use n xs ≡ true → in_use n (by_name page xs) ≡ true
  unfolding in_use
  by_name_used n xs h = placed_used n [] xs refl h

  place_inside : (x : Term) (ys : List Term) → outside x.exp ≡ false → any_outside ys ≡ false → any_outside (place page x ys) ≡ false
  unfolding place
  place_inside x [] l h = rw l
  place_inside x (y ∷ ys) l h =
      let z = or_both (outside y.exp) (any_outside ys) h in
      go (comes (name_at page x.symbol) (name_at page y.symbol)) z.0 (place_inside x ys l z.1)
    where
      go : (b : Bool) → outside y.exp ≡ false → any_outside (place page x ys) ≡ false → any_outside (cond b (x ∷ y ∷ ys) (y ∷ place page x ys)) ≡ false
      go true k ih = rw l h
      go false k ih = rw k ih

  placed_inside : (done xs : List Term) → any_outside done ≡ false → any_outside xs ≡ false → any_outside (placed page done xs) ≡ false
  unfolding placed
  placed_inside done [] d h = d
  placed_inside done (x ∷ xs) d h =
      let z = or_both (outside x.exp) (any_outside xs) h in
      placed_inside (place page x done) xs (place_inside x done z.0 d) z.1

  pub by_name_inside : (xs : List Term) → any_outside xs ≡ false → any_outside (by_name page xs) ≡ false
  by_name_inside xs h = placed_inside [] xs refl h
