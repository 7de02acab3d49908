-- What `by_name` gives is in order, no name coming before the one in front of it (`by_name_ascends`), and has the exponent of
-- every symbol that the unit has (`by_name_exponent`). Assumes nothing.
use mathlib.Core.Path.{◌≡◌, refl, sym, ap, subst, ◌∙◌}
use mathlib.Core.Bool.{Bool, true, false, cond}
use mathlib.Core.List.{List, [], ◌∷◌}
use Prim.Native.Nat.{ℕ}
use native.Mathlib.Omega.{arith}
use lib.Dec.{T, ltb, eqb}
use lib.IntN.{◌+ℤ◌, +ℤ_assoc, +ℤ_comm, +ℤ_idl, +ℤ_idr}
use borrow.Author.Tests.{ltb-true, eqb-true, le-ltb, eq-eqb, ne_eqb}
use Rattle.names.specs.Table.{name_at}
use Rattle.units.specs.Unit.{Term, part, exponent}
use Rattle.units.proofs.Tested.{swap}
use Rattle.order.specs.Order.{comes, place, placed, by_name}

-- ---- in order

-- of two names at most one comes before the other
comes_once : (a b : List ℕ) → comes a b ≡ true → comes b a ≡ false
unfolding comes
comes_once [] [] h = refl
comes_once [] (y ∷ b) h = refl
comes_once (x ∷ a) [] h = absurd (subst T (sym h) tt)
comes_once (x ∷ a) (y ∷ b) h = go (ltb x y) refl (eqb x y) refl h (comes_once a b)
  where
    go : (l : Bool) → ltb x y ≡ l → (e : Bool) → eqb x y ≡ e → cond l true (cond e (comes a b) false) ≡ true → (comes a b ≡ true → comes b a ≡ false)
        → cond (ltb y x) true (cond (eqb y x) (comes b a) false) ≡ false
    go true l e q h ih = let k = ltb-true x y l in rw (le-ltb y x (omega arith), ne_eqb y x (λ z. omega arith))
    go false l true q h ih = let k = eqb-true x y q in rw (le-ltb y x (omega arith), eq-eqb y x (sym k)) (ih h)
    go false l false q h ih = absurd (subst T (sym h) tt)

-- no name comes before the one in front of it
pub data Ascends (page : List ℕ) : List Term → Type 0 where
  ascends_none : Ascends page []
  ascends_one : {x : Term} → Ascends page (x ∷ [])
  ascends_more : {x y : Term} {ys : List Term} → comes (name_at page y.symbol) (name_at page x.symbol) ≡ false → Ascends page (y ∷ ys) → Ascends page (x ∷ y ∷ ys)

module _ (page : List ℕ) where
  tail_ascends : {x : Term} {xs : List Term} → Ascends page (x ∷ xs) → Ascends page xs
  tail_ascends ascends_one = ascends_none
  tail_ascends (ascends_more h a) = a

  -- a term at its place behind a term that comes no later
  behind : (x y : Term) (ys : List Term) → comes (name_at page x.symbol) (name_at page y.symbol) ≡ false → Ascends page (y ∷ ys) → Ascends page (place page x ys) → Ascends page (y ∷ place page x ys)
  unfolding place
  behind x y [] h a p = ascends_more h ascends_one
  behind x y (z ∷ ys) h (ascends_more k a) p = go (comes (name_at page x.symbol) (name_at page z.symbol)) p
    where
      go : (b : Bool) → Ascends page (cond b (x ∷ z ∷ ys) (z ∷ place page x ys)) → Ascends page (y ∷ cond b (x ∷ z ∷ ys) (z ∷ place page x ys))
      go true p = ascends_more h p
      go false p = ascends_more k p

  place_ascends : (x : Term) (ys : List Term) → Ascends page ys → Ascends page (place page x ys)
  unfolding place
  place_ascends x [] a = ascends_one
  place_ascends x (y ∷ ys) a = go (comes (name_at page x.symbol) (name_at page y.symbol)) refl (place_ascends x ys (tail_ascends a))
    where
      go : (b : Bool) → comes (name_at page x.symbol) (name_at page y.symbol) ≡ b → Ascends page (place page x ys) → Ascends page (cond b (x ∷ y ∷ ys) (y ∷ place page x ys))
      go true h p = ascends_more (comes_once (name_at page x.symbol) (name_at page y.symbol) h) a
      go false h p = behind x y ys h a p

  placed_ascends : (done xs : List Term) → Ascends page done → Ascends page (placed page done xs)
  unfolding placed
  placed_ascends done [] a = a
  placed_ascends done (x ∷ xs) a = placed_ascends (place page x done) xs (place_ascends x done a)

  pub by_name_ascends : (xs : List Term) → Ascends page (by_name page xs)
  by_name_ascends xs = placed_ascends [] xs ascends_none

  -- ---- the same unit

  place_exponent : (s : ℕ) (x : Term) (ys : List Term) → exponent s (place page x ys) ≡ part s x +ℤ exponent s ys
  unfolding place
  place_exponent s x [] = refl
  place_exponent s x (y ∷ ys) = go (comes (name_at page x.symbol) (name_at page y.symbol)) (place_exponent s x ys)
    where
      go : (b : Bool) → exponent s (place page x ys) ≡ part s x +ℤ exponent s ys → exponent s (cond b (x ∷ y ∷ ys) (y ∷ place page x ys)) ≡ part s x +ℤ (part s y +ℤ exponent s ys)
      go true ih = refl
      go false ih = ap (λ z. part s y +ℤ z) ih ∙ swap (part s y) (part s x) (exponent s ys)

  placed_exponent : (s : ℕ) (done xs : List Term) → exponent s (placed page done xs) ≡ exponent s done +ℤ exponent s xs
  unfolding placed
  placed_exponent s done [] = sym (+ℤ_idr (exponent s done))
  placed_exponent s done (x ∷ xs) =
      placed_exponent s (place page x done) xs
      ∙ ap (λ z. z +ℤ exponent s xs) (place_exponent s x done ∙ +ℤ_comm (part s x) (exponent s done))
      ∙ +ℤ_assoc (exponent s done) (part s x) (exponent s xs)

  pub by_name_exponent : (s : ℕ) (xs : List Term) → exponent s (by_name page xs) ≡ exponent s xs
  by_name_exponent s xs = placed_exponent s [] xs ∙ +ℤ_idl (exponent s xs)
