-- A unit's terms "in byte order of name" (document 01, "Units and pairs").
use Rattle.std.specs.Prelude.{Bool, true, false, cond, List, [], ◌∷◌, ℕ, ltb, eqb}
use Rattle.names.specs.Table.{name_at}
use Rattle.units.specs.Unit.{Term}

-- does one list of bytes come before another
unfoldable pub comes : List ℕ → List ℕ → Bool
comes [] [] = false
comes [] (y ∷ ys) = true
comes (x ∷ xs) [] = false
comes (x ∷ xs) (y ∷ ys) = cond (ltb x y) true (cond (eqb x y) (comes xs ys) false)

-- a term at its place among terms in order: before the first whose name comes after its own
unfoldable pub place : List ℕ → Term → List Term → List Term
place names x [] = x ∷ []
place names x (y ∷ ys) = cond (comes (name_at names x.symbol) (name_at names y.symbol)) (x ∷ y ∷ ys) (y ∷ place names x ys)

-- terms placed one after another among those in order
unfoldable pub placed : List ℕ → List Term → List Term → List Term
placed names done [] = done
placed names done (x ∷ xs) = placed names (place names x done) xs

-- a unit's terms in byte order of their names
abbrev pub by_name : List ℕ → List Term → List Term
by_name names xs = placed names [] xs
