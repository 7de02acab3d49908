-- Group sums and convertibility (document 01, "Units and pairs"; `canonicalize` and `is_convertible_to` of the source's
-- units.rs), over any number n of symbols and any roots.
use Rattle.std.specs.Prelude.{Bool, false, List, [], ◌∷◌, ℕ, ◌<◌, eqb, ℤ, pos, negsuc, ◌+ℤ◌}
use Rattle.pages.specs.Quant.{all_to}
use Rattle.units.specs.Unit.{Term, term, exponent}
use Rattle.units.specs.Product.{written}
use Rattle.units.specs.Calls.{terms_of, unit_of}
use Rattle.units.specs.declared.Unit.{Unit}
use Rattle.groups.specs.Groups.{Pair, Joined}
use Rattle.sums.specs.declared.Sums.{Sums}

-- ---- by roots, as they are computed

-- units.rs: "Rewrites every symbol through the conversion table". A unit's terms, each symbol's root in its place
abbrev pub rooted : (ℕ → ℕ) → List Term → List Term
rooted root [] = []
rooted root (x ∷ xs) = term (root x.symbol) x.exp ∷ rooted root xs

-- the sum of the exponents of the symbols whose root is g
abbrev pub sum_at : (ℕ → ℕ) → ℕ → List Term → ℤ
sum_at root g xs = exponent g (rooted root xs)

-- "Group sums (`canonicalize`)": each root below n whose sum is not zero, in order, with that sum
unfoldable pub group_sums : ℕ → (ℕ → ℕ) → List Term → List Term
group_sums n root xs = written n (λ g. sum_at root g xs)

-- are two whole numbers equal
abbrev pub equal : ℤ → ℤ → Bool
equal (pos a) (pos b) = eqb a b
equal (pos a) (negsuc b) = false
equal (negsuc a) (pos b) = false
equal (negsuc a) (negsuc b) = eqb a b

-- "Two units are convertible (`is_convertible_to`) exactly if their group sums agree"
unfoldable pub convertible : ℕ → (ℕ → ℕ) → List Term → List Term → Bool
convertible n root xs ys = all_to n (λ g. equal (sum_at root g xs) (sum_at root g ys))

-- ---- by groups alone, whatever their roots are

-- z is the sum of the exponents of the terms whose symbol is in the group of s
pub data SumIn (ps : List Pair) (s : ℕ) : List Term → ℤ → Type 0 where
  none : SumIn ps s [] (pos 0)
  inside : {x : Term} {xs : List Term} {z : ℤ} → Joined ps s x.symbol → SumIn ps s xs z → SumIn ps s (x ∷ xs) (x.exp +ℤ z)
  outside : {x : Term} {xs : List Term} {z : ℤ} → ¬ (Joined ps s x.symbol) → SumIn ps s xs z → SumIn ps s (x ∷ xs) z

-- two units have equal exponent sums in every group, a group being that of a symbol below n
unfoldable pub SameSums : ℕ → List Pair → List Term → List Term → Type 0
SameSums n ps xs ys = (s : ℕ) → s < n → (z : ℤ) × SumIn ps s xs z × SumIn ps s ys z

-- ---- how src/ holds them

-- the struct that holds group sums, with zeros behind them
abbrev pub sums_of : List Term → Sums
sums_of l = record { terms = unit_of l }

-- the group sums that it holds: those at its first `count` places
abbrev pub sums_in : Sums → List Term
sums_in w = terms_of w.terms

-- the places of a unit, as sums
abbrev pub sums_from : Unit → Sums
sums_from u = record { terms = u }

-- those of sums, as a unit
abbrev pub unit_from : Sums → Unit
unit_from w = w.terms
