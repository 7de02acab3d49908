-- Routes: "A route goes down a formula, taking one side of each sum or difference, both sides of each product or quotient (the divisor's
-- exponents negated), the operand of a negation and the target of an index, down to its values" (the mission). Here they are of nodes as
-- they are written: no answer, no group's root and no parent occurs.
use Rattle.std.specs.Prelude.{◌≡◌, List, [], ◌∷◌, ◌++◌, ◌⊎◌, ℕ, neg_ℤ, Option}
use Rattle.units.specs.Unit.{Term, term}
use Rattle.units.specs.Calls.{terms_of}
use Rattle.units.specs.declared.Unit.{Unit}
use Rattle.sums.specs.Calls.{or_empty}
use Rattle.operators.specs.Operators.{minus}
use Rattle.formulas.specs.Below.{Stands}
use Rattle.formulas.specs.declared.Written.{Written}
use Rattle.formulas.specs.declared.Written.TheVariants.{Value, Unary, Binary, Index}

-- the other operators that routes go through
abbrev pub plus : ℕ
plus = 1

abbrev pub times : ℕ
times = 3

abbrev pub over : ℕ
over = 4

-- a sum or a difference
abbrev pub Adds : ℕ → Type 0
Adds op = (op ≡ plus) ⊎ (op ≡ minus)

-- the terms of a value, no unit having none
abbrev pub value_terms : Option Unit → List Term
value_terms u = terms_of (or_empty u)

-- "the divisor's exponents negated"
abbrev pub negated : List Term → List Term
negated [] = []
negated (x ∷ xs) = term x.symbol (neg_ℤ x.exp) ∷ negated xs

-- a route from node n down to values, whose terms, signs turned in divisors, are these
pub data Route (ws : List Written) : ℕ → List Term → Type 0 where
  value : {n t : ℕ} {u : Option Unit} → Stands ws n (Value t u) → Route ws n (value_terms u)
  negation : {n a : ℕ} {xs : List Term} → Stands ws n (Unary minus a) → Route ws a xs → Route ws n xs
  left : {n op a b : ℕ} {xs : List Term} → Stands ws n (Binary op a b) → Adds op → Route ws a xs → Route ws n xs
  right : {n op a b : ℕ} {xs : List Term} → Stands ws n (Binary op a b) → Adds op → Route ws b xs → Route ws n xs
  product : {n a b : ℕ} {xs ys : List Term} → Stands ws n (Binary times a b) → Route ws a xs → Route ws b ys → Route ws n (xs ++ ys)
  quotient : {n a b : ℕ} {xs ys : List Term} → Stands ws n (Binary over a b) → Route ws a xs → Route ws b ys → Route ws n (xs ++ negated ys)
  target : {n a k : ℕ} {xs : List Term} → Stands ws n (Index a k) → Route ws a xs → Route ws n xs
