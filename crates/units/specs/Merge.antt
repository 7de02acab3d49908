-- The product as it is computed: the terms of both units in order of their symbols, those of one symbol joined.
-- proofs/Si.antt shows that it is the product of specs/Product.antt.
use Rattle.std.specs.Prelude.{Bool, true, false, cond, List, [], ◌∷◌, ℕ, ltb, ℤ, neg_ℤ, ◌+ℤ◌}
use Rattle.units.specs.Unit.{Term, term, is_zero}

-- an exponent as a product or, with true, as a quotient takes it
abbrev pub turn : Bool → ℤ → ℤ
turn false e = e
turn true e = neg_ℤ e

-- a unit's terms, each turned so
abbrev pub turned : Bool → List Term → List Term
turned quotient [] = []
turned quotient (y ∷ ys) = term y.symbol (turn quotient y.exp) ∷ turned quotient ys

-- a term before the rest: zero removes the symbol
abbrev pub joined : ℕ → ℤ → List Term → List Term
joined s e rest = cond (is_zero e) rest (term s e ∷ rest)

-- x, with what comes after it, against a list
abbrev pub weave : Term → (List Term → List Term) → List Term → List Term
weave x rest [] = x ∷ rest []
weave x rest (y ∷ ys) =
    cond (ltb x.symbol y.symbol) (x ∷ rest (y ∷ ys))
    (cond (ltb y.symbol x.symbol) (y ∷ weave x rest ys) (joined x.symbol (x.exp +ℤ y.exp) (rest ys)))

-- the terms of two units in order of their symbols, joined
abbrev pub merge : List Term → List Term → List Term
merge [] ys = ys
merge (x ∷ xs) ys = weave x (merge xs) ys
