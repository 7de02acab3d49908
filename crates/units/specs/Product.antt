-- Products and quotients from the SI Brochure, 9th edition, 2.3.3: a unit is what its exponents say, dim Q = T^α L^β M^γ ..,
-- and in a product the exponents of each symbol add, in a quotient they subtract. A unit of any number of places, over any
-- number of symbols.
use Rattle.std.specs.Prelude.{Bool, true, false, ◌||◌, not, cond, List, [], ◌∷◌, ◌++◌, ℕ, zero, suc, ltb, length, ℤ, ◌+ℤ◌, ◌-ℤ◌}
use Rattle.refusals.specs.Lowest.{◌when◌, lowest}
use Rattle.refusals.specs.declared.Refusal.TheVariants.{BadUnit, Exponent, Symbols}
use Rattle.refusals.specs.Numbers.{Verdict}
use Rattle.units.specs.Unit.{Term, term, is_zero, outside, formed, exponent}

-- the exponent of one symbol in the product or, with true, in the quotient
abbrev pub combine : Bool → ℤ → ℤ → ℤ
combine false e f = e +ℤ f
combine true e f = e -ℤ f

-- the exponent of every symbol in the product or quotient of two units
abbrev pub exponents : Bool → List Term → List Term → ℕ → ℤ
exponents quotient xs ys s = combine quotient (exponent s xs) (exponent s ys)

-- a symbol with its exponent, if it has one
abbrev pub power : ℕ → ℤ → List Term
power s e = cond (is_zero e) [] (term s e ∷ [])

-- exponents written down: the symbols below n in order, those with exponent zero left out
abbrev pub written : ℕ → (ℕ → ℤ) → List Term
written zero f = []
written (suc n) f = written n f ++ power n (f n)

-- some exponent is outside its limits
abbrev pub any_outside : List Term → Bool
any_outside [] = false
any_outside (x ∷ xs) = outside x.exp || any_outside xs

-- the product or quotient, whatever the limits say, over n symbols
unfoldable pub product_of : ℕ → Bool → List Term → List Term → List Term
product_of n quotient xs ys = written n (exponents quotient xs ys)

-- why it is refused, if it is, where a unit has at most p symbols: 5 of the two units, 8 and 9 of the result
unfoldable pub product_verdict : ℕ → ℕ → Bool → List Term → List Term → Verdict
product_verdict p n quotient xs ys =
    lowest
    ((BadUnit when not (formed p n xs))
    ∷ (BadUnit when not (formed p n ys))
    ∷ (Exponent when any_outside (product_of n quotient xs ys))
    ∷ (Symbols when ltb p (length (product_of n quotient xs ys)))
    ∷ [])
