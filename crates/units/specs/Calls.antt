-- How the structs of src/ hold a unit, and what the calls on units answer (document 01, "Units and pairs").
use Rattle.refusals.specs.declared.Refusal.{Refusal}
use Rattle.std.specs.Prelude.{Bool, not, cond, List, [], ◌∷◌, ℕ, zero, suc, ◌+◌, ◌-◌, eqb, leb, length, get_or, set, ℤ, pos, true, Option, Some, None, Result, Ok}
use Rattle.refusals.specs.Lowest.{◌when◌, lowest, answer_of}
use Rattle.refusals.specs.declared.Refusal.TheVariants.{BadUnit}
use Rattle.refusals.specs.Numbers.{Verdict}
use Rattle.pages.specs.Pad.{pad}
use Rattle.names.specs.Table.{names_max}
use Rattle.units.specs.Unit.{places_max, Term, term, formed, exponent}
use Rattle.units.specs.Product.{product_of, product_verdict, any_outside}
use Rattle.units.specs.declared.Unit.{Unit}
use Rattle.units.specs.declared.Sum.{Sum}

-- ---- a unit in its places

-- the terms at n places of two arrays, from place i on
abbrev pub terms : ℕ → ℕ → List ℕ → List ℤ → List Term
terms zero i ss es = []
terms (suc n) i ss es = term (get_or ss i 0) (get_or es i (pos 0)) ∷ terms n (suc i) ss es

-- the terms of a unit: those at its first `count` places
abbrev pub terms_of : Unit → List Term
terms_of u = terms u.count 0 u.symbols u.exponents

-- those from place i on
abbrev pub terms_from : Unit → ℕ → List Term
terms_from u i = terms (u.count - i) i u.symbols u.exponents

-- how many of its symbols stand in a place: as many as it says, and no more than there are places
abbrev pub filled : Unit → ℕ
filled u = cond (leb u.count places_max) u.count places_max

-- the terms that stand there, whose symbols can be looked up
abbrev pub present : Unit → List Term
present u = terms (filled u) 0 u.symbols u.exponents

-- the symbols of terms
abbrev pub syms : List Term → List ℕ
syms [] = []
syms (x ∷ xs) = x.symbol ∷ syms xs

-- the exponents of terms
abbrev pub exps : List Term → List ℤ
exps [] = []
exps (x ∷ xs) = x.exp ∷ exps xs

-- the unit that holds these terms, with zeros behind them
abbrev pub unit_of : List Term → Unit
unit_of l = record { count = length l; symbols = pad places_max 0 (syms l); exponents = pad places_max (pos 0) (exps l) }

-- the unit with one term more, at the place after the last
abbrev pub with_term : Unit → ℕ → ℤ → Unit
with_term u s e = record { count = u.count + 1; symbols = set u.symbols u.count s; exponents = set u.exponents u.count e }

-- the terms gathered so far, as `Sum` holds them: also more than there are places
abbrev pub sum_of : List Term → Sum
sum_of l = record { unit = unit_of l; wide = any_outside l }

-- ---- is it a unit

-- 5 for a unit that breaks its form
unfoldable pub form_verdict : Unit → Verdict
form_verdict u = lowest ((BadUnit when not (formed places_max names_max (terms_of u))) ∷ [])

-- ---- product and quotient

-- the product of two units by value or, with true, their quotient
unfoldable pub product_answer : Bool → Unit → Unit → Result Unit Refusal
product_answer quotient a b =
    answer_of (product_verdict places_max names_max quotient (terms_of a) (terms_of b))
    (unit_of (product_of names_max quotient (terms_of a) (terms_of b)))

-- ---- the exponent of a symbol

-- the exponent of symbol s in a unit in form
unfoldable pub exponent_answer : Unit → ℕ → Result ℤ Refusal
exponent_answer u s = answer_of (form_verdict u) (exponent s (terms_of u))

-- ---- unitless or not: "\"No unit\" and the empty unit are different values; both count as unitless"

-- is there no unit, or the empty one
unfoldable pub unitless : Option Unit → Bool
unitless None = true
unitless (Some u) = eqb (length (terms_of u)) 0

-- why asking that is refused, if it is: 5 of a unit
unfoldable pub maybe_verdict : Option Unit → Verdict
maybe_verdict None = Ok tt
maybe_verdict (Some u) = form_verdict u

-- no unit is unitless, and the empty unit is
unfoldable pub unitless_answer : Option Unit → Result Bool Refusal
unitless_answer m = answer_of (maybe_verdict m) (unitless m)
