-- What the call for a unit's text answers (document 01, "Units and pairs" and the table of refusals).
use Rattle.std.specs.Prelude.{◌≡◌, Bool, true, false, not, cond, List, [], ◌∷◌, ℕ, ◌+◌, ◌*◌, ◌≤◌, Result}
use Rattle.refusals.specs.Lowest.{◌when◌, lowest, answer_of}
use Rattle.refusals.specs.declared.Refusal.{Refusal}
use Rattle.refusals.specs.declared.Refusal.TheVariants.{Broken, Unused, BadUnit}
use Rattle.refusals.specs.Numbers.{Verdict}
use Rattle.pages.specs.Bytes.{count_of}
use Rattle.pages.specs.Pad.{padded}
use Rattle.names.specs.Table as names
use Rattle.units.specs.Unit as units
use Rattle.units.specs.Product.{any_outside}
use Rattle.units.specs.Calls.{terms_of, present}
use Rattle.units.specs.declared.Unit.{Unit}
use Rattle.text.specs.Text.{stands, unit_text}
use Rattle.pages.specs.declared.Padded.{Padded}

-- how many digits an exponent has at most
abbrev pub exponent_digits : ℕ
exponent_digits = 4

-- how many bytes a power takes at most, with what stands before it: a separator, a name, `^` and the digits
abbrev pub power_max : ℕ
power_max = names.name_max + exponent_digits + 2

-- how many bytes a text has at most: `1`, and every symbol below the line
abbrev pub text_max : ℕ
text_max = 1 + units.places_max * power_max

-- how many terms stand on a side
abbrev pub count_on : Bool → List units.Term → ℕ
count_on above [] = 0
count_on above (x ∷ xs) = cond (stands above x.exp) 1 0 + count_on above xs

-- a unit whose terms, in any order, can be written
pub record Writable (page : List ℕ) (v : Unit) : Type 0 where
  pub few : v.count ≤ units.places_max
  pub used : units.in_use (count_of page) (terms_of v) ≡ true
  pub inside : any_outside (terms_of v) ≡ false

-- why a text is refused, if it is: 2 the names page, 3 a symbol not in use, 5 the unit
unfoldable pub text_verdict : List ℕ → Unit → Verdict
text_verdict page u =
    lowest
    ((Broken when not (names.formed page))
    ∷ (Unused when not (units.in_use (count_of page) (present u)))
    ∷ (BadUnit when not (units.formed units.places_max names.names_max (terms_of u)))
    ∷ [])

-- the text of a unit, by the names of a page
unfoldable pub text_answer : List ℕ → Unit → Result (Padded text_max) Refusal
text_answer page u = answer_of (text_verdict page u) (padded text_max (unit_text page (terms_of u)))
