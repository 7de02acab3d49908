-- The text of a unit, as the source's `Display` writes it (document 01, "Units and pairs"): "symbols in byte order of name: m to
-- the −1 prints `1/m`; the empty unit prints `1`".
use Rattle.std.specs.Prelude.{Bool, true, false, cond, not, List, [], ◌∷◌, ◌++◌, ℕ, eqb, ℤ, nat_abs}
use Rattle.std.specs.Int.Signed.{non_neg}
use Rattle.names.specs.Table.{name_at}
use Rattle.units.specs.Unit.{Term}
use Rattle.digits.specs.Decimal.{decimal_of}
use Rattle.order.specs.Order.{by_name}

-- a name with its power, which is left out where it is 1
unfoldable pub power : List ℕ → ℕ → List ℕ
power name n = name ++ cond (eqb n 1) [] (94 ∷ decimal_of n)

-- does an exponent stand above the line (true) or below it
abbrev pub stands : Bool → ℤ → Bool
stands true e = non_neg e
stands false e = not (non_neg e)

-- what leads the first power of a side: nothing above the line, `/` below it
abbrev pub lead : Bool → List ℕ
lead true = []
lead false = 47 ∷ []

-- what a text gets before one more power: the lead, or `*` behind the first
abbrev pub separator : Bool → List ℕ → List ℕ
separator above [] = lead above
separator above (x ∷ text) = 42 ∷ []

-- a side's text, with the powers of further terms
unfoldable pub side_from : List ℕ → Bool → List ℕ → List Term → List ℕ
side_from names above text [] = text
side_from names above text (x ∷ xs) =
    side_from names above (cond (stands above x.exp) (text ++ (separator above text ++ power (name_at names x.symbol) (nat_abs x.exp))) text) xs

-- a side's text
abbrev pub side : List ℕ → Bool → List Term → List ℕ
side names above xs = side_from names above [] xs

-- `1` where nothing stands above the line
abbrev pub or_one : List ℕ → List ℕ
or_one [] = 49 ∷ []
or_one (x ∷ text) = x ∷ text

-- both sides of terms in order
unfoldable pub line_of : List ℕ → List Term → List ℕ
line_of names xs = or_one (side names true xs) ++ side names false xs

-- the text of a unit's terms
abbrev pub unit_text : List ℕ → List Term → List ℕ
unit_text names xs = line_of names (by_name names xs)
