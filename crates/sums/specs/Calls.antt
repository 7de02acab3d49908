-- What the calls for group sums and convertibility answer, over the pairs of a page (document 01, "Units and pairs" and the
-- table of refusals).
use Rattle.refusals.specs.declared.Refusal.{Refusal}
use Rattle.std.specs.Prelude.{Bool, true, ◌&&◌, not, List, [], ◌∷◌, ℕ, Option, Some, None, Result}
use Rattle.refusals.specs.Lowest.{◌when◌, lowest, answer_of}
use Rattle.refusals.specs.declared.Refusal.TheVariants.{Broken, Unused, BadUnit}
use Rattle.refusals.specs.Numbers.{Verdict}
use Rattle.names.specs.Table.{names_max}
use Rattle.names.specs.Calls.{used_of}
use Rattle.units.specs.Unit.{places_max, Term, in_use}
use Rattle.units.specs.Unit as units
use Rattle.units.specs.Calls.{terms_of, present, unit_of}
use Rattle.units.specs.declared.Unit.{Unit}
use Rattle.groups.specs.Groups.{root_of}
use Rattle.pairs.specs.Page.{listed_in}
use Rattle.pairs.specs.Calls.{table_broken}
use Rattle.sums.specs.Sums.{group_sums, convertible, sums_of}
use Rattle.sums.specs.declared.Sums.{Sums}

-- ---- units that a call is given

-- are all symbols of the units in use, where n names are in use; of a unit that says more symbols than places those in its places are looked up
abbrev pub all_used : ℕ → List Unit → Bool
all_used n [] = true
all_used n (u ∷ us) = in_use n (present u) && all_used n us

-- is every unit in form
abbrev pub all_formed : List Unit → Bool
all_formed [] = true
all_formed (u ∷ us) = units.formed places_max names_max (terms_of u) && all_formed us

-- why they are refused, if they are: 2 the names or the table, 3 a symbol not in use, 5 a unit
unfoldable pub units_verdict : List ℕ → Option (List ℕ) → List Unit → Verdict
units_verdict page names us =
    lowest
    ((Broken when table_broken page names)
    ∷ (Unused when not (all_used (used_of names) us))
    ∷ (BadUnit when not (all_formed us))
    ∷ [])

-- the roots that the pairs of a page give
abbrev pub roots_in : List ℕ → ℕ → ℕ
roots_in page = root_of names_max (listed_in page)

-- ---- group sums

-- the group sums of a unit (`canonicalize`)
unfoldable pub sums_answer : List ℕ → Option (List ℕ) → Unit → Result Sums Refusal
sums_answer page names u = answer_of (units_verdict page names (u ∷ [])) (sums_of (group_sums names_max (roots_in page) (terms_of u)))

-- ---- convertible or not

-- "no unit counting as empty"
abbrev pub or_empty : Option Unit → Unit
or_empty None = unit_of []
or_empty (Some u) = u

-- are two units, or none, convertible (`is_convertible_to`)
unfoldable pub convert_answer : List ℕ → Option (List ℕ) → Option Unit → Option Unit → Result Bool Refusal
convert_answer page names left right =
    answer_of (units_verdict page names (or_empty left ∷ or_empty right ∷ []))
    (convertible names_max (roots_in page) (terms_of (or_empty left)) (terms_of (or_empty right)))
