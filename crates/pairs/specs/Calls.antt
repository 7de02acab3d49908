-- What the calls on a page of pairs answer, and leave in the page (document 01, "Units and pairs" and the table of refusals).
use Rattle.refusals.specs.declared.Refusal.{Refusal}
use Rattle.std.specs.Prelude.{Bool, ◌||◌, not, cond, List, [], ◌∷◌, ℕ, ◌+◌, ◌*◌, ltb, leb, eqb, length, replicate, Option, Some, None, Result}
use Rattle.refusals.specs.Lowest.{◌when◌, lowest, unless_refused, answer_of}
use Rattle.refusals.specs.declared.Refusal.TheVariants.{Broken, Unused, Full}
use Rattle.refusals.specs.Numbers.{Verdict}
use Rattle.pages.specs.Quant.{first_to}
use Rattle.pages.specs.Bytes.{count_bytes, count_of, number_at, long_bytes, put}
use Rattle.names.specs.Table.{names_max}
use Rattle.names.specs.Calls.{lent_broken, used_of, is_used}
use Rattle.groups.specs.Groups.{Pair, pair, selves, root_of}
use Rattle.pairs.specs.Table.{pairs_max, pair_bytes, factor_at, pair_at, said, both_used, with_pair}
use Rattle.pairs.specs.Page.{size_of, bodies_in, table_in, listed_in, formed, with_table}
use Rattle.pairs.specs.declared.Factor.{Factor}

-- do the names that are lent, or the table, break their form
unfoldable pub table_broken : List ℕ → Option (List ℕ) → Bool
table_broken page names = lent_broken names || not (formed page (used_of names))

-- refused (2) is a page that is no table in form, with n name numbers in use
unfoldable pub form_verdict : List ℕ → ℕ → Verdict
form_verdict page n = lowest ((Broken when not (formed page n)) ∷ [])

-- how many name numbers are in use, or 2 where names or table break their form
unfoldable pub opened_answer : List ℕ → Option (List ℕ) → Result ℕ Refusal
opened_answer page names = answer_of (lowest ((Broken when table_broken page names) ∷ [])) (used_of names)

-- ---- making a table

-- refused (2) is a page too short for a table without pairs
unfoldable pub empty_verdict : List ℕ → Verdict
empty_verdict page = lowest ((Broken when ltb (length page) (size_of 0)) ∷ [])

-- the page afterwards: count 0, each symbol its own parent, zeros; or as it was where it is refused
unfoldable pub empty_page : List ℕ → List ℕ
empty_page page = unless_refused (empty_verdict page) (put (replicate (length page) 0) count_bytes (selves 0 names_max)) page

-- ---- insertion

-- why a pair is refused, if it is: 2 the names or the table, 3 a symbol not in use, 10 a 513th pair or a page without room
unfoldable pub pair_verdict : List ℕ → Option (List ℕ) → Pair → Verdict
pair_verdict page names q =
    lowest
    ((Broken when table_broken page names)
    ∷ (Unused when not (both_used (used_of names) q))
    ∷ (Full when leb pairs_max (count_of page))
    ∷ (Full when ltb (length page) (size_of (count_of page + 1)))
    ∷ [])

-- the page afterwards: the table with one more pair, or as it was where the insertion is refused
unfoldable pub page_after : List ℕ → Option (List ℕ) → ℕ → ℕ → ℕ → List ℕ
page_after page names s f b = unless_refused (pair_verdict page names (pair s b)) (with_table page (with_pair (table_in page) s f b)) page

-- ---- looking up a symbol

-- why it is refused, if it is: 2 the names or the table, 3 the symbol is not in use
unfoldable pub symbol_verdict : List ℕ → Option (List ℕ) → ℕ → Verdict
symbol_verdict page names s = lowest ((Broken when table_broken page names) ∷ (Unused when not (is_used (used_of names) s)) ∷ [])

-- the root of a symbol (`canonical`)
unfoldable pub root_answer : List ℕ → Option (List ℕ) → ℕ → Result ℕ Refusal
root_answer page names s = answer_of (symbol_verdict page names s) (root_of names_max (listed_in page) s)

-- has pair i of bodies this symbol
abbrev pub is_of : List ℕ → ℕ → ℕ → Bool
is_of bodies s i = eqb (pair_at bodies i).symbol s

-- the factor of pair i of the bodies, with its base
abbrev pub factor_of : List ℕ → ℕ → Factor
factor_of bodies i = record { factor = number_at bodies (pair_bytes * i + factor_at) long_bytes; base = (pair_at bodies i).base }

-- the factor that the bytes of a pair say, with its base
abbrev pub factor_said : List ℕ → Factor
factor_said body = record { factor = number_at body factor_at long_bytes; base = (said body).base }

-- that of the first of k pairs that has the symbol, if one has
abbrev pub first_factor : List ℕ → ℕ → ℕ → Option Factor
first_factor bodies k s = cond (ltb (first_to k (is_of bodies s)) k) (Some (factor_of bodies (first_to k (is_of bodies s)))) None

-- the first factor of a symbol in a page that holds a table
abbrev pub factor_in : List ℕ → ℕ → Option Factor
factor_in page s = first_factor (bodies_in page) (count_of page) s

-- a symbol's first factor, if a pair has the symbol
unfoldable pub factor_answer : List ℕ → Option (List ℕ) → ℕ → Result (Option Factor) Refusal
factor_answer page names s = answer_of (symbol_verdict page names s) (factor_in page s)
