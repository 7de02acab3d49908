-- What the calls on a table of names answer, and leave in the page (document 01, "Names" and the table of refusals).
use Rattle.std.specs.Prelude.{Bool, false, ◌&&◌, not, cond, List, [], ◌∷◌, ℕ, ◌+◌, length, replicate, ltb, leb, Option, Some, None, Result}
use Rattle.refusals.specs.Lowest.{◌when◌, lowest, unless_refused, answer_of}
use Rattle.refusals.specs.declared.Refusal.{Refusal}
use Rattle.refusals.specs.declared.Refusal.TheVariants.{Broken, Unused, Malformed, Full}
use Rattle.refusals.specs.Numbers.{Verdict}
use Rattle.pages.specs.Bytes.{count_bytes, count_of, bytes_of, put}
use Rattle.pages.specs.Pad.{padded}
use Rattle.names.specs.Table.{names_max, name_max, well_named, offset, name_at, number_of, formed}
use Rattle.pages.specs.declared.Padded.{Padded}

-- ---- names that are lent or not: a page, or none

-- does a names page that is lent break its form
unfoldable pub lent_broken : Option (List ℕ) → Bool
lent_broken None = false
lent_broken (Some page) = not (formed page)

-- how many name numbers are in use: those of the lent table or, where none is lent, every number that a table can have
unfoldable pub used_of : Option (List ℕ) → ℕ
used_of None = names_max
used_of (Some page) = count_of page

-- that number, or 2 where the names that are lent break their form
unfoldable pub used_answer : Option (List ℕ) → Result ℕ Refusal
used_answer names = answer_of (lowest ((Broken when lent_broken names) ∷ [])) (used_of names)

-- "not in use" (the table of refusals, 2 and 3): is s the number of a name, where the first `used` numbers are in use; one that no table
-- can give never is
unfoldable pub is_used : ℕ → ℕ → Bool
is_used used s = ltb s used && ltb s names_max

-- ---- making a table

-- refused (2) is a page too short for the count, which cannot be a table; what else it holds does not matter yet
unfoldable pub empty_verdict : List ℕ → Verdict
empty_verdict page = lowest ((Broken when ltb (length page) count_bytes) ∷ [])

-- a table of no name is all zeros
unfoldable pub empty_page : List ℕ → List ℕ
empty_page page = unless_refused (empty_verdict page) (replicate (length page) 0) page

-- ---- adding a name

-- has the table this name
abbrev pub is_known : List ℕ → List ℕ → Bool
is_known page name = ltb (number_of page (count_of page) name) (count_of page)

-- is there a number for one more name, where there can be so many, and a place in the page
unfoldable pub roomy : ℕ → List ℕ → List ℕ → Bool
roomy limit page name = ltb (count_of page) limit && leb (offset page (count_of page) + 1 + length name) (length page)

-- the page with one more name: the name behind the last, and the count
unfoldable pub with_name : List ℕ → List ℕ → List ℕ
with_name page name = put (put page (offset page (count_of page)) (length name ∷ name)) 0 (bytes_of (count_of page + 1))

-- why adding is refused, if it is: 2, 4, or 10 for a new name without a place
unfoldable pub add_verdict : ℕ → List ℕ → List ℕ → Verdict
add_verdict limit page name =
    lowest
    ((Broken when not (formed page))
    ∷ (Malformed when not (well_named name))
    ∷ (Full when (not (is_known page name) && not (roomy limit page name)))
    ∷ [])

-- "An existing name gets its old number", and a new one the next
unfoldable pub add_answer : ℕ → List ℕ → List ℕ → Result ℕ Refusal
add_answer limit page name = answer_of (add_verdict limit page name) (number_of page (count_of page) name)

-- the page afterwards: changed only by a new name that is not refused
unfoldable pub page_after : ℕ → List ℕ → List ℕ → List ℕ
page_after limit page name = unless_refused (add_verdict limit page name) (cond (is_known page name) page (with_name page name)) page

-- ---- looking for a name

-- why looking is refused, if it is: 2 or 4
unfoldable pub find_verdict : List ℕ → List ℕ → Verdict
find_verdict page name = lowest ((Broken when not (formed page)) ∷ (Malformed when not (well_named name)) ∷ [])

-- the name's number, if the table has the name
unfoldable pub find_answer : List ℕ → List ℕ → Result (Option ℕ) Refusal
find_answer page name = answer_of (find_verdict page name) (cond (is_known page name) (Some (number_of page (count_of page) name)) None)

-- ---- reading a name

-- why reading is refused, if it is: 2, or 3 for a number not in use
unfoldable pub read_verdict : List ℕ → ℕ → Verdict
read_verdict page k = lowest ((Broken when not (formed page)) ∷ (Unused when not (is_used (count_of page) k)) ∷ [])

-- the name with number k
unfoldable pub read_answer : List ℕ → ℕ → Result (Padded name_max) Refusal
read_answer page k = answer_of (read_verdict page k) (padded name_max (name_at page k))
