-- The test of a store's form, one entry after another: what it keeps in mind, and what it leaves in the tables that it is lent.
use Rattle.std.specs.Prelude.{◌≡◌, Bool, ◌&&◌, not, cond, List, ◌++◌, ℕ, suc, ◌+◌, ◌<◌, ◌≤◌, leb, length, get_or, drop, Option}
use Rattle.pages.specs.Quant.{first_to}
use Rattle.pages.specs.Bytes.{count_bytes, count_of}
use Rattle.chains.specs.Last.{Heads, Links}
use Rattle.chains.specs.Prints.{prints_max, print_of}
use Rattle.names.specs.Calls.{lent_broken, used_of}
use Rattle.kinds.specs.Kinds.{fixed_max}
use Rattle.types.specs.Store.{entries_max, depth_max, entry_at, offset, depth_at, depths, parts_at, equal_to, good_at}
use Rattle.types.specs.Calls.{list_to}

-- ---- an entry that is good is whole and new (`good_both` in proofs/Form.antt), and is tested in this order

-- entry j lies in the page, has its parts, and is not too deep
abbrev pub whole_at : List ℕ → ℕ → ℕ → Bool
whole_at page n j =
    leb (offset page (suc j)) (length page)
    && (parts_at page n (fixed_max + j) (offset page j)
    && leb (depth_at page (depths page j) (offset page j)) depth_max)

-- it is equal to none before it: "no two entries are equal"
abbrev pub new_at : List ℕ → ℕ → Bool
new_at page j = leb j (equal_to page j (entry_at page (offset page j)))

-- ---- an entry is compared only with those before it that have its print

-- the print of entry j
abbrev pub print_at : List ℕ → ℕ → ℕ
print_at page j = print_of (entry_at page (offset page j))

-- entry j begins in the page, and offsets has where it and those before it begin
pub record Placed (page offsets : List ℕ) (j : ℕ) : Type 0 where
  pub inside : offset page j ≤ length page
  pub room : j < length offsets
  pub places : (i : ℕ) → i ≤ j → get_or offsets i 0 ≡ offset page i

-- the chains of the first j entries: for each print the last of them, and for each of them the one before it with its print
pub record Chained (page heads links : List ℕ) (j : ℕ) : Type 0 where
  pub prints : length heads ≡ prints_max
  pub linked : length links ≡ entries_max
  pub head_at : Heads (print_at page) heads j
  pub link_at : Links (print_at page) links j

-- ---- the tables, whether the page is in form or not

-- entries are looked at where there is a count of them, and a store can have so many
unfoldable pub counted : List ℕ → Bool
counted page = leb count_bytes (length page) && leb (count_of page) entries_max

-- entry j is not good
abbrev pub bad_at : List ℕ → ℕ → ℕ → Bool
bad_at page n j = not (good_at page n j)

-- how many entries are good before the first that is not; if there is none such, all
unfoldable pub good_to : List ℕ → ℕ → ℕ
good_to page n = first_to (count_of page) (bad_at page n)

-- the first j places as f says, and the others as they came
abbrev pub filled : (ℕ → ℕ) → ℕ → List ℕ → List ℕ
filled f j table = list_to j f ++ drop j table

-- where those begin is written down, and where what follows them does, the first entry that is not good or the end; all places after
-- that are as they came
unfoldable pub offsets_left : List ℕ → ℕ → List ℕ → List ℕ
offsets_left page n os = cond (counted page) (filled (offset page) (suc (good_to page n)) os) os

-- how deep those are is written down; all places after that are as they came
unfoldable pub depths_left : List ℕ → ℕ → List ℕ → List ℕ
depths_left page n ds = cond (counted page) (depths page (good_to page n) ++ drop (good_to page n) ds) ds

-- where names and store are tested: if the names break their form, the store is not looked at
unfoldable pub opened_offsets : List ℕ → Option (List ℕ) → List ℕ → List ℕ
opened_offsets page names os = cond (lent_broken names) os (offsets_left page (used_of names) os)

unfoldable pub opened_depths : List ℕ → Option (List ℕ) → List ℕ → List ℕ
opened_depths page names ds = cond (lent_broken names) ds (depths_left page (used_of names) ds)
