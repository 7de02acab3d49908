-- The table in a lent page: "a two-byte count, the pairs as P bodies, then a parent byte for each of 256 symbols (itself at a
-- root), just as the pairs give them, then zeros" (document 01, "Units and pairs").
use Rattle.std.specs.Prelude.{Bool, ◌&&◌, List, ℕ, ◌+◌, ◌*◌, ◌≤◌, leb, length, take, drop}
use Rattle.pages.specs.Bytes.{zeros, count_bytes, count_of, bytes_of, put}
use Rattle.pages.specs.Pad.{pad}
use Rattle.names.specs.Table.{names_max}
use Rattle.groups.specs.Groups.{Pair}
use Rattle.pairs.specs.Table.{pairs_max, pair_bytes, listed}
use Rattle.pairs.specs.Table as table
use Rattle.pairs.specs.declared.ConversionTable.{ConversionTable}

-- where the parents stand behind k pairs
abbrev pub parents_at : ℕ → ℕ
parents_at k = count_bytes + pair_bytes * k

-- how many bytes a table of k pairs takes
abbrev pub size_of : ℕ → ℕ
size_of k = parents_at k + names_max

-- how many bytes a table takes at most
abbrev pub table_max : ℕ
table_max = size_of pairs_max

-- the bytes of the pairs that a page lists
abbrev pub bodies_in : List ℕ → List ℕ
bodies_in page = take (pair_bytes * count_of page) (drop count_bytes page)

-- the parents that a page holds, a byte each
abbrev pub parents_in : List ℕ → List ℕ
parents_in page = take names_max (drop (parents_at (count_of page)) page)

-- the table in a page
unfoldable pub table_in : List ℕ → ConversionTable
table_in page = record { count = count_of page; pairs = pad (pair_bytes * pairs_max) 0 (bodies_in page); parents = parents_in page }

-- the pairs that a page lists
abbrev pub listed_in : List ℕ → List Pair
listed_in page = listed (table_in page)

-- the page holds the table whose count it says, of few enough pairs (as `table.formed` has it, too), and zeros behind it
unfoldable pub holds : List ℕ → Bool
holds page =
    leb (count_of page) pairs_max && (leb (size_of (count_of page)) (length page) && zeros (drop (size_of (count_of page)) page))

-- what lets pairs and parents be read from such a page
pub record Held (page : List ℕ) : Type 0 where
  pub few : count_of page ≤ pairs_max
  pub room : size_of (count_of page) ≤ length page

-- a page in form, with n name numbers in use
unfoldable pub formed : List ℕ → ℕ → Bool
formed page n = holds page && table.formed (table_in page) n

-- the page with a table written at its front, and every other byte as it was
unfoldable pub with_table : List ℕ → ConversionTable → List ℕ
with_table page t =
    put
    (put (put page count_bytes (take (pair_bytes * t.count) t.pairs)) (parents_at t.count) t.parents)
    0
    (bytes_of t.count)
