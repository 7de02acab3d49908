-- Marks on pairs of types in a table of bytes, one bit each. Assumes nothing.
use Rattle.std.specs.Prelude.{◌≡◌, Bool, true, ◌&&◌, cond, ◌⊎◌, List, ℕ, ◌+◌, ◌*◌, ◌/◌, ◌%◌, ◌^◌, ◌<◌, ◌≤◌, ltb, eqb, length, get_or, set}
use Rattle.std.specs.Int.Bits.{bit_or}
use Rattle.types.specs.Store.{types_max}

-- how many marks a byte holds
abbrev pub bits : ℕ
bits = 8

-- for how many types a tiny table has room, and a small one; a large one has room for all
abbrev pub tiny : ℕ
tiny = 64

abbrev pub small : ℕ
small = 512

-- how many bytes a table takes that has a row for two types, tiny, small or large; one with a row for each takes twice as many
abbrev pub tiny_bytes : ℕ
tiny_bytes = tiny * tiny / bits

abbrev pub small_bytes : ℕ
small_bytes = small * small / bits

abbrev pub large_bytes : ℕ
large_bytes = types_max * types_max / bits

-- for how many types a table of n bytes has room
unfoldable pub room : ℕ → ℕ
room n = cond (ltb n small_bytes) tiny (cond (ltb n large_bytes) small types_max)

-- how many columns there are, with room for n types
abbrev pub columns : ℕ → ℕ
columns n = 2 * n

-- a table of n bytes has just a row for each type that it has room for, or one for every k of them
abbrev pub HasRows : ℕ → ℕ → Type 0
HasRows k n = room n * columns (room n) ≡ k * n * bits

-- the place of a mark, with room for n types
unfoldable pub place : ℕ → ℕ → ℕ → ℕ
place n row column = row * columns n + column

-- the table has a place p for a mark, and the place is the mark's
abbrev pub Within : List ℕ → ℕ → ℕ → ℕ → Type 0
Within table row column p = (p ≡ place (room (length table)) row column) × (column < columns (room (length table))) × (p / bits < length table)

-- the table has none: it has no such column, or ends before
abbrev pub Beyond : List ℕ → ℕ → ℕ → Type 0
Beyond table row column = (columns (room (length table)) ≤ column) ⊎ (length table ≤ place (room (length table)) row column / bits)

-- is bit k of a byte set
unfoldable pub is_set : ℕ → ℕ → Bool
is_set byte k = eqb (byte / 2 ^ k % 2) 1

-- is the mark at a place set
abbrev pub is_set_at : List ℕ → ℕ → Bool
is_set_at table p = is_set (get_or table (p / bits) 0) (p % bits)

-- the table with the mark at a place set
abbrev pub set_at : List ℕ → ℕ → List ℕ
set_at table p = set table (p / bits) (bit_or (get_or table (p / bits) 0) (2 ^ (p % bits)))

-- is a row marked in a column
unfoldable pub is_marked : List ℕ → ℕ → ℕ → Bool
is_marked table row column = ltb column (columns (room (length table))) && is_set_at table (place (room (length table)) row column)

-- the table with a row marked in a column, where it has room
unfoldable pub marking : List ℕ → ℕ → ℕ → List ℕ
marking table row column = cond (ltb column (columns (room (length table)))) (set_at table (place (room (length table)) row column)) table

-- whatever is marked in a table holds of it
pub record Noted (holds : List ℕ → ℕ → ℕ → Type 0) (table : List ℕ) : Type 0 where
  pub right : (row column : ℕ) → is_marked table row column ≡ true → holds table row column
