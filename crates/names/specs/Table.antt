-- Names and the table that numbers them (document 01, "Names").
use Rattle.std.specs.Prelude.{Bool, ◌&&◌, ◌||◌, not, List, ℕ, zero, suc, ◌+◌, length, get_or, take, drop, eqb, leb}
use Rattle.pages.specs.Quant.{all_to, first_to}
use Rattle.pages.specs.Bytes.{eqs, zeros, within, count_bytes, count_of}

-- "Numbered from 0 to at most 255": how many names there can be
abbrev pub names_max : ℕ
names_max = 256

-- "1 to 31 bytes": how long a name can be
abbrev pub name_max : ℕ
name_max = 31

-- 0 to 9
unfoldable pub digit : ℕ → Bool
digit b = within 48 57 b

-- "ASCII letters, digits, underscore": A to Z, a to z, _ or a digit
unfoldable pub name_byte : ℕ → Bool
name_byte b = within 65 90 b || (within 97 122 b || (eqb b 95 || digit b))

-- is byte i one that a name can have
abbrev pub name_byte_at : List ℕ → ℕ → Bool
name_byte_at name i = name_byte (get_or name i 0)

-- 1 to 31 such bytes, "not a digit first"
unfoldable pub well_named : List ℕ → Bool
well_named name = within 1 name_max (length name) && (not (digit (get_or name 0 0)) && all_to (length name) (name_byte_at name))

-- "a two-byte count, then a length byte and the bytes of each name": where the length byte of name i stands
unfoldable pub offset : List ℕ → ℕ → ℕ
offset page zero = count_bytes
offset page (suc i) = offset page i + 1 + get_or page (offset page i) 0

-- the bytes of name i
unfoldable pub name_at : List ℕ → ℕ → List ℕ
name_at page i = take (get_or page (offset page i) 0) (drop (offset page i + 1) page)

-- is name i this one
unfoldable pub named : List ℕ → List ℕ → ℕ → Bool
named page name i = eqs (name_at page i) name

-- the number of a name among the first n, or n where it is none of them
abbrev pub number_of : List ℕ → ℕ → List ℕ → ℕ
number_of page n name = first_to n (named page name)

-- name i lies in the page, is a name, and is none of the names before it
unfoldable pub good_at : List ℕ → ℕ → Bool
good_at page i = leb (offset page (suc i)) (length page) && (well_named (name_at page i) && leb i (number_of page i (name_at page i)))

-- a table in form: the count, its names, "then zeros"
unfoldable pub formed : List ℕ → Bool
formed page =
    leb count_bytes (length page)
    && (leb (count_of page) names_max
    && (all_to (count_of page) (good_at page)
    && zeros (drop (offset page (count_of page)) page)))
