-- The store of types in a lent page: "a two-byte count of entries above 18, then each as a child-count byte (0 beside a name) and a
-- T body (see sheets); bytes after the last are zero" (document 01, "Types").
use Rattle.std.specs.Prelude.{◌≡◌, Bool, true, ◌&&◌, cond, List, [], ◌∷◌, ◌++◌, ℕ, zero, suc, ◌+◌, ◌-◌, ◌*◌, ◌<◌, ◌≤◌, ltb, leb, eqb, length, get_or, take, drop}
use Rattle.pages.specs.Quant.{all_to, first_to}
use Rattle.pages.specs.Bytes.{eqs, zeros, within, word_bytes, count_bytes, word_at, count_of, number_at}
use Rattle.names.specs.Calls.{is_used}
use Rattle.kinds.specs.Kinds.{fixed_max, is_named, is_stored, fewest, most}

-- "At most 4,096", the fixed ones among them
abbrev pub types_max : ℕ
types_max = 4096

-- how many of them stand in a page
abbrev pub entries_max : ℕ
entries_max = types_max - fixed_max

-- "depth is at most 32"
abbrev pub depth_max : ℕ
depth_max = 32

-- ---- one entry, which begins at index o: the child count, the kind, then "two bytes a child or one byte a name"

-- how many bytes stand before the children or the name
abbrev pub head_bytes : ℕ
head_bytes = 2

-- how many bytes a child takes
abbrev pub child_bytes : ℕ
child_bytes = word_bytes

-- and a name; a law that does not unfold it holds of every width (#105)
unfoldable pub name_bytes : ℕ
name_bytes = 1

-- its child count
abbrev pub children_at : List ℕ → ℕ → ℕ
children_at page o = get_or page o 0

-- its kind
abbrev pub kind_at : List ℕ → ℕ → ℕ
kind_at page o = get_or page (o + 1) 0

-- its child i
abbrev pub child_at : List ℕ → ℕ → ℕ → ℕ
child_at page o i = word_at page (o + head_bytes + child_bytes * i)

-- its name's number
abbrev pub name_at : List ℕ → ℕ → ℕ
name_at page o = number_at page (o + head_bytes) name_bytes

-- how many bytes it takes
unfoldable pub size_at : List ℕ → ℕ → ℕ
size_at page o = head_bytes + cond (is_named (kind_at page o)) name_bytes (child_bytes * children_at page o)

-- its bytes
abbrev pub entry_at : List ℕ → ℕ → List ℕ
entry_at page o = take (size_at page o) (drop o page)

-- where entry j begins
unfoldable pub offset : List ℕ → ℕ → ℕ
offset page zero = count_bytes
offset page (suc j) = offset page j + size_at page (offset page j)

-- ---- depth

-- the depth of type t, where ds has those of the entries: "A childless type has depth 1"
unfoldable pub depth_in : List ℕ → ℕ → ℕ
depth_in ds t = cond (ltb t fixed_max) 1 (get_or ds (t - fixed_max) 0)

-- the larger of two numbers
abbrev pub larger : ℕ → ℕ → ℕ
larger a b = cond (ltb a b) b a

-- the depth of the deepest of the first i children of the entry at o, 0 where there is none
unfoldable pub deepest : List ℕ → List ℕ → ℕ → ℕ → ℕ
deepest page ds o zero = 0
deepest page ds o (suc i) = larger (deepest page ds o i) (depth_in ds (child_at page o i))

-- the depth of the entry at o: one more
abbrev pub depth_at : List ℕ → List ℕ → ℕ → ℕ
depth_at page ds o = suc (deepest page ds o (children_at page o))

-- the depths of the first j entries, children being "numbered below" their parent
unfoldable pub depths : List ℕ → ℕ → List ℕ
depths page zero = []
depths page (suc j) = depths page j ++ (depth_at page (depths page j) (offset page j) ∷ [])

-- ---- a store in form

-- is child i of the entry at o numbered below t
abbrev pub is_below : List ℕ → ℕ → ℕ → ℕ → Bool
is_below page o t i = ltb (child_at page o i) t

-- "Each child is numbered below its parent", whose number is t
abbrev pub children_below : List ℕ → ℕ → ℕ → Bool
children_below page o t = all_to (children_at page o) (is_below page o t)

-- a kind that is stored, with a name in use, of n, and no child, or with as many children as the kind takes, all below t
unfoldable pub parts_at : List ℕ → ℕ → ℕ → ℕ → Bool
parts_at page n t o =
    is_stored (kind_at page o)
    && cond (is_named (kind_at page o)) (eqb (children_at page o) 0 && is_used n (name_at page o))
    (within (fewest (kind_at page o)) (most (kind_at page o)) (children_at page o) && children_below page o t)

-- has entry i these bytes
abbrev pub is_entry : List ℕ → List ℕ → ℕ → Bool
is_entry page entry i = eqs (entry_at page (offset page i)) entry

-- the first of the first j entries that has these bytes, or j
abbrev pub equal_to : List ℕ → ℕ → List ℕ → ℕ
equal_to page j entry = first_to j (is_entry page entry)

-- entry j lies in the page, has its parts, is equal to none before it ("no two entries are equal"), and is not too deep
unfoldable pub good_at : List ℕ → ℕ → ℕ → Bool
good_at page n j =
    leb (offset page (suc j)) (length page)
    && (parts_at page n (fixed_max + j) (offset page j)
    && (leb j (equal_to page j (entry_at page (offset page j)))
    && leb (depth_at page (depths page j) (offset page j)) depth_max))

-- where a test stands that goes through the entries: entry j begins at o, and ds begins with the depths of those before it
pub record Reached (page ds : List ℕ) (j o : ℕ) : Type 0 where
  pub at : o ≡ offset page j
  pub inside : o ≤ length page
  pub few : j < entries_max
  pub size : length ds ≡ entries_max
  pub known : take j ds ≡ depths page j

-- a store in form, with n name numbers in use
unfoldable pub formed : List ℕ → ℕ → Bool
formed page n =
    leb count_bytes (length page)
    && (leb (count_of page) entries_max
    && (all_to (count_of page) (good_at page n)
    && zeros (drop (offset page (count_of page)) page)))

-- in form, with some number of names in use
pub record Formed (page : List ℕ) : Type 0 where
  pub names : ℕ
  pub form : formed page names ≡ true
