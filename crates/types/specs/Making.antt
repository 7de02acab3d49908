-- Making a type: "Making a type returns the number of its equal, else the next" (document 01, "Types").
use Rattle.refusals.specs.declared.Refusal.{Refusal}
use Rattle.std.specs.Prelude.{◌≡◌, Bool, true, ◌&&◌, not, cond, List, [], ◌∷◌, ◌++◌, ℕ, ◌+◌, ◌-◌, ◌*◌, ◌<◌, ◌≤◌, ltb, leb, length, get_or, take, replicate, Result}
use Rattle.refusals.specs.Lowest.{◌when◌, lowest, unless_refused, answer_of}
use Rattle.refusals.specs.declared.Refusal.TheVariants.{Depth, Full}
use Rattle.refusals.specs.Numbers.{Verdict}
use Rattle.pages.specs.Bytes.{count_bytes, count_of, bytes_of, words, big_endian, put}
use Rattle.kinds.specs.Kinds.{fixed_max, children_max, is_named}
use Rattle.types.specs.Store.{entries_max, depth_max, head_bytes, child_bytes, name_bytes, size_at, offset, depth_at, depths, parts_at, equal_to, Formed}
use Rattle.types.specs.Types.{types_in, Measured}

-- ---- an entry's bytes

-- "a child-count byte (0 beside a name) and a T body": of a kind with a name that name, of another kind its children
unfoldable pub entry_of : ℕ → List ℕ → ℕ → List ℕ
entry_of k children name = cond (is_named k) (0 ∷ k ∷ big_endian name_bytes name) (length children ∷ k ∷ words children)

-- how many bytes an entry takes at most
abbrev pub entry_max : ℕ
entry_max = head_bytes + child_bytes * children_max

-- an entry that can stand in a store in form: all of it, with its parts
pub record Enterable (page entry : List ℕ) (f : Formed page) : Type 0 where
  pub whole : size_at entry 0 ≡ length entry
  pub parts : parts_at entry f.names (types_in page) 0 ≡ true

-- a store with its tables, and such an entry
pub record Ready (page offsets ds entry : List ℕ) : Type 0 where
  pub measured : Measured page offsets ds
  pub enterable : Enterable page entry measured.held.sound

-- ---- entering it in a store in form

-- is there a type with this entry
unfoldable pub is_made : List ℕ → List ℕ → Bool
is_made page entry = ltb (equal_to page (count_of page) entry) (count_of page)

-- how deep the entry is
unfoldable pub depth_of : List ℕ → List ℕ → ℕ
depth_of page entry = depth_at entry (depths page (count_of page)) 0

-- is there a number for one more type, and a place in the page
unfoldable pub roomy : List ℕ → List ℕ → Bool
roomy page entry = ltb (count_of page) entries_max && leb (offset page (count_of page) + length entry) (length page)

-- the page with one more entry behind the last, and the count
unfoldable pub with_entry : List ℕ → List ℕ → List ℕ
with_entry page entry = put (put page (offset page (count_of page)) entry) 0 (bytes_of (count_of page + 1))

-- why a new type is refused, if it is: 7 deeper than 32, 10 no number or no place left
unfoldable pub enter_verdict : List ℕ → List ℕ → Verdict
enter_verdict page entry =
    lowest
    ((Depth when (not (is_made page entry) && ltb depth_max (depth_of page entry)))
    ∷ (Full when (not (is_made page entry) && not (roomy page entry)))
    ∷ [])

-- the number of its equal, else the next
unfoldable pub enter_answer : List ℕ → List ℕ → Result ℕ Refusal
enter_answer page entry = answer_of (enter_verdict page entry) (fixed_max + equal_to page (count_of page) entry)

-- the page afterwards: changed only by a new type that is not refused
unfoldable pub enter_page : List ℕ → List ℕ → List ℕ
enter_page page entry = unless_refused (enter_verdict page entry) (cond (is_made page entry) page (with_entry page entry)) page

-- the page with this count's bytes, and without the entries from index `end` on
unfoldable pub taken_back : List ℕ → List ℕ → ℕ → List ℕ
taken_back page count end = put (take end page ++ replicate (length page - end) 0) 0 count

-- a store that has grown out of another: every entry of that one stands where it stood
pub record Grows (page grown : List ℕ) : Type 0 where
  pub size : length grown ≡ length page
  pub more : count_of page ≤ count_of grown
  pub same : (i : ℕ) → count_bytes ≤ i → i < offset page (count_of page) → get_or grown i 0 ≡ get_or page i 0
