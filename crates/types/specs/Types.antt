-- The types of a store, by number: the fixed ones, then the entries (document 01, "Types").
use Rattle.std.specs.Prelude.{◌≡◌, cond, List, ℕ, suc, ◌+◌, ◌-◌, ◌≤◌, ltb, length, get_or, take}
use Rattle.pages.specs.Bytes.{count_of}
use Rattle.kinds.specs.Kinds.{fixed_max}
use Rattle.types.specs.Store.{entries_max, children_at, kind_at, child_at, name_at, offset, depths, Formed}

-- how many types there are, and so the next one's number
abbrev pub types_in : List ℕ → ℕ
types_in page = fixed_max + count_of page

-- where the entry of type t begins
abbrev pub place_of : List ℕ → ℕ → ℕ
place_of page t = offset page (t - fixed_max)

-- the kind of type t: of a fixed one, its number
unfoldable pub kind_of : List ℕ → ℕ → ℕ
kind_of page t = cond (ltb t fixed_max) t (kind_at page (place_of page t))

-- how many children it has
unfoldable pub arity : List ℕ → ℕ → ℕ
arity page t = cond (ltb t fixed_max) 0 (children_at page (place_of page t))

-- its child i
unfoldable pub child_of : List ℕ → ℕ → ℕ → ℕ
child_of page t i = child_at page (place_of page t) i

-- its name's number, where its kind has one
unfoldable pub name_of : List ℕ → ℕ → ℕ
name_of page t = name_at page (place_of page t)

-- a store in form, and beside it where each entry begins and the last one ends
pub record Held (page offsets : List ℕ) : Type 0 where
  pub sound : Formed page
  pub size : length offsets ≡ suc entries_max
  pub places : (k : ℕ) → k ≤ count_of page → get_or offsets k 0 ≡ offset page k

-- and beside those how deep each entry is
pub record Measured (page offsets ds : List ℕ) : Type 0 where
  pub held : Held page offsets
  pub size : length ds ≡ entries_max
  pub known : take (count_of page) ds ≡ depths page (count_of page)
