-- Bindings of generic names to types: "Bindings hold up to 32 names with their types, no name twice" (document 01, "Types").
use Rattle.std.specs.Prelude.{Bool, ◌&&◌, List, ℕ, suc, ◌<◌, ◌≤◌, ltb, leb, eqb, get_or, set}
use Rattle.pages.specs.Quant.{all_to, first_to}
use Rattle.names.specs.Calls.{is_used}
use Rattle.bindings.specs.declared.Bindings.{Bindings}

-- how many names are bound at most
abbrev pub bindings_max : ℕ
bindings_max = 32

-- is place i that of a name
abbrev pub has_name : List ℕ → ℕ → ℕ → Bool
has_name names name i = eqb (get_or names i 0) name

-- the first of the first k places that has the name, or k
abbrev pub place_in : Bindings → ℕ → ℕ → ℕ
place_in b k name = first_to k (has_name b.names name)

-- is the name bound
unfoldable pub is_bound : Bindings → ℕ → Bool
is_bound b name = ltb (place_in b b.count name) b.count

-- the type that it is bound to
unfoldable pub bound_to : Bindings → ℕ → ℕ
bound_to b name = get_or b.types (place_in b b.count name) 0

-- the bindings with one more, in the next place
unfoldable pub with_binding : Bindings → ℕ → ℕ → Bindings
with_binding b name t = record { count = suc b.count; names = set b.names b.count name; types = set b.types b.count t }

-- place i has a name in use, of n, which stands in no place before it, and a type in use, of t
unfoldable pub good_binding : ℕ → ℕ → Bindings → ℕ → Bool
good_binding n t b i = leb i (place_in b i (get_or b.names i 0)) && (is_used n (get_or b.names i 0) && ltb (get_or b.types i 0) t)

-- bindings in form, with n name numbers and t types in use; what stands past the count is not looked at
unfoldable pub formed : ℕ → ℕ → Bindings → Bool
formed n t b = leb b.count bindings_max && all_to b.count (good_binding n t b)

-- are the types that names are bound to numbered below t
unfoldable pub types_below : Bindings → ℕ → Bool
types_below b t = all_to b.count (λ i. ltb (get_or b.types i 0) t)

-- few bindings, of types in use
pub record Usable (b : Bindings) (t : ℕ) : Type 0 where
  pub few : b.count ≤ bindings_max
  pub used : (i : ℕ) → i < b.count → get_or b.types i 0 < t
