-- What the calls on a store of types answer, and leave in the page (document 01, "Types" and the table of refusals).
use Rattle.refusals.specs.declared.Refusal.{Refusal}
use Rattle.std.specs.Prelude.{Bool, true, ◌&&◌, ◌||◌, not, cond, List, [], ◌∷◌, ◌++◌, ℕ, zero, suc, ◌+◌, ltb, length, set, replicate, Result, Ok, Option, Some, None}
use Rattle.refusals.specs.Lowest.{◌when◌, lowest, unless_refused, answer_of}
use Rattle.refusals.specs.declared.Refusal.TheVariants.{Undefined, Broken, Unused, Width, Depth, Full}
use Rattle.refusals.specs.Numbers.{Verdict}
use Rattle.pages.specs.Bytes.{within, count_bytes, count_of}
use Rattle.pages.specs.Pad.{pad}
use Rattle.names.specs.Calls.{lent_broken, used_of, is_used}
use Rattle.kinds.specs.Kinds.{fixed_max, children_max, kind_last, is_named, is_stored, fewest, most, const_variant}
use Rattle.types.specs.Store.{depth_max, entry_at, depth_in, depths, equal_to, formed}
use Rattle.types.specs.Types.{types_in, place_of, kind_of, arity, child_of, name_of}
use Rattle.types.specs.Making.{entry_of, is_made, depth_of, roomy, with_entry, enter_answer, enter_page}
use Rattle.types.specs.declared.Shape.{Shape}

-- do the names that are lent, or the store beside them, break their form, the store also by a name number not in use
unfoldable pub store_broken : List ℕ → Option (List ℕ) → Bool
store_broken page names = lent_broken names || not (formed page (used_of names))

-- refused (2) is a page that is no store in form, with n name numbers in use
unfoldable pub form_verdict : List ℕ → ℕ → Verdict
form_verdict page n = lowest ((Broken when not (formed page n)) ∷ [])

-- how many name numbers are in use, or 2 where names or store break their form
unfoldable pub opened_answer : List ℕ → Option (List ℕ) → Result ℕ Refusal
opened_answer page names = answer_of (lowest ((Broken when store_broken page names) ∷ [])) (used_of names)

-- ---- making a store

-- refused (2) is a page too short for the count; what else it holds does not matter yet
unfoldable pub empty_verdict : List ℕ → Verdict
empty_verdict page = lowest ((Broken when ltb (length page) count_bytes) ∷ [])

-- a store of the fixed types alone is all zeros
unfoldable pub empty_page : List ℕ → List ℕ
empty_page page = unless_refused (empty_verdict page) (replicate (length page) 0) page

-- ---- making a type: a kind, its children, and its name, which only a kind with one looks at

-- are all of these numbers below t
abbrev pub all_below : ℕ → List ℕ → Bool
all_below t [] = true
all_below t (c ∷ cs) = ltb c t && all_below t cs

-- are the children in use, surplus ones among them, and the name, of n
unfoldable pub parts_used : List ℕ → ℕ → ℕ → List ℕ → ℕ → Bool
parts_used page n k children name = all_below (types_in page) children && (not (is_named k) || is_used n name)

-- is the type one that a store holds, and not there yet
unfoldable pub is_new : List ℕ → ℕ → List ℕ → ℕ → Bool
is_new page k children name = is_stored k && not (is_made page (entry_of k children name))

-- why it is refused, if it is: 1 the kind, 2 the names or the store, 3 a child or the name, 6 how many children, 7 the depth, 10 no
-- number or no place left
unfoldable pub make_verdict : List ℕ → Option (List ℕ) → ℕ → List ℕ → ℕ → Verdict
make_verdict page names k children name =
    lowest
    ((Undefined when ltb kind_last k)
    ∷ (Broken when store_broken page names)
    ∷ (Unused when not (parts_used page (used_of names) k children name))
    ∷ (Width when not (within (fewest k) (most k) (length children)))
    ∷ (Depth when (is_new page k children name && ltb depth_max (depth_of page (entry_of k children name))))
    ∷ (Full when (is_new page k children name && not (roomy page (entry_of k children name))))
    ∷ [])

-- kinds 0 to 18 answer their own number, others that of their equal, else the next
unfoldable pub make_answer : List ℕ → Option (List ℕ) → ℕ → List ℕ → ℕ → Result ℕ Refusal
make_answer page names k children name =
    answer_of (make_verdict page names k children name)
    (cond (ltb k fixed_max) k (fixed_max + equal_to page (count_of page) (entry_of k children name)))

-- the page afterwards: changed only by a new type that is not refused
unfoldable pub make_page : List ℕ → Option (List ℕ) → ℕ → List ℕ → ℕ → List ℕ
make_page page names k children name =
    unless_refused (make_verdict page names k children name) (cond (is_new page k children name) (with_entry page (entry_of k children name)) page) page

-- ---- reading a type

-- what a function says of the numbers below n, in order
abbrev pub list_to : ℕ → (ℕ → ℕ) → List ℕ
list_to zero f = []
list_to (suc n) f = list_to n f ++ (f n ∷ [])

-- the type with number t: its kind, its depth, its children with zeros after them, its name, if it has one
unfoldable pub type_at : List ℕ → ℕ → Shape
type_at page t = record {
  kind = kind_of page t;
  depth = depth_in (depths page (count_of page)) t;
  count = arity page t;
  children = pad children_max 0 (list_to (arity page t) (child_of page t));
  name = cond (is_named (kind_of page t)) (Some (name_of page t)) None;
}

-- 2 the names or the store, 3 the number
unfoldable pub read_verdict : List ℕ → Option (List ℕ) → ℕ → Verdict
read_verdict page names t = lowest ((Broken when store_broken page names) ∷ (Unused when not (ltb t (types_in page))) ∷ [])

-- the type with number t by value
unfoldable pub read_answer : List ℕ → Option (List ℕ) → ℕ → Result Shape Refusal
read_answer page names t = answer_of (read_verdict page names t) (type_at page t)

-- ---- a type's const form (`into_const`, `const_variant`), made if it is new

-- the entry of type t under its const kind
unfoldable pub const_entry : List ℕ → ℕ → List ℕ
const_entry page t = set (entry_at page (place_of page t)) 1 (const_variant (kind_of page t))

unfoldable pub const_answer : List ℕ → ℕ → Result ℕ Refusal
const_answer page t = cond (ltb t fixed_max) (Ok (const_variant t)) (enter_answer page (const_entry page t))

unfoldable pub const_page : List ℕ → ℕ → List ℕ
const_page page t = cond (ltb t fixed_max) page (enter_page page (const_entry page t))
