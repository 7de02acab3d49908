-- What a call finds of pairs of types and keeps in mind, so that no pair is examined again: a mark for each pair and answer. What is
-- found goes by the kinds of the two; whether one stands for the other follows from it (`known_plain`, `known_any`, `known_refuted` in
-- proofs/Matching.antt).
use Rattle.std.specs.Prelude.{◌≡◌, Bool, not, true, false, ◌&&◌, ◌||◌, cond, List, ℕ, ◌+◌, ◌*◌, ◌/◌, ◌%◌, ◌<◌, ltb, eqb}
use Rattle.pages.specs.Quant.{any_to}
use Rattle.kinds.specs.Kinds.{is_array, is_tuple, is_map, is_union, const_matches}
use Rattle.types.specs.Types.{types_in, kind_of, arity, child_of}
use Rattle.marks.specs.Marks.{is_marked, marking}
use Rattle.matching.specs.Matching.{both, wild, null_array_elision, null_map_elision, flat_matches, known_matches}
use Rattle.matching.specs.declared.Checked.{Checked}
use Rattle.matching.specs.declared.Checked.TheVariants.{Known, Unknown, Function}

-- does a type stand for some member of a union
unfoldable pub has_partner : List ℕ → ℕ → ℕ → Bool
has_partner page a b = any_to (arity page b) (λ j. known_matches page a (child_of page b j))

-- what is found of a pair: of two arrays, two tuples or two maps whether they are elided; where a union is expected, whether one of its
-- members is met; else by the rules that look at no child's children
unfoldable pub found : List ℕ → ℕ → ℕ → Bool
found page a b =
    cond (both is_array page a b || both is_tuple page a b) (null_array_elision page a b)
    (cond (both is_map page a b) (null_map_elision page a b) (cond (is_union (kind_of page b)) (has_partner page a b) (flat_matches page a b)))

-- does a type stand for another whatever their children are
unfoldable pub is_free : List ℕ → ℕ → ℕ → Bool
is_free page a b = eqb a b || (wild page a b || const_matches (kind_of page a) (kind_of page b))

-- the column of a type and an answer; its row is the other type
unfoldable pub column_of : ℕ → Bool → ℕ
column_of b answer = 2 * b + cond answer 1 0

-- is an answer kept in mind: a no by its mark, a yes by its mark alone; both marks say that the one does not stand for the other
unfoldable pub keeps : List ℕ → ℕ → ℕ → Bool → Bool
keeps memo a b true = is_marked memo a (column_of b true) && not (is_marked memo a (column_of b false))
keeps memo a b false = is_marked memo a (column_of b false)

-- so what a mark says
abbrev pub Says : List ℕ → List ℕ → ℕ → ℕ → Bool → Type 0
Says page memo a b true = is_marked memo a (column_of b false) ≡ false → found page a b ≡ true
Says page memo a b false = (found page a b ≡ false) × (is_marked memo a (column_of b true) ≡ true → known_matches page a b ≡ false)

-- a mark says it of two types in use, and so in every store that grows out of this one (`noted_grown` in proofs/Grown.antt)
abbrev pub Found : List ℕ → List ℕ → ℕ → ℕ → Type 0
Found page memo a column = (a < types_in page) × (column / 2 < types_in page) × Says page memo a (column / 2) (eqb (column % 2) 1)

-- the table with it marked that a type does not stand for a union, where it has room
unfoldable pub refuting : List ℕ → ℕ → ℕ → List ℕ
refuting memo a b =
    cond (is_marked (marking memo a (column_of b false)) a (column_of b false)) (marking (marking memo a (column_of b false)) a (column_of b true)) (marking memo a (column_of b false))

-- the number of a checked type, 0 where none is known
unfoldable pub type_number : Checked → ℕ
type_number Unknown = 0
type_number (Known t) = t
type_number (Function t) = t

-- are two checked types, and with them all that they are made of, numbered below n
unfoldable pub fits : ℕ → Checked → Checked → Bool
fits n a b = ltb (type_number a) n && ltb (type_number b) n

-- is it known by the marks that a type does not stand for another: by both, or by a no and the kinds of the two
unfoldable pub is_refuted : List ℕ → List ℕ → ℕ → ℕ → Bool
is_refuted page memo a b =
    is_marked memo a (column_of b false) && (is_marked memo a (column_of b true) || (not (is_free page a b) && not (both is_union page a b)))

-- the members of a type on the actual side: what is no union is its own one member
unfoldable pub members_of : List ℕ → ℕ → ℕ
members_of page a = cond (is_union (kind_of page a)) (arity page a) 1

unfoldable pub member_of : List ℕ → ℕ → ℕ → ℕ
member_of page a i = cond (is_union (kind_of page a)) (child_of page a i) a
