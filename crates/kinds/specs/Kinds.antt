-- The kinds of types, by their codes (document 01, "Types").
use Rattle.std.specs.Prelude.{Bool, ◌&&◌, ◌||◌, cond, ℕ, ◌+◌, ◌%◌, eqb}
use Rattle.pages.specs.Bytes.{within}

-- "0 to 18, no child, always present under that number": how many types are fixed
abbrev pub fixed_max : ℕ
fixed_max = 19

-- "0 to 16 children": how many children a type has at most
abbrev pub children_max : ℕ
children_max = 16

-- the codes of single kinds
abbrev pub null : ℕ
null = 0

abbrev pub handle_infer : ℕ
handle_infer = 17

abbrev pub function : ℕ
function = 18

abbrev pub callback : ℕ
callback = 31

abbrev pub handle : ℕ
handle = 36

abbrev pub generic : ℕ
generic = 37

-- the last of the codes
abbrev pub kind_last : ℕ
kind_last = generic

-- a kind and its const form, the next code
abbrev pub is_int : ℕ → Bool
is_int k = within 1 2 k

abbrev pub is_byte : ℕ → Bool
is_byte k = within 11 12 k

abbrev pub is_array : ℕ → Bool
is_array k = within 19 20 k

abbrev pub is_set : ℕ → Bool
is_set k = within 21 22 k

abbrev pub is_result : ℕ → Bool
is_result k = within 23 24 k

abbrev pub is_map : ℕ → Bool
is_map k = within 25 26 k

abbrev pub is_tuple : ℕ → Bool
is_tuple k = within 27 28 k

abbrev pub is_record : ℕ → Bool
is_record k = within 32 33 k

abbrev pub is_enum : ℕ → Bool
is_enum k = within 34 35 k

-- a kind from Array to CTuple
abbrev pub is_built : ℕ → Bool
is_built k = within 19 28 k

-- Any, the union that answers are of
abbrev pub any : ℕ
any = 29

-- "the last two are unions": Any and CAny
abbrev pub is_union : ℕ → Bool
is_union k = within 29 30 k

-- "32 to 37, one name": Record, CRecord, Enum, CEnum, Handle, Generic
abbrev pub is_named : ℕ → Bool
is_named k = within 32 37 k

-- the kinds of types that a store holds: all that are not fixed
abbrev pub is_stored : ℕ → Bool
is_stored k = within fixed_max kind_last k

-- how many children a kind has at least: "19 to 24, one child", "25, 26, two", "31 Callback, 1 to 16"
unfoldable pub fewest : ℕ → ℕ
fewest k = cond (within 25 26 k) 2 (cond (within 19 24 k || eqb k 31) 1 0)

-- and at most: "27 to 30, 0 to 16 children" besides
unfoldable pub most : ℕ → ℕ
most k = cond (within 25 26 k) 2 (cond (within 19 24 k) 1 (cond (within 27 31 k) children_max 0))

-- the plain one of two kinds, the const one having the next code: Int to Error, Array to Tuple
abbrev pub is_plain : ℕ → Bool
is_plain k = eqb (k % 2) 1 && (within 1 15 k || within 19 27 k)

-- a kind's const form (`const_variant`): the next code where there is one, Record and Enum included, else its own
unfoldable pub const_variant : ℕ → ℕ
const_variant k = cond (is_plain k || (eqb k 32 || eqb k 34)) (k + 1) k

-- does kind a stand against kind b by `const_matches`, which looks at no child: a const form against its plain one and, of Error and
-- of the kinds from Array to Tuple, the plain one against its const form
unfoldable pub const_matches : ℕ → ℕ → Bool
const_matches a b = (is_plain b && eqb a (b + 1)) || ((is_plain a && within 15 27 a) && eqb b (a + 1))
