-- When one type may stand for another (document 01, "Types"; `matches` and what it calls in the source's types.rs). A rule of the
-- source bears its name. Types are numbers of a store, actual before expected; where a rule needs its own answers for children, it is
-- written over them (`rule`) first. In a store in form types are equal exactly if their numbers are (`equal_types` in
-- crates/types/proofs/Trees.antt).
use Rattle.std.specs.Prelude.{Bool, true, false, ◌&&◌, ◌||◌, cond, List, ℕ, ltb, eqb}
use Rattle.pages.specs.Quant.{any_to, all_to}
use Rattle.kinds.specs.Kinds.{null, handle_infer, function, callback, handle, generic, is_array, is_set, is_map, is_tuple, is_record, is_enum, is_union, const_matches}
use Rattle.types.specs.Types.{types_in, kind_of, arity, child_of, name_of}
use Rattle.types.specs.Recur.{cov}
use Rattle.matching.specs.declared.Checked.{Checked}
use Rattle.matching.specs.declared.Checked.TheVariants.{Known, Unknown, Function}

-- are both types of such a kind
abbrev pub both : (ℕ → Bool) → List ℕ → ℕ → ℕ → Bool
both is page a b = is (kind_of page a) && is (kind_of page b)

-- is type t of kind k
abbrev pub is_kind : ℕ → List ℕ → ℕ → Bool
is_kind k page t = eqb (kind_of page t) k

-- the smaller of two numbers: how many pairs two lists side by side have (`zip`)
unfoldable pub smaller : ℕ → ℕ → ℕ
smaller m n = cond (ltb m n) m n

-- Null on either side, or by the rule
unfoldable pub null_or : (ℕ → ℕ → Bool) → ℕ → ℕ → Bool
null_or rule x y = eqb x null || (eqb y null || rule x y)

-- ---- `null_array_elision`: an array of Null, which is an empty one, and every array stand for each other; of tuples every pair of
-- shared elements has Null on a side, or is such a pair itself

unfoldable pub array_elision : List ℕ → (ℕ → ℕ → Bool) → ℕ → ℕ → Bool
array_elision page rule a b =
    cond (both is_array page a b) (null_or rule (child_of page a 0) (child_of page b 0))
    (both is_tuple page a b && all_to (smaller (arity page a) (arity page b)) (λ i. null_or rule (child_of page a i) (child_of page b i)))

unfoldable pub null_array_elision : List ℕ → ℕ → ℕ → Bool
null_array_elision page = cov (λ b. false) (λ a rule b. array_elision page rule a b)

-- ---- `null_map_elision`: likewise for the keys and the values of maps

unfoldable pub map_elision : List ℕ → (ℕ → ℕ → Bool) → ℕ → ℕ → Bool
map_elision page rule a b =
    both is_map page a b
    && all_to 2 (λ i. null_or (λ x y. null_array_elision page x y || rule x y) (child_of page a i) (child_of page b i))

unfoldable pub null_map_elision : List ℕ → ℕ → ℕ → Bool
null_map_elision page = cov (λ b. false) (λ a rule b. map_elision page rule a b)

-- ---- the rules that look at no child's children

-- `record_matches`, `enum_matches`: the same name, const or not
unfoldable pub record_matches : List ℕ → ℕ → ℕ → Bool
record_matches page a b = both is_record page a b && eqb (name_of page a) (name_of page b)

unfoldable pub enum_matches : List ℕ → ℕ → ℕ → Bool
enum_matches page a b = both is_enum page a b && eqb (name_of page a) (name_of page b)

-- `set_matches`: equal elements, const or not
unfoldable pub set_matches : List ℕ → ℕ → ℕ → Bool
set_matches page a b = both is_set page a b && eqb (child_of page a 0) (child_of page b 0)

-- `handle_matches`: handles of the same name, and HandleInfer with any handle and with itself
unfoldable pub handle_matches : List ℕ → ℕ → ℕ → Bool
handle_matches page a b =
    cond (is_kind handle page a)
    (cond (is_kind handle page b) (eqb (name_of page a) (name_of page b)) (is_kind handle_infer page b))
    (is_kind handle_infer page a && (is_kind handle_infer page b || is_kind handle page b))

-- by a rule that looks at no child's children
unfoldable pub flat_matches : List ℕ → ℕ → ℕ → Bool
flat_matches page a b =
    const_matches (kind_of page a) (kind_of page b)
    || (record_matches page a b || (enum_matches page a b || (set_matches page a b || handle_matches page a b)))

-- ---- `matches`

-- Null, which stands for everything, or a Generic on either side
unfoldable pub wild : List ℕ → ℕ → ℕ → Bool
wild page a b = eqb a null || (is_kind generic page b || is_kind generic page a)

-- by a rule other than that of unions
unfoldable pub plain_matches : List ℕ → ℕ → ℕ → Bool
plain_matches page a b = wild page a b || (eqb a b || (null_array_elision page a b || (null_map_elision page a b || flat_matches page a b)))

-- `any_matches`: a union stands for a union if every member of its own matches some expected member, "the first actual member
-- without a matching expected member" ending it; what is no union stands for a union if it matches some member
unfoldable pub any_rule : List ℕ → (ℕ → ℕ → Bool) → ℕ → ℕ → Bool
any_rule page rule a b =
    is_union (kind_of page b)
    && cond (is_union (kind_of page a))
    (all_to (arity page a) (λ i. any_to (arity page b) (λ j. rule (child_of page a i) (child_of page b j))))
    (any_to (arity page b) (λ j. rule a (child_of page b j)))

-- does type a stand for type b, both Known
unfoldable pub known_matches : List ℕ → ℕ → ℕ → Bool
known_matches page a b = cov {R = ℕ → Bool} (λ x. false) (λ y rule x. plain_matches page x y || any_rule page (λ m e. rule e m) x y) b a

unfoldable pub any_matches : List ℕ → ℕ → ℕ → Bool
any_matches page = any_rule page (known_matches page)

-- a Known type stands for a Function if it is Null, a Generic or Fn
unfoldable pub known_for_function : List ℕ → ℕ → Bool
known_for_function page a = eqb a null || (is_kind generic page a || is_kind function page a)

-- a Function stands for Unknown, a Generic, Fn, and a Function with the same parameters and return
unfoldable pub function_matches : List ℕ → ℕ → Checked → Bool
function_matches page f Unknown = true
function_matches page f (Known b) = is_kind generic page b || is_kind function page b
function_matches page f (Function g) = eqb f g

-- does a checked type stand for another: Unknown stands for everything, and everything for it
unfoldable pub matches : List ℕ → Checked → Checked → Bool
matches page Unknown e = true
matches page (Function f) e = function_matches page f e
matches page (Known a) Unknown = true
matches page (Known a) (Known b) = known_matches page a b
matches page (Known a) (Function g) = known_for_function page a

-- ---- checked types that a call is given

-- is the number in use, and a Function's that of a Callback
unfoldable pub in_use : List ℕ → Checked → Bool
in_use page Unknown = true
in_use page (Known t) = ltb t (types_in page)
in_use page (Function t) = ltb t (types_in page) && is_kind callback page t
