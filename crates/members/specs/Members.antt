-- The members of a type: "For a union operand every pair of members (a Function has none), flattened one level" (document 01,
-- "Answers"); and the union of several types.
use Rattle.operators.specs.declared.Outcome.{Outcome}
use Rattle.refusals.specs.declared.Refusal.{Refusal}
use Rattle.std.specs.Prelude.{Bool, cond, List, [], ◌∷◌, ◌++◌, ℕ, zero, suc, ◌*◌, eqb, ltb, length, get_or, Result, Ok, Err}
use Rattle.std.specs.List.{list_any}
use Rattle.refusals.specs.declared.Refusal.TheVariants.{Width}
use Rattle.kinds.specs.Kinds.{children_max, any, is_union}
use Rattle.types.specs.Types.{kind_of, arity, child_of}
use Rattle.types.specs.Making.{entry_of, enter_answer, enter_page}
use Rattle.matching.specs.declared.Checked.TheVariants.{Known}
use Rattle.operators.specs.Outcome.{no_error, outcome}

-- how many members a type has at most
abbrev pub members_max : ℕ
members_max = children_max * children_max

-- the lists f 0, f 1, up to n of them, one after the other
unfoldable pub gather : ℕ → (ℕ → List ℕ) → List ℕ
gather zero f = []
gather (suc n) f = gather n f ++ f n

-- what child x of a union gives: if it is a union itself, its children
unfoldable pub share_of : List ℕ → ℕ → List ℕ
share_of page x = cond (is_union (kind_of page x)) (gather (arity page x) (λ i. child_of page x i ∷ [])) (x ∷ [])

-- the members of type t, which is its only one where it is no union
unfoldable pub members_of : List ℕ → ℕ → List ℕ
members_of page t = cond (is_union (kind_of page t)) (gather (arity page t) (λ i. share_of page (child_of page t i))) (t ∷ [])

-- how many they are
abbrev pub size_of : List ℕ → ℕ → ℕ
size_of page t = length (members_of page t)

-- member i
abbrev pub member : List ℕ → ℕ → ℕ → ℕ
member page t i = get_or (members_of page t) i 0

-- ---- "Equal result types merge"

-- does a list have this type
unfoldable pub has : ℕ → List ℕ → Bool
has t xs = list_any (λ x. eqb x t) xs

-- one more result, at the end if it is new
unfoldable pub merged : ℕ → List ℕ → List ℕ
merged t results = cond (has t results) results (results ++ (t ∷ []))

-- ---- the union of results

-- what entering a type came to, and the store afterwards
pub record Entered : Type 0 where
  pub made : Result ℕ Refusal
  pub store : List ℕ

abbrev pub entered : Result ℕ Refusal → List ℕ → Entered
entered m s = record { made = m; store = s }

-- one result stays itself; several make a union, refused where it is "wider than 16". Where there is none nothing is entered: a check
-- without a result has an error
unfoldable pub union_of : List ℕ → List ℕ → Entered
union_of store [] = entered (Ok 0) store
union_of store (t ∷ []) = entered (Ok t) store
union_of store (t ∷ u ∷ ts) =
    cond (ltb children_max (length (t ∷ u ∷ ts))) (entered (Err Width) store)
    (entered (enter_answer store (entry_of any (t ∷ u ∷ ts) 0)) (enter_page store (entry_of any (t ∷ u ∷ ts) 0)))

-- ---- a check's conclusion, and the store afterwards

pub record Concluded : Type 0 where
  pub conclusion : Result Outcome Refusal
  pub store : List ℕ

abbrev pub concluded : Result Outcome Refusal → List ℕ → Concluded
concluded c s = record { conclusion = c; store = s }

-- the type that was entered, without an error, or the refusal
abbrev pub conclude : Result ℕ Refusal → Result Outcome Refusal
conclude (Ok t) = Ok (outcome (Known t) no_error)
conclude (Err r) = Err r
