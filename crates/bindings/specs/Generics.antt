-- Types with generic names in them (document 01, "Types"; `has_generic` and `substitute` in the source's types.rs).
use Rattle.std.specs.Prelude.{Option, Some, None, ◌≡◌, Bool, false, ◌&&◌, ◌||◌, cond, List, [], ◌∷◌, ◌++◌, ℕ, zero, suc, ◌<◌, eqb, length, get_or, Result, Ok, Err}
use Rattle.refusals.specs.declared.Refusal.{Refusal}
use Rattle.pages.specs.Quant.{any_to}
use Rattle.kinds.specs.Kinds.{callback, generic, is_built}
use Rattle.types.specs.Store.{types_max, Formed}
use Rattle.types.specs.Types.{types_in, kind_of, arity, child_of, name_of}
use Rattle.types.specs.Recur.{cov}
use Rattle.types.specs.Making.{entry_of, enter_answer, enter_page, Grows}
use Rattle.bindings.specs.Bindings.{is_bound, bound_to, Usable}
use Rattle.bindings.specs.declared.Bindings.{Bindings}

-- the kinds whose children both functions enter: arrays, sets, results, maps, tuples and callbacks, and no union
abbrev pub is_entered : ℕ → Bool
is_entered k = is_built k || eqb k callback

-- ---- `has_generic`

-- given the answers for lower types
unfoldable pub generic_rule : List ℕ → (ℕ → Bool) → ℕ → Bool
generic_rule page rule t =
    eqb (kind_of page t) generic || (is_entered (kind_of page t) && any_to (arity page t) (λ i. rule (child_of page t i)))

unfoldable pub has_generic : List ℕ → ℕ → Bool
has_generic page = cov false (λ t rule. generic_rule page rule t)

-- a list says it of every type below t
abbrev pub Told : List ℕ → List Bool → ℕ → Type 0
Told page found t = (k : ℕ) → k < t → get_or found k false ≡ has_generic page k

-- ---- `substitute`: "goes left to right, children before parent, and enters no union"

-- what making a type came to, and the store afterwards
pub record Outcome : Type 0 where
  pub made : Result ℕ Refusal
  pub store : List ℕ

abbrev pub outcome : Result ℕ Refusal → List ℕ → Outcome
outcome m s = record { made = m; store = s }

-- children made so far, in order, and the store afterwards; or the first refusal
pub data Kids : Type 0 where
  so_far : List ℕ → List ℕ → Kids
  stopped : Refusal → List ℕ → Kids

-- one more child
unfoldable pub one_more : List ℕ → Result ℕ Refusal → List ℕ → Kids
one_more ks (Ok r) s = so_far (ks ++ (r ∷ [])) s
one_more ks (Err q) s = stopped q s

unfoldable pub kid_next : (ℕ → List ℕ → Outcome) → ℕ → Kids → Kids
kid_next rule child (so_far ks s) = one_more ks (rule child s).made (rule child s).store
kid_next rule child (stopped q s) = stopped q s

-- the first k children of type t, each made in the store that the one before it left
unfoldable pub kids_to : (ℕ → List ℕ → Outcome) → List ℕ → ℕ → ℕ → Kids
kids_to rule page t zero = so_far [] page
kids_to rule page t (suc k) = kid_next rule (child_of page t k) (kids_to rule page t k)

-- the parent, of kind k, after them
unfoldable pub rebuilt : ℕ → Kids → Outcome
rebuilt k (so_far ks s) = outcome (enter_answer s (entry_of k ks 0)) (enter_page s (entry_of k ks 0))
rebuilt k (stopped q s) = outcome (Err q) s

-- given the outcomes for lower types: a bound Generic is its type, a kind that is entered is made anew, everything else is itself
unfoldable pub substitute_rule : Bindings → ℕ → (ℕ → List ℕ → Outcome) → List ℕ → Outcome
substitute_rule b t rule page =
    cond (eqb (kind_of page t) generic)
    (outcome (Ok (cond (is_bound b (name_of page t)) (bound_to b (name_of page t)) t)) page)
    (cond (is_entered (kind_of page t)) (rebuilt (kind_of page t) (kids_to rule page t (arity page t))) (outcome (Ok t) page))

unfoldable pub substitute : Bindings → ℕ → List ℕ → Outcome
substitute b = cov {R = List ℕ → Outcome} (λ page. outcome (Ok 0) page) (λ t rule. substitute_rule b t rule)

-- what a list says of the types substituted so far: under t what it came to, for this store and every store that grows out of it
pub record Remembered (b : Bindings) (page : List ℕ) (done : List (Option ℕ)) : Type 0 where
  pub size : length done ≡ types_max
  pub right : (t r : ℕ) → get_or done t None ≡ Some r → (q : List ℕ) → Grows page q → Formed q → substitute b t q ≡ outcome (Ok r) q

-- a type that is to be substituted, in a store
pub record Working (b : Bindings) (page : List ℕ) (done : List (Option ℕ)) (t : ℕ) : Type 0 where
  pub used : t < types_in page
  pub usable : Usable b (types_in page)
  pub remembered : Remembered b page done
