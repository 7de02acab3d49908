-- Fitting an actual type to an expected one that may bear generic names (document 01, "Types"; `unify` and `unify_arg` in the source's
-- types.rs). The expected type comes first.
use Rattle.refusals.specs.declared.Refusal.{Refusal}
use Rattle.std.specs.Prelude.{◌≡◌, Bool, true, false, ◌&&◌, ◌||◌, cond, List, ℕ, zero, suc, ◌+◌, ◌*◌, ◌/◌, ◌%◌, ltb, eqb, length, Result, Ok, Err}
use Rattle.refusals.specs.declared.Refusal.TheVariants.{Full}
use Rattle.kinds.specs.Kinds.{null, callback, generic, is_int, is_byte, is_array, is_set, is_result, is_map, is_tuple}
use Rattle.types.specs.Types.{kind_of, arity, child_of, name_of}
use Rattle.types.specs.Recur.{cov}
use Rattle.matching.specs.Matching.{both, is_kind, known_matches, function_matches}
use Rattle.matching.specs.declared.Checked.{Checked}
use Rattle.matching.specs.declared.Checked.TheVariants.{Known, Unknown, Function}
use Rattle.bindings.specs.Bindings.{bindings_max, is_bound, bound_to, with_binding, Usable}
use Rattle.bindings.specs.declared.Bindings.{Bindings}
use Rattle.unification.specs.declared.Unified.{Unified}

-- an answer, and the bindings beside it
abbrev pub unified : Result Bool Refusal → Bindings → Unified
unified r b = record { answer = r; bindings = b }

-- a plain yes or no
abbrev pub said : Bool → Bindings → Unified
said holds b = unified (Ok holds) b

-- what comes after a yes; a no or a refusal ends it, with the bindings so far
unfoldable pub and_then : Result Bool Refusal → Bindings → (Bindings → Unified) → Unified
and_then (Ok true) b next = next b
and_then (Ok false) b next = unified (Ok false) b
and_then (Err r) b next = unified (Err r) b

-- the first k children of both, in order
unfoldable pub pairs_to : (ℕ → ℕ → Bindings → Unified) → List ℕ → ℕ → ℕ → ℕ → Bindings → Unified
pairs_to rule page e a zero b = unified (Ok true) b
pairs_to rule page e a (suc k) b =
    and_then (pairs_to rule page e a k b).answer (pairs_to rule page e a k b).bindings (rule (child_of page e k) (child_of page a k))

-- as many children, and each pair of them: "Unequal lengths bind nothing"
unfoldable pub all_pairs : (ℕ → ℕ → Bindings → Unified) → List ℕ → ℕ → ℕ → Bindings → Unified
all_pairs rule page e a b = cond (eqb (arity page e) (arity page a)) (pairs_to rule page e a (arity page e) b) (unified (Ok false) b)

-- a generic name: what it is bound to must match, and an unbound one is bound; 10 where it would be the 33rd
unfoldable pub generic_unify : List ℕ → ℕ → ℕ → Bindings → Unified
generic_unify page name a b =
    cond (is_bound b name) (said (known_matches page (bound_to b name) a) b)
    (cond (ltb b.count bindings_max) (unified (Ok true) (with_binding b name a)) (unified (Err Full) b))

-- "An empty literal adopts the needed element type" (types.rs), and "Array Byte takes Array Int"
unfoldable pub is_adopted : List ℕ → ℕ → ℕ → Bool
is_adopted page e a =
    eqb (child_of page a 0) null || (is_byte (kind_of page (child_of page e 0)) && is_int (kind_of page (child_of page a 0)))

-- are two kinds both arrays, sets, results, maps or tuples, so that children are compared in pairs
unfoldable pub is_alike : ℕ → ℕ → Bool
is_alike k m =
    (is_array k && is_array m) || ((is_set k && is_set m) || ((is_result k && is_result m) || ((is_map k && is_map m) || (is_tuple k && is_tuple m))))

-- `unify`, given its answers for lower expected types; in the last case the expected type stands in the actual one's place, as in the
-- source
unfoldable pub unify_rule : List ℕ → (ℕ → ℕ → Bindings → Unified) → ℕ → ℕ → Bindings → Unified
unify_rule page rule e a b =
    cond (is_kind generic page e) (generic_unify page (name_of page e) a b)
    (cond (both is_array page e a) (cond (is_adopted page e a) (unified (Ok true) b) (rule (child_of page e 0) (child_of page a 0) b))
    (cond (both is_set page e a) (rule (child_of page e 0) (child_of page a 0) b)
    (cond (both is_result page e a) (rule (child_of page e 0) (child_of page a 0) b)
    (cond (both is_map page e a) (pairs_to rule page e a 2 b)
    (cond (both is_tuple page e a) (all_pairs rule page e a b)
    (said (known_matches page e a) b))))))

unfoldable pub unify : List ℕ → ℕ → ℕ → Bindings → Unified
unify page = cov {R = ℕ → Bindings → Unified} (λ a b. unified (Ok false) b) (λ e rule. unify_rule page rule e)

-- `unify_arg`: a Callback takes a Function by its parameters and return, in order; everything takes Unknown
unfoldable pub unify_arg : List ℕ → ℕ → Checked → Bindings → Unified
unify_arg page e Unknown b = unified (Ok true) b
unify_arg page e (Known a) b = unify page e a b
unify_arg page e (Function f) b =
    cond (is_kind callback page e) (all_pairs (unify page) page e f b) (said (function_matches page f (Known e)) b)

-- bindings as a call has them: few, of types in use, and as many places as there may be
pub record Given (b : Bindings) (t : ℕ) : Type 0 where
  pub usable : Usable b t
  pub names : length b.names ≡ bindings_max
  pub types : length b.types ≡ bindings_max

-- ---- pairs met again

-- every name that is bound stays bound to the same type
pub record Extends (b c : Bindings) : Type 0 where
  pub stays : (name : ℕ) → is_bound b name ≡ true → (is_bound c name ≡ true) × (bound_to c name ≡ bound_to b name)

-- a pair that was answered yes is answered yes again, and binds nothing more
abbrev pub Settled : List ℕ → Bindings → ℕ → ℕ → Type 0
Settled page b e a = (c : Bindings) → Extends b c → unify page e a c ≡ unified (Ok true) c

-- the row and the column of a pair; two expected types share a row
abbrev pub seen_row : ℕ → ℕ
seen_row e = e / 2

abbrev pub seen_column : ℕ → ℕ → ℕ
seen_column e a = 2 * a + e % 2

-- a mark says that its pair is settled
abbrev pub SettledAt : List ℕ → Bindings → List ℕ → ℕ → ℕ → Type 0
SettledAt page b seen row column = Settled page b (2 * row + column % 2) (column / 2)
