-- What the calls on checked types answer, and leave in the page (document 01, "Types" and the table of refusals). 2 is for the names, the store and the bindings together, 3 for
-- the numbers together.
use Rattle.refusals.specs.declared.Refusal.{Refusal}
use Rattle.std.specs.Prelude.{Bool, true, ◌&&◌, ◌||◌, not, List, [], ◌∷◌, ℕ, ltb, Result, Ok, Err, Option}
use Rattle.refusals.specs.Lowest.{◌when◌, lowest, unless_refused, answer_of, guarded}
use Rattle.refusals.specs.declared.Refusal.TheVariants.{Broken, Unused}
use Rattle.refusals.specs.Numbers.{Verdict}
use Rattle.names.specs.Calls.{used_of}
use Rattle.types.specs.Types.{types_in}
use Rattle.types.specs.Calls.{store_broken, const_answer, const_page}
use Rattle.matching.specs.Matching.{matches, in_use}
use Rattle.matching.specs.Memo.{fits}
use Rattle.matching.specs.declared.Checked.{Checked}
use Rattle.matching.specs.declared.Checked.TheVariants.{Known, Unknown, Function}
use Rattle.bindings.specs.Bindings as bindings
use Rattle.bindings.specs.Generics.{has_generic, substitute}
use Rattle.bindings.specs.declared.Bindings.{Bindings}
use Rattle.unification.specs.Unification.{unified, unify, unify_arg}
use Rattle.unification.specs.declared.Unified.{Unified}

-- ---- refusals that calls share

-- 2 the names, the store, or something else that has a form; 3 a number
unfoldable pub verdict_of : List ℕ → Option (List ℕ) → Bool → Bool → Verdict
verdict_of page names formed used = lowest ((Broken when (store_broken page names || not formed)) ∷ (Unused when not used) ∷ [])

-- ---- `matches`

unfoldable pub matches_answer : List ℕ → Option (List ℕ) → Checked → Checked → Result Bool Refusal
matches_answer page names actual expected =
    answer_of (verdict_of page names true (in_use page actual && in_use page expected)) (matches page actual expected)

-- ---- `has_generic`

unfoldable pub generic_answer : List ℕ → Option (List ℕ) → ℕ → Result Bool Refusal
generic_answer page names t = answer_of (verdict_of page names true (ltb t (types_in page))) (has_generic page t)

-- ---- `into_const`: the const form of a Known type, everything else as it is

-- the type that was made
abbrev pub of_made : Result ℕ Refusal → Result Checked Refusal
of_made (Ok t) = Ok (Known t)
of_made (Err r) = Err r

abbrev pub const_of : List ℕ → Checked → Result Checked Refusal
const_of page Unknown = Ok Unknown
const_of page (Known t) = of_made (const_answer page t)
const_of page (Function t) = Ok (Function t)

abbrev pub const_after : List ℕ → Checked → List ℕ
const_after page Unknown = page
const_after page (Known t) = const_page page t
const_after page (Function t) = page

unfoldable pub into_const : List ℕ → Option (List ℕ) → Checked → Result Checked Refusal
into_const page names c = guarded (verdict_of page names true (in_use page c)) (const_of page c)

unfoldable pub into_const_page : List ℕ → Option (List ℕ) → Checked → List ℕ
into_const_page page names c = unless_refused (verdict_of page names true (in_use page c)) (const_after page c) page

-- ---- `substitute`

-- 2 also for bindings that break their form
unfoldable pub bindings_verdict : List ℕ → Option (List ℕ) → Bindings → Bool → Verdict
bindings_verdict page names b used = verdict_of page names (bindings.formed (used_of names) (types_in page) b) used

unfoldable pub substitute_answer : List ℕ → Option (List ℕ) → Bindings → ℕ → Result ℕ Refusal
substitute_answer page names b t = guarded (bindings_verdict page names b (ltb t (types_in page))) (substitute b t page).made

-- a refusal in the walk, too, restores the store
unfoldable pub substitute_page : List ℕ → Option (List ℕ) → Bindings → ℕ → List ℕ
substitute_page page names b t =
    unless_refused (bindings_verdict page names b (ltb t (types_in page))) (unless_refused (substitute b t page).made (substitute b t page).store page) page

-- ---- `unify` and `unify_arg`

-- are the types of an argument and a parameter, and those that names are bound to, numbered below n
unfoldable pub fits_bound : ℕ → Bindings → ℕ → Checked → Bool
fits_bound n b e actual = fits n (Known e) actual && bindings.types_below b n

-- "a plain no from unify keeps its bindings"; a refusal, in the walk too, gives back those that came in
abbrev pub kept_by : Result Bool Refusal → Bindings → Bindings → Unified
kept_by (Ok holds) new old = unified (Ok holds) new
kept_by (Err r) new old = unified (Err r) old

abbrev pub unified_or : Verdict → Unified → Bindings → Unified
unified_or (Ok _) u b = kept_by u.answer u.bindings b
unified_or (Err r) u b = unified (Err r) b

-- an expected type, and an actual checked type
unfoldable pub unify_arg_answer : List ℕ → Option (List ℕ) → Bindings → ℕ → Checked → Unified
unify_arg_answer page names b e c =
    unified_or (bindings_verdict page names b (ltb e (types_in page) && in_use page c)) (unify_arg page e c b) b

-- an expected type, and an actual one
unfoldable pub unify_answer : List ℕ → Option (List ℕ) → Bindings → ℕ → ℕ → Unified
unify_answer page names b e a =
    unified_or (bindings_verdict page names b (ltb e (types_in page) && ltb a (types_in page))) (unify page e a b) b
