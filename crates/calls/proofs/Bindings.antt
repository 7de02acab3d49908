-- Bindings as bytes, read and written. Assumes nothing.
use Rattle.std.specs.Prelude.{Option}
use Rattle.std.proofs.Common.{true, false, Result, Ok, Err}
use Rattle.refusals.specs.declared.Refusal.{Refusal}
use mathlib.Core.Path.{◌≡◌, refl, sym, ◌∙◌, ap}
use mathlib.Core.Bool.{Bool, ◌&&◌, ◌||◌, not}
use mathlib.Core.List.{List, [], ◌∷◌, ◌++◌}
use Prim.Native.Nat.{ℕ, ◌+◌, ◌*◌, ◌<◌}
use native.Mathlib.Omega.{arith}
use mathlib.Mathlib.Data.Bool.Basic.{or-eq-false-eq-eq-false-and-eq-false}
use lib.Dec.{ltb}
use lib.ListN.{length, take, drop, replicate, length-append, length-drop}
use lib.Seq.{length-take-le}
use borrow.Author.Tests.{ltb-true, not-false}
use Rattle.refusals.specs.Lowest.{◌when◌}
use Rattle.refusals.specs.declared.Refusal.TheVariants.{Broken, Unused}
use Rattle.refusals.specs.Numbers.{Verdict}
use Rattle.refusals.proofs.Lowest.{passed_parts}
use Rattle.pages.specs.Bytes.{words, low_bytes, put}
use Rattle.pages.proofs.Quant.{and_true}
use Rattle.pages.proofs.Put.{put_append, put_whole}
use Rattle.pages.proofs.Words.{words_length}
use Rattle.pages.proofs.Low.{low_length}
use Rattle.names.specs.Calls.{used_of}
use Rattle.types.specs.Store.{child_bytes, Formed}
use Rattle.types.specs.Types.{types_in}
use Rattle.types.specs.Calls.{store_broken}
use Rattle.types.proofs.Calls.{unbroken_both}
use Rattle.matching.specs.Matching.{in_use}
use Rattle.matching.specs.declared.Checked.{Checked}
use Rattle.matching.specs.declared.Checked.TheVariants.{Known}
use Rattle.bindings.specs.Bindings.{bindings_max, formed}
use Rattle.bindings.specs.declared.Bindings.{Bindings}
use Rattle.bindings.proofs.Bound.{usable}
use Rattle.unification.specs.Unification.{unify_arg, Given}
use Rattle.unification.specs.declared.Unified.{Unified}
use Rattle.unification.proofs.Arguments.{unify_arg_grown}
use Rattle.checked.specs.Calls.{verdict_of, bindings_verdict, kept_by, unified_or, unify_arg_answer, unify_answer}
use Rattle.checked.proofs.Calls.{unify_known}
use Rattle.calls.specs.Types.{types_from, binding_bytes, bytes_of_bindings}

-- ---- read

module _ (bytes : List ℕ) (n : length bytes ≡ binding_bytes) where
  pub names_length : length (take bindings_max (drop 1 bytes)) ≡ bindings_max
  names_length = length-take-le bindings_max (drop 1 bytes) (omega (arith, length-drop 1 bytes, n))

-- ---- written

pub bindings_made : (b : Bindings) → length b.names ≡ bindings_max → length b.types ≡ bindings_max
    → put (put (put (replicate binding_bytes 0) 0 (b.count ∷ [])) 1 (low_bytes b.names)) types_from (words b.types) ≡ bytes_of_bindings b
unfolding bytes_of_bindings
bindings_made b n t =
    let l : List ℕ = replicate binding_bytes 0 in
    let names : List ℕ = low_bytes b.names in
    let k : length names ≡ bindings_max = low_length b.names ∙ n in
    let w : length (words b.types) ≡ child_bytes * bindings_max = words_length b.types ∙ ap (λ (x : ℕ). child_bytes * x) t in
    let e : 0 + length (b.count ∷ names) ≡ types_from = omega (arith, k) in
    ap (λ (x : List ℕ). put x types_from (words b.types)) (put_append l 0 (b.count ∷ []) names (omega (arith, k)))
    ∙ ap (λ (x : ℕ). put (put l 0 (b.count ∷ names)) x (words b.types)) (sym e)
    ∙ put_append l 0 (b.count ∷ names) (words b.types) (omega (arith, k, w))
    ∙ put_whole l (b.count ∷ (names ++ words b.types)) (omega (arith, length-append names (words b.types), k, w))

-- ---- the count after unifying fits in a byte

kept_few : (r : Result Bool Refusal) (new old : Bindings) → new.count < 256 → old.count < 256 → (kept_by r new old).bindings.count < 256
kept_few (Ok true) new old h k = h
kept_few (Ok false) new old h k = h
kept_few (Err r) new old h k = k

arg_few : (page : List ℕ) (names : Option (List ℕ)) (b : Bindings) (e : ℕ) (c : Checked) → b.count < 256
    → length b.names ≡ bindings_max → length b.types ≡ bindings_max
    → (unify_arg_answer page names b e c).bindings.count < 256
unfolding unify_arg_answer bindings_verdict verdict_of
arg_few page names b e c few n t = go (bindings_verdict page names b used) refl
  where
    used : Bool
    used = ltb e (types_in page) && in_use page c

    go : (v : Verdict) → bindings_verdict page names b used ≡ v → (unified_or v (unify_arg page e c b) b).bindings.count < 256
    go (Ok _) h =
        let form = formed (used_of names) (types_in page) b in
        let a = passed_parts Broken (store_broken page names || not form) ((Unused when not used) ∷ []) h in
        let z = (or-eq-false-eq-eq-false-and-eq-false (store_broken page names) (not form)).0 a.0 in
        let w = and_true (ltb e (types_in page)) (in_use page c) (not-false used (passed_parts Unused (not used) [] a.1).0) in
        let f : Formed page = record { names = used_of names; form = (unbroken_both page names z.0).1 } in
        let g : Given b (types_in page) = record { usable = usable (used_of names) (types_in page) b (not-false form z.1); names = n; types = t } in
        let grown = unify_arg_grown page f e (ltb-true e (types_in page) w.0) b g c w.1 in
        kept_few (unify_arg page e c b).answer (unify_arg page e c b).bindings b (omega (arith, grown.given.usable.few)) few
    go (Err r) h = few

module _ (page : List ℕ) (names : Option (List ℕ)) (b : Bindings) (few : b.count < 256) (n : length b.names ≡ bindings_max) (t : length b.types ≡ bindings_max)
    (e : ℕ) (u : Unified) where
  pub unify_arg_few : (c : Checked) → u ≡ unify_arg_answer page names b e c → u.bindings.count < 256
  unify_arg_few c h = rw h (arg_few page names b e c few n t)

  pub unify_few : (a : ℕ) → u ≡ unify_answer page names b e a → u.bindings.count < 256
  unify_few a h = unify_arg_few (Known a) (h ∙ sym (unify_known page names b e a))
