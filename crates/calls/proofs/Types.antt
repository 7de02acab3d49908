-- A type that is read, as bytes: how they are made, and that depth and children find their places; a checked type that is answered.
-- Assumes nothing.
use Rattle.std.specs.Prelude.{Option}
use Rattle.std.proofs.Common.{Ok, Err, IfOk}
use mathlib.Core.Path.{◌≡◌, refl, ◌∙◌, ap}
use mathlib.Core.Bool.{not}
use mathlib.Core.List.{List, [], ◌∷◌}
use Prim.Native.Nat.{ℕ, ◌<◌, ◌≤◌}
use native.Mathlib.Nat.{mod-eq_of_lt}
use native.Mathlib.Omega.{arith}
use lib.Dec.{ltb}
use lib.ListN.{length, replicate}
use borrow.Author.Tests.{ltb-true, not-false}
use Rattle.refusals.specs.Lowest.{◌when◌, answer_of}
use Rattle.refusals.specs.declared.Refusal.TheVariants.{Broken, Unused}
use Rattle.refusals.specs.Numbers.{Verdict}
use Rattle.refusals.proofs.Lowest.{passed_parts}
use Rattle.pages.specs.Bytes.{put}
use Rattle.pages.specs.Pad.{pad}
use Rattle.pages.proofs.Pad.{length_pad}
use Rattle.pages.proofs.Put.{put_append, put_whole}
use Rattle.names.specs.Calls.{used_of}
use Rattle.kinds.specs.Kinds.{children_max}
use Rattle.types.specs.Store.{types_max, Formed}
use Rattle.types.specs.Types.{types_in}
use Rattle.types.specs.Making.{entry_max}
use Rattle.types.specs.Calls.{store_broken, type_at, read_verdict, read_answer}
use Rattle.types.proofs.Types.{few_children}
use Rattle.types.proofs.Depth.{type_flat}
use Rattle.types.proofs.Calls.{unbroken_both}
use Rattle.matching.specs.declared.Checked.{Checked}
use Rattle.matching.specs.declared.Checked.TheVariants.{Known, Unknown, Function}
use Rattle.calls.specs.Types.{type_bytes, answered_functions, number_in}

-- the depth and the entry in their places
pub type_made : (d : ℕ) (e body : List ℕ) → body ≡ pad entry_max 0 e → put (put (replicate type_bytes 0) 0 (d ∷ [])) 1 body ≡ pad type_bytes 0 (d ∷ e)
unfolding pad
type_made d e body is =
    let n : length body ≡ entry_max = ap length is ∙ length_pad entry_max 0 e in
    put_append (replicate type_bytes 0) 0 (d ∷ []) body (omega (arith, n))
    ∙ put_whole (replicate type_bytes 0) (d ∷ body) (omega (arith, n))
    ∙ ap (λ (l : List ℕ). d ∷ l) is

-- what is read finds its places
pub read_small : (page : List ℕ) (names : Option (List ℕ)) (t : ℕ) → IfOk (read_answer page names t) (λ s. (s.depth < 256) × (s.count ≤ children_max))
unfolding read_answer read_verdict type_at
read_small page names t = go (read_verdict page names t) refl
  where
    go : (v : Verdict) → read_verdict page names t ≡ v → IfOk (answer_of v (type_at page t)) (λ s. (s.depth < 256) × (s.count ≤ children_max))
    go (Ok _) e =
        let a = passed_parts Broken (store_broken page names) ((Unused when not (ltb t (types_in page))) ∷ []) e in
        let b = passed_parts Unused (not (ltb t (types_in page))) [] a.1 in
        let f : Formed page = record { names = used_of names; form = (unbroken_both page names a.0).1 } in
        let u = ltb-true t (types_in page) (not-false (ltb t (types_in page)) b.0) in
        (omega (arith, type_flat page f t u), few_children page f t u)
    go (Err r) e = tt

-- ---- a checked type that is answered

-- its type is one of 4,096
abbrev pub Numbered : Checked → Type 0
Numbered (Known t) = t < types_max
Numbered (Function t) = t < types_max
Numbered Unknown = Unit

-- two that are answered with one number are one
pub numbers_apart : (c d : Checked) → Numbered c → Numbered d → number_in c ≡ number_in d → c ≡ d
numbers_apart (Known t) (Known u) h k e = ap Known e
numbers_apart (Known t) (Function u) h k e = absurd (let q = mod-eq_of_lt {n = u} {m = answered_functions} (omega arith) in omega arith)
numbers_apart (Known t) Unknown h k e = absurd (omega arith)
numbers_apart (Function t) (Known u) h k e = absurd (let q = mod-eq_of_lt {n = t} {m = answered_functions} (omega arith) in omega arith)
numbers_apart (Function t) (Function u) h k e =
    let p = mod-eq_of_lt {n = t} {m = answered_functions} (omega arith) in
    let q = mod-eq_of_lt {n = u} {m = answered_functions} (omega arith) in
    ap Function (omega arith)
numbers_apart (Function t) Unknown h k e = absurd (let p = mod-eq_of_lt {n = t} {m = answered_functions} (omega arith) in omega arith)
numbers_apart Unknown (Known u) h k e = absurd (omega arith)
numbers_apart Unknown (Function u) h k e = absurd (let q = mod-eq_of_lt {n = u} {m = answered_functions} (omega arith) in omega arith)
numbers_apart Unknown Unknown h k e = refl
