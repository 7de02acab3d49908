-- Results merged, and their union: one law for each return. Assumes nothing.
use Rattle.std.proofs.Common.{Ok, Err}
use mathlib.Core.Path.{◌≡◌, refl, sym, ◌∙◌, ap}
use mathlib.Core.Bool.{true, false}
use mathlib.Core.List.{List, [], ◌∷◌}
use Prim.Native.Nat.{ℕ, ◌+◌, ◌<◌, ◌≤◌}
use native.Mathlib.Numerals.{add-one}
use native.Mathlib.Omega.{arith}
use lib.Dec.{eqb}
use lib.ListN.{length, get_or, set, take, length-append}
use lib.Seq.{take-suc-set, length-take-le}
use borrow.Author.Tests.{lt-ltb, le-ltb}
use Rattle.std.specs.List.{list_any}
use Rattle.refusals.specs.declared.Refusal.TheVariants.{Width}
use Rattle.kinds.specs.Kinds.{children_max, any}
use Rattle.types.specs.Types.{types_in, Measured}
use Rattle.types.specs.Making.{entry_of, Ready, enter_answer, enter_page}
use Rattle.types.specs.Calls.{all_below}
use Rattle.members.specs.Members.{members_max, has, merged, entered, union_of}
use Rattle.members.proofs.Unions.{union_enterable}

-- ---- one more result

-- what `merge` promises
abbrev pub Merges : (types after : List ℕ) (n t r : ℕ) → Type 0
Merges types after n t r =
    (r ≤ n + 1) × (take r after ≡ merged t (take n types)) × (r ≡ length (merged t (take n types)))

module _ (types : List ℕ) (n t : ℕ) (size : length types ≡ members_max) (l : n < members_max) where
  pub merge_there : list_any (λ x. eqb x t) (take n types) ≡ true → Merges types types n t n
  unfolding merged has
  merge_there h = rw h (omega arith, refl, sym (length-take-le n types (omega arith)))

  pub merge_new : list_any (λ x. eqb x t) (take n types) ≡ false → Merges types (set types n t) n t (n + 1)
  unfolding merged has
  merge_new h =
      rw h (
        omega arith,
        rw (add-one n) (take-suc-set types n t (omega arith)),
        sym (length-append (take n types) (t ∷ []) ∙ ap (λ (k : ℕ). k + 1) (length-take-le n types (omega arith))),
      )

-- ---- the union of results

module _ (page : List ℕ) where
  pub union_one : (ts : List ℕ) → length ts ≡ 1 → entered (Ok (get_or ts 0 0)) page ≡ union_of page ts
  unfolding union_of
  union_one [] e = absurd (omega arith)
  union_one (t ∷ []) e = refl
  union_one (t ∷ u ∷ ts) e = absurd (omega arith)

  pub union_wide : (ts : List ℕ) → children_max < length ts → entered (Err Width) page ≡ union_of page ts
  unfolding union_of
  union_wide [] h = absurd (omega arith)
  union_wide (t ∷ []) h = absurd (omega arith)
  union_wide (t ∷ u ∷ ts) h = rw (lt-ltb children_max (length (t ∷ u ∷ ts)) h) refl

  pub union_several : (ts : List ℕ) → 1 < length ts → length ts ≤ children_max
      → entered (enter_answer page (entry_of any ts 0)) (enter_page page (entry_of any ts 0)) ≡ union_of page ts
  unfolding union_of
  union_several [] h l = absurd (omega arith)
  union_several (t ∷ []) h l = absurd (omega arith)
  union_several (t ∷ u ∷ ts) h l = rw (le-ltb children_max (length (t ∷ u ∷ ts)) l) refl

  -- it can be entered
  pub union_ready : (os ds ts : List ℕ) → Measured page os ds → all_below (types_in page) ts ≡ true → length ts ≤ children_max
      → Ready page os ds (entry_of any ts 0)
  union_ready os ds ts m b l = record { measured = m; enterable = union_enterable page ts m.held.sound l b }
