-- The items of a list that stand a number of places apart, as `step_by` gives them. Assumes nothing.
use mathlib.Core.Path.{◌≡◌, refl, sym, ◌∙◌, ap, subst}
use mathlib.Core.Bool.{Bool, true, cond}
use mathlib.Core.List.{List, [], ◌∷◌}
use Prim.Native.Nat.{ℕ, zero, suc, ◌-◌, ◌≤◌, ◌<◌}
use native.Mathlib.Omega.{arith}
use lib.ListN.{length, drop}
use Rattle.std.proofs.Common.{length-drop}
use Rattle.std.specs.Prelude.{Option, None}
use Rattle.std.specs.declared.iter.StepBy.{StepBy}
use Rattle.std.specs.Iterator.{AlwaysYields, Yields}
use Rattle.std.specs.Iterator.Adapters.{step_by_source, step_by_gap, step_by_first_take, step_by_steps}
use Rattle.std.proofs.lemmas.Iterator.{YieldsList}

-- those of a list after the first n, each g places behind the one before it
abbrev pub strided : {B : Type 0} → ℕ → ℕ → List B → List B
strided g n [] = []
strided g zero (y ∷ ys) = y ∷ strided g g ys
strided g (suc n) (y ∷ ys) = strided g n ys

pub strided_drop : {B : Type 0} (g n : ℕ) (ys : List B) → strided g n ys ≡ strided g 0 (drop n ys)
strided_drop g zero ys = refl
strided_drop g (suc n) [] = refl
strided_drop g (suc n) (y ∷ ys) = strided_drop g n ys

module _ {S A B : Type 0} (steps : S → Option A → S → Type 0) (v : A → B) where
  -- what is left to come after some items
  past : (ys : List B) (s t : S) (xs : List A) → AlwaysYields steps v s ys → Yields steps s xs t → AlwaysYields steps v t (drop (length xs) ys)
  past ys s t [] e q = subst (λ u. AlwaysYields steps v u ys) q e
  past [] s t (x ∷ xs) e q = absurd (e x q.0 q.1)
  past (y ∷ ys) s t (x ∷ xs) e q = past ys q.0 t xs (e.1 x q.0 q.1).1 q.2

  goes_on : (ys : List B) (s j : S) → 0 < length ys → AlwaysYields steps v s ys → steps s None j → ⊥
  goes_on [] s j h e p = absurd (omega (arith, h))
  goes_on (y ∷ ys) s j h e p = e.0 j p

  -- the first of them, and those behind it, where shorter lists are known
  module _ (ys : List B) (s : StepBy S) (g n : ℕ) (c : cond (step_by_first_take s) 0 (step_by_gap s) ≡ n) (d : step_by_gap s ≡ g) (e : AlwaysYields steps v (step_by_source s) ys)
      (again : (zs : List B) → length zs < length ys → (j : StepBy S) → cond (step_by_first_take j) 0 (step_by_gap j) ≡ g → step_by_gap j ≡ g → AlwaysYields steps v (step_by_source j) zs
      → AlwaysYields (step_by_steps steps) v j (strided g g zs)) where
    stride : (zs : List B) → drop n ys ≡ zs → AlwaysYields (step_by_steps steps) v s (strided g 0 zs)
    stride [] z = λ x j p.
        let q = p.2 in
        let at : length q.1 ≡ n = q.4 ∙ q.2 ∙ c in
        let k : AlwaysYields steps v q.3.0 [] = subst (AlwaysYields steps v q.3.0) (ap (λ (i : ℕ). drop i ys) at ∙ z) (past ys (step_by_source s) q.3.0 q.1 e q.3.1) in
        k x (step_by_source j) q.3.2
    stride (z ∷ zs) is =
        let left : length ys - n ≡ suc (length zs) = sym (length-drop n ys) ∙ ap length is in (
          (λ j p.
              let q = p.2 in
              let size = length-drop (length q.1) ys in
              goes_on (drop (length q.1) ys) q.3.0 (step_by_source j) (omega (arith, left, q.4, q.2, c, size)) (past ys (step_by_source s) q.3.0 q.1 e q.3.1) q.3.2),
          λ x j p.
              let q = p.2 in
              let at : length q.1 ≡ n = q.4 ∙ q.2 ∙ c in
              let k : AlwaysYields steps v q.3.0 (z ∷ zs) = subst (AlwaysYields steps v q.3.0) (ap (λ (i : ℕ). drop i ys) at ∙ is) (past ys (step_by_source s) q.3.0 q.1 e q.3.1) in
              let r = k.1 x (step_by_source j) q.3.2 in
              let gap : step_by_gap j ≡ g = p.0 ∙ d in
              (r.0, again zs (omega (arith, left)) j (ap (λ (b : Bool). cond b 0 (step_by_gap j)) p.1 ∙ gap) gap r.1),
        )

  strides : (m : ℕ) (ys : List B) → length ys ≤ m → (s : StepBy S) (g n : ℕ) → cond (step_by_first_take s) 0 (step_by_gap s) ≡ n → step_by_gap s ≡ g
      → AlwaysYields steps v (step_by_source s) ys → AlwaysYields (step_by_steps steps) v s (strided g n ys)
  strides zero ys h s g n c d e =
      subst (AlwaysYields (step_by_steps steps) v s) (sym (strided_drop g n ys)) (stride ys s g n c d e (λ zs l j a b k. absurd (omega (arith, h, l))) (drop n ys) refl)
  strides (suc m) ys h s g n c d e =
      subst (AlwaysYields (step_by_steps steps) v s) (sym (strided_drop g n ys))
      (stride ys s g n c d e (λ zs l j a b k. strides m zs (omega (arith, h, l)) j g g a b k) (drop n ys) refl)

pub YieldsList-from_step_by : {S A B : Type 0} {steps : S → Option A → S → Type 0} {v : A → B} {ys : List B} {s : StepBy S} (g : ℕ) → YieldsList steps v (step_by_source s) ys → step_by_first_take s ≡ true → step_by_gap s ≡ g → YieldsList (step_by_steps steps) v s (strided g 0 ys)
YieldsList-from_step_by {S} {A} {B} {steps} {v} {ys} {s} g e f d = record { runs = strides steps v (length ys) ys (omega arith) s g 0 (ap (λ (b : Bool). cond b 0 (step_by_gap s)) f) d e.runs }
