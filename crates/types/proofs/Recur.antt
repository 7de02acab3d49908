-- The equation of a recursion on numbers, which holds of every step. Assumes nothing.
use mathlib.Core.Path.{◌≡◌, refl, ap, fun_ext}
use mathlib.Core.Bool.{Bool, true, false}
use Prim.Native.Nat.{ℕ, zero, suc, ◌<◌, ◌≤◌}
use native.Mathlib.Omega.{arith}
use native.Mathlib.Nat.{not-suc-le-zero}
use borrow.Author.Tests.{lt-ltb, le-ltb, ltb-true, ltb-false}
use lib.Dec.{ltb}
use Rattle.types.specs.Recur.{below, run, cov}

pub below_lt : {R : Type 0} (d : R) (n : ℕ) (answers : ℕ → R) (c : ℕ) → c < n → below d n answers c ≡ answers c
unfolding below
below_lt d n answers c h = rw (lt-ltb c n h) refl

below_ge : {R : Type 0} (d : R) (n : ℕ) (answers : ℕ → R) (c : ℕ) → n ≤ c → below d n answers c ≡ d
unfolding below
below_ge d n answers c h = rw (le-ltb c n h) refl

below_same : {R : Type 0} (d : R) (n : ℕ) (p q : ℕ → R) → ((c : ℕ) → c < n → p c ≡ q c) → (c : ℕ) → below d n p c ≡ below d n q c
below_same d n p q h c = go (ltb c n) refl
  where
    go : (b : Bool) → ltb c n ≡ b → below d n p c ≡ below d n q c
    go true e = let l = ltb-true c n e in rw (below_lt d n p c l, below_lt d n q c l) (h c l)
    go false e = let l = ltb-false c n e in rw (below_ge d n p c l, below_ge d n q c l) refl

-- enough steps are enough
run_same : {R : Type 0} (d : R) (step : ℕ → (ℕ → R) → R) (f g n : ℕ) → n < f → n < g → run d step f n ≡ run d step g n
unfolding run
run_same d step zero g n hf hg = absurd (not-suc-le-zero hf)
run_same d step (suc f) zero n hf hg = absurd (not-suc-le-zero hg)
run_same d step (suc f) (suc g) n hf hg =
    ap (step n) (fun_ext (below_same d n (run d step f) (run d step g) (λ c h. run_same d step f g c (omega arith) (omega arith))))

pub cov_eq : {R : Type 0} (d : R) (step : ℕ → (ℕ → R) → R) (n : ℕ) → cov d step n ≡ step n (below d n (cov d step))
unfolding cov run
cov_eq d step n =
    ap (step n) (fun_ext (below_same d n (run d step n) (λ c. run d step (suc c) c) (λ c h. run_same d step n (suc c) c h (omega arith))))
