-- Recursion on a type's number over every lower one: `cov` of a step. The step is handed the answers for the numbers below n, and d
-- for every other; "each child is numbered below its parent" (document 01, "Types"), so a step asks only of numbers below.
use Rattle.std.specs.Prelude.{cond, ℕ, zero, suc, ltb}

-- the answers for the numbers below n, and d for the others
unfoldable pub below : {R : Type 0} → R → ℕ → (ℕ → R) → ℕ → R
below d n answers c = cond (ltb c n) (answers c) d

-- the answer for n, at most f steps deep
unfoldable pub run : {R : Type 0} → R → (ℕ → (ℕ → R) → R) → ℕ → ℕ → R
run d step zero n = d
run d step (suc f) n = step n (below d n (run d step f))

-- the answer for n: its step, over the answers below n (`cov_eq` in proofs/Recur.antt)
unfoldable pub cov : {R : Type 0} → R → (ℕ → (ℕ → R) → R) → ℕ → R
cov d step n = run d step (suc n) n
