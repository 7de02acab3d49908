-- Tests over the numbers below n, and what holds of every element of a list.
use Rattle.std.specs.Prelude.{Bool, true, false, cond, List, [], ◌∷◌, ℕ, zero, suc}

-- some number below n passes
unfoldable pub any_to : ℕ → (ℕ → Bool) → Bool
any_to zero p = false
any_to (suc n) p = cond (any_to n p) true (p n)

-- every number below n passes
unfoldable pub all_to : ℕ → (ℕ → Bool) → Bool
all_to zero p = true
all_to (suc n) p = cond (all_to n p) (p n) false

-- the first number below n that passes, or n where none does
unfoldable pub first_to : ℕ → (ℕ → Bool) → ℕ
first_to zero p = zero
first_to (suc n) p = cond (any_to n p) (first_to n p) (cond (p n) n (suc n))

-- P holds of every element of a list
abbrev pub Every : {A : Type 0} → (A → Type 0) → List A → Type 0
Every P [] = Unit
Every P (x ∷ xs) = P x × Every P xs
