-- Numbered things in buckets: the last of the first i things in a bucket, and the tables that hold it.
use Rattle.std.specs.Prelude.{Bool, false, ◌||◌, cond, List, ◌≡◌, ℕ, zero, suc, ◌<◌, ◌≤◌, length, get_or, eqb}

-- one more than the last of the first i things that is in bucket b, or 0 where none is
unfoldable pub last_below : (ℕ → ℕ) → ℕ → ℕ → ℕ
last_below bucket zero b = zero
last_below bucket (suc i) b = cond (eqb (bucket i) b) (suc i) (last_below bucket i b)

-- for each bucket, the last of the first i things in it
abbrev pub Heads : (ℕ → ℕ) → List ℕ → ℕ → Type 0
Heads bucket heads i = (b : ℕ) → b < length heads → get_or heads b 0 ≡ last_below bucket i b

-- for each of the first i things, the one before it in its bucket
abbrev pub Links : (ℕ → ℕ) → List ℕ → ℕ → Type 0
Links bucket links i = (j : ℕ) → j < i → get_or links j 0 ≡ last_below bucket j (bucket j)

-- each thing is linked to one before it, and the walk begins at one of them
pub record Descends (links : List ℕ) (head : ℕ) : Type 0 where
  pub head_in : head ≤ length links
  pub before : (j : ℕ) → j < length links → get_or links j 0 ≤ j

-- does p pass one of the things of the chain that begins at the one before `next`, of the first so many
unfoldable pub any_of : ℕ → List ℕ → (ℕ → Bool) → ℕ → Bool
any_of zero links p next = false
any_of (suc steps) links p zero = false
any_of (suc steps) links p (suc k) = p k || any_of steps links p (get_or links k 0)

-- does p pass one of the things of the chain; no chain is longer than where it begins
abbrev pub any_linked : List ℕ → (ℕ → Bool) → ℕ → Bool
any_linked links p head = any_of head links p head
