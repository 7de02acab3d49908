-- A pair whose symbols are in one group already (as in a repeat, or of a symbol with itself) changes no parent and joins nothing
-- more; and a symbol that no pair names is a group by itself (`alone`). Assumes nothing.
use mathlib.Core.Path.{◌≡◌, refl, ◌∙◌}
use mathlib.Core.Logic.{◌⊎◌, inl, inr}
use mathlib.Core.List.Memᴰ
use mathlib.Core.List.{List, [], ◌∷◌, ◌++◌, Memᴰ}
use Prim.Native.Nat.{ℕ, ◌<◌}
use Rattle.groups.specs.Groups.{Pair, Within, Joined, parents_of}
use Rattle.groups.specs.Groups.Joined.{listed, same, back, chain}
use Rattle.groups.proofs.UnionFind.{enter_idle}
use Rattle.groups.proofs.Walks.{parents_snoc}

-- the parents with it are those without it
pub idle_parents : (n : ℕ) (ps : List Pair) (q : Pair) → Within n ps → q.symbol < n → q.base < n → Joined ps q.symbol q.base
    → parents_of n (ps ++ (q ∷ [])) ≡ parents_of n ps
idle_parents n ps q w qs qb joined = parents_snoc n ps q ∙ enter_idle n ps q w qs qb joined

-- what the pairs join with it they join without it
pub idle_groups : {ps : List Pair} {q : Pair} → Joined ps q.symbol q.base → {s t : ℕ} → Joined (ps ++ (q ∷ [])) s t → Joined ps s t
idle_groups {ps} {q} joined (listed r m) = go (Memᴰ.append_cases ps m)
  where
    go : Memᴰ r ps ⊎ Memᴰ r (q ∷ []) → Joined ps r.symbol r.base
    go (inl m) = listed r m
    go (inr m) = rw (Memᴰ.eq_of_singleton m) joined
idle_groups joined (same s) = same s
idle_groups joined (back j) = back (idle_groups joined j)
idle_groups joined (chain i j) = chain (idle_groups joined i) (idle_groups joined j)

-- ---- a symbol that no pair names

-- no pair leads from it to another, nor from another to it
apart : (ps : List Pair) (s : ℕ) → ((q : Pair) → Memᴰ q ps → (q.symbol ≡ s → ⊥) × (q.base ≡ s → ⊥)) → {a b : ℕ} → Joined ps a b → (a ≡ s → b ≡ s) × (b ≡ s → a ≡ s)
apart ps s none (listed q m) = (λ e. absurd ((none q m).0 e), λ e. absurd ((none q m).1 e))
apart ps s none (same a) = (λ e. e, λ e. e)
apart ps s none (back j) = let h = apart ps s none j in (h.1, h.0)
apart ps s none (chain i j) = let h = apart ps s none i in let k = apart ps s none j in (λ e. k.0 (h.0 e), λ e. h.1 (k.1 e))

-- it is a group by itself
pub alone : (ps : List Pair) (s : ℕ) → ((q : Pair) → Memᴰ q ps → (q.symbol ≡ s → ⊥) × (q.base ≡ s → ⊥)) → (t : ℕ) → Joined ps s t → t ≡ s
alone ps s none t j = (apart ps s none j).0 refl
