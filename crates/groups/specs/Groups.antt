-- Which symbols a list of pairs joins, and the parents that it gives them (document 01, "Units and pairs"), over any number n
-- of symbols.
use mathlib.Core.List.{List, [], ◌∷◌, ◌++◌, Memᴰ}
use Rattle.std.specs.Prelude.{ℕ, zero, suc, ◌<◌, length, get_or, set}
use Rattle.groups.specs.declared.Link.{Link}

-- the symbol and the base of a pair: its factor joins nothing
pub record Pair : Type 0 where
  pub symbol : ℕ
  pub base : ℕ

-- a pair of a symbol and a base
abbrev pub pair : ℕ → ℕ → Pair
pair s b = record { symbol = s; base = b }

-- every symbol of the pairs is below n
unfoldable pub Within : ℕ → List Pair → Type 0
Within n ps = (q : Pair) → Memᴰ q ps → (q.symbol < n) × (q.base < n)

-- ---- groups

-- "A group is the symbols joined, directly or through others, by accepted conversion pairs; a symbol joined to no other is a group
-- by itself" (the mission): s and t are in one group
pub data Joined (ps : List Pair) : ℕ → ℕ → Type 0 where
  listed : (q : Pair) → Memᴰ q ps → Joined ps q.symbol q.base
  same : (s : ℕ) → Joined ps s s
  back : {s t : ℕ} → Joined ps s t → Joined ps t s
  chain : {s t u : ℕ} → Joined ps s t → Joined ps t u → Joined ps s u

-- "joining pairs (those that joined two groups)": of the pairs in the second list, k joined two groups that the pairs before them
-- had left apart; the first list stands before them all
pub data Joining : List Pair → List Pair → ℕ → Type 0 where
  none : {before : List Pair} → Joining before [] 0
  joins : {before : List Pair} {q : Pair} {qs : List Pair} {k : ℕ} → ¬ (Joined before q.symbol q.base) → Joining (before ++ (q ∷ [])) qs k → Joining before (q ∷ qs) (suc k)
  idle : {before : List Pair} {q : Pair} {qs : List Pair} {k : ℕ} → Joined before q.symbol q.base → Joining (before ++ (q ∷ [])) qs k → Joining before (q ∷ qs) k

-- ---- parents

-- "the base's root gets the symbol's root as parent": of these two roots, the one that stays and the one that gets it
abbrev pub link_of : ℕ → ℕ → Link
link_of symbol_root base_root = record { root = symbol_root; child = base_root }

-- k steps up from s: each goes to the parent, "itself at a root"
unfoldable pub walk : ℕ → List ℕ → ℕ → ℕ
walk zero p s = s
walk (suc k) p s = walk k p (get_or p s 0)

-- the link of a pair, where k steps lead to a root
abbrev pub link_at : ℕ → List ℕ → Pair → Link
link_at k p q = link_of (walk k p q.symbol) (walk k p q.base)

-- the parents with one more pair
unfoldable pub enter : ℕ → List ℕ → Pair → List ℕ
enter k p q = set p (link_at k p q).child (link_at k p q).root

-- those with all pairs of a list, in order, after k others
unfoldable pub enter_all : ℕ → List ℕ → List Pair → List ℕ
enter_all k p [] = p
enter_all k p (q ∷ qs) = enter_all (suc k) (enter k p q) qs

-- n symbols from s on, each its own parent
unfoldable pub selves : ℕ → ℕ → List ℕ
selves s zero = []
selves s (suc n) = s ∷ selves (suc s) n

-- the parents of n symbols "just as the pairs give them"
unfoldable pub parents_of : ℕ → List Pair → List ℕ
parents_of n ps = enter_all 0 (selves 0 n) ps

-- each of n symbols has one of them as its parent
abbrev pub Below : ℕ → List ℕ → Type 0
Below n p = (s : ℕ) → s < n → get_or p s 0 < n

-- the root of a symbol: no walk has more steps than there are pairs
unfoldable pub root_of : ℕ → List Pair → ℕ → ℕ
root_of n ps s = walk (length ps) (parents_of n ps) s
