-- Walks one step at a time, and parents one list of pairs after another. Assumes nothing.
use mathlib.Core.Path.{◌≡◌, refl, ◌∙◌, ap}
use mathlib.Core.List.{List, [], ◌∷◌, ◌++◌}
use Prim.Native.Nat.{ℕ, suc, ◌+◌, ◌-◌, ◌<◌, ◌≤◌}
use native.Mathlib.Omega.{arith}
use native.Mathlib.Nat.{add-zero, zero-add, suc-add, add-suc}
use lib.ListN.{length, get_or, length-set}
use Rattle.groups.specs.Groups.{Pair, link_at, walk, enter, enter_all, selves, parents_of}
use Rattle.groups.proofs.UnionFind.{length_selves}

-- one of the n - k steps that are left
pub walk_one : (n k : ℕ) (p : List ℕ) (x : ℕ) → k < n → walk (n - k) p x ≡ walk (n - (k + 1)) p (get_or p x 0)
unfolding walk
walk_one n k p x l =
    let e : n - k ≡ suc (n - (k + 1)) = omega arith in
    ap (λ (m : ℕ). walk m p x) e

-- no step is left
pub walk_none : (n k : ℕ) (p : List ℕ) (x : ℕ) → n ≤ k → walk (n - k) p x ≡ x
unfolding walk
walk_none n k p x l =
    let e : n - k ≡ 0 = omega arith in
    ap (λ (m : ℕ). walk m p x) e

-- ---- more pairs at the end

enter_all_append : (k : ℕ) (p : List ℕ) (ps qs : List Pair) → enter_all k p (ps ++ qs) ≡ enter_all (k + length ps) (enter_all k p ps) qs
unfolding enter_all
enter_all_append k p [] qs = rw add-zero
enter_all_append k p (r ∷ ps) qs = enter_all_append (suc k) (enter k p r) ps qs ∙ rw (suc-add, ← add-suc)

-- the parents of two lists: those of the first, with the second entered
pub parents_append : (n : ℕ) (ps qs : List Pair) → parents_of n (ps ++ qs) ≡ enter_all (length ps) (parents_of n ps) qs
unfolding parents_of
parents_append n ps qs = enter_all_append 0 (selves 0 n) ps qs ∙ rw zero-add

-- those of a list and one more pair
pub parents_snoc : (n : ℕ) (ps : List Pair) (q : Pair) → parents_of n (ps ++ (q ∷ [])) ≡ enter (length ps) (parents_of n ps) q
unfolding enter_all
parents_snoc n ps q = parents_append n ps (q ∷ [])

-- ---- lengths

-- one more pair leaves as many parents
pub length_enter : (k : ℕ) (p : List ℕ) (q : Pair) → length (enter k p q) ≡ length p
unfolding enter
length_enter k p q = length-set p (link_at k p q).child (link_at k p q).root

length_enter_all : (k : ℕ) (p : List ℕ) (qs : List Pair) → length (enter_all k p qs) ≡ length p
unfolding enter_all
length_enter_all k p [] = refl
length_enter_all k p (q ∷ qs) = length_enter_all (suc k) (enter k p q) qs ∙ length_enter k p q

-- n symbols have n parents, whatever the pairs
pub length_parents : (n : ℕ) (ps : List Pair) → length (parents_of n ps) ≡ n
unfolding parents_of
length_parents n ps = length_enter_all 0 (selves 0 n) ps ∙ length_selves 0 n
