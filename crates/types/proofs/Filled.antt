-- Tables of the entries, filled one place after another. Assumes nothing.
use Rattle.std.specs.Prelude.{Option, Some, None}
use mathlib.Core.Path.{◌≡◌, refl, sym, ◌∙◌, ap}
use mathlib.Core.Bool.{Bool, true, false}
use mathlib.Core.Logic.{◌⊎◌, inl, inr, ⊎_elim}
use mathlib.Core.List.{List, [], ◌∷◌, ◌++◌, append_assoc}
use Prim.Native.Nat.{ℕ, zero, suc, ◌<◌}
use native.Mathlib.Nat.{not-suc-le-zero, le_of_suc-le-suc, eq-or-lt_of_le}
use native.Mathlib.Omega.{arith}
use lib.Dec.{eqb}
use lib.ListN.{length, get_or, set, drop, replicate, length-append}
use lib.Seq.{drop-cons, get_or_at, set_at, get_or-set_same, get_or-set_other}
use borrow.Author.Tests.{eqb-true, eqb-false}
use Rattle.types.specs.Store.{offset, depth_at, depths}
use Rattle.types.specs.Calls.{list_to}
use Rattle.types.specs.Survey.{filled}

-- ---- lengths

pub list_length : (n : ℕ) (f : ℕ → ℕ) → length (list_to n f) ≡ n
list_length zero f = refl
list_length (suc n) f = length-append (list_to n f) (f n ∷ []) ∙ rw (list_length n f) (omega arith)

pub depths_length : (page : List ℕ) (n : ℕ) → length (depths page n) ≡ n
unfolding depths
depths_length page zero = refl
depths_length page (suc n) =
    length-append (depths page n) (depth_at page (depths page n) (offset page n) ∷ []) ∙ rw (depths_length page n) (omega arith)

-- ---- one place more

-- j places are filled, and the next is filled with v
next_filled : (xs table : List ℕ) (j v : ℕ) → length xs ≡ j → j < length table
    → set (xs ++ drop j table) j v ≡ xs ++ (v ∷ []) ++ drop (suc j) table
next_filled xs table j v e h =
    rw (drop-cons table j 0 h) (set_at xs (get_or table j 0) (drop (suc j) table) v j e)
    ∙ sym (append_assoc xs (v ∷ []) (drop (suc j) table))

pub places_next : (f : ℕ → ℕ) (j : ℕ) (table now : List ℕ) (v : ℕ) → now ≡ filled f j table → j < length table → v ≡ f j
    → set now j v ≡ filled f (suc j) table
places_next f j table now v e h is = rw (e, is) (next_filled (list_to j f) table j (f j) (list_length j f) h)

pub depths_next : (page : List ℕ) (j : ℕ) (table now : List ℕ) (v : ℕ) → now ≡ depths page j ++ drop j table → j < length table
    → v ≡ depth_at page (depths page j) (offset page j) → set now j v ≡ depths page (suc j) ++ drop (suc j) table
unfolding depths
depths_next page j table now v e h is =
    rw (e, is) (next_filled (depths page j) table j (depth_at page (depths page j) (offset page j)) (depths_length page j) h)

-- ---- what a filled place holds

pub filled_at : (f : ℕ → ℕ) (n : ℕ) (rest : List ℕ) (i : ℕ) → i < n → get_or (list_to n f ++ rest) i 0 ≡ f i
filled_at f zero rest i h = absurd (not-suc-le-zero h)
filled_at f (suc n) rest i h =
    rw (append_assoc (list_to n f) (f n ∷ []) rest)
    (⊎_elim (λ (q : i ≡ n). rw q (get_or_at (list_to n f) (f n) rest 0 n (list_length n f))) (λ (q : i < n). filled_at f n (f n ∷ rest) i q)
    (eq-or-lt_of_le (le_of_suc-le-suc h)))

-- ---- a table of what was found for some numbers

none_some : {r : ℕ} → ◌≡◌ {A = Option ℕ} None (Some r) → ⊥
none_some h = cc

none_at : (n t : ℕ) → get_or {A = Option ℕ} (replicate n None) t None ≡ None
none_at zero t = refl
none_at (suc n) zero = refl
none_at (suc n) (suc t) = none_at n t

-- nothing yet
pub found_none : (n t : ℕ) {r : ℕ} → get_or {A = Option ℕ} (replicate n None) t None ≡ Some r → ⊥
found_none n t e = none_some (sym (none_at n t) ∙ e)

-- one more is found for t
pub found_more : (done : List (Option ℕ)) (t u r x : ℕ) → t < length done → get_or (set done t (Some r)) u None ≡ Some x
    → ((u ≡ t) × (x ≡ r)) ⊎ (get_or done u None ≡ Some x)
found_more done t u r x l e = go (eqb u t) refl
  where
    go : (b : Bool) → eqb u t ≡ b → ((u ≡ t) × (x ≡ r)) ⊎ (get_or done u None ≡ Some x)
    go true d =
        let h = eqb-true u t d in
        let v : Some r ≡ Some x = sym (get_or-set_same done t (Some r) None l) ∙ ap (λ (y : ℕ). get_or (set done t (Some r)) y None) (sym h) ∙ e in
        let n : x ≡ r = cc in
        inl (h, n)
    go false d = inr (sym (get_or-set_other done t u (Some r) None (eqb-false u t d)) ∙ e)
