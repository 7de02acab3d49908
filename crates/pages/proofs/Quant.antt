-- Tests over the numbers below n: what a loop over the numbers needs of them. Assumes nothing.
use Prim.Native.Nat.{ℕ, zero, suc, ◌+◌, ◌<◌, ◌≤◌}
use mathlib.Core.Bool.{Bool, true, false, cond, not, ◌&&◌, and-eq-true_iff}
use mathlib.Core.Path.{◌≡◌, refl, sym, ap, ap₂, ◌∙◌}
use mathlib.Core.List.{List, [], ◌∷◌}
use mathlib.Core.Logic.{⊎_elim}
use native.Mathlib.Numerals.{add-one}
use native.Mathlib.Omega.{arith}
use native.Mathlib.Nat.{not-suc-le-zero, le_of_suc-le-suc, eq-or-lt_of_le}
use lib.ListN.{length, take, get_or}
use lib.Dec.{ltb}
use lib.Seq.{length-take-le}
use borrow.Author.Tests.{ltb-true, ltb-false}
use Rattle.std.specs.Prelude.{Option, Some, None, MatchOption}
use Rattle.std.specs.List.{list_all, position_or_len}
use Rattle.pages.specs.Quant.{any_to, all_to, first_to}

pub any_none : (p : ℕ → Bool) → any_to 0 p ≡ false
unfolding any_to
any_none p = refl

pub all_none : (p : ℕ → Bool) → all_to 0 p ≡ true
unfolding all_to
all_none p = refl

pub any_more : (p : ℕ → Bool) (n : ℕ) → any_to n p ≡ false → p n ≡ false → any_to (n + 1) p ≡ false
unfolding any_to
any_more p n h k = rw (add-one n, h) k

pub all_more : (p : ℕ → Bool) (n : ℕ) → all_to n p ≡ true → p n ≡ true → all_to (n + 1) p ≡ true
unfolding all_to
all_more p n h k = rw (add-one n, h) k

or_right : (a : Bool) → cond a true true ≡ true
or_right true = refl
or_right false = refl

and_right : (a : Bool) → cond a false false ≡ false
and_right true = refl
and_right false = refl

pub any_found : (p : ℕ → Bool) (n i : ℕ) → i < n → p i ≡ true → any_to n p ≡ true
unfolding any_to
any_found p zero i h k = absurd (not-suc-le-zero h)
any_found p (suc n) i h k =
    ⊎_elim (λ (e : i ≡ n). rw (← e, k) (or_right (any_to i p)))
    (λ (l : i < n). rw (any_found p n i l k) refl)
    (eq-or-lt_of_le (le_of_suc-le-suc h))

pub all_failed : (p : ℕ → Bool) (n i : ℕ) → i < n → p i ≡ false → all_to n p ≡ false
unfolding all_to
all_failed p zero i h k = absurd (not-suc-le-zero h)
all_failed p (suc n) i h k =
    ⊎_elim (λ (e : i ≡ n). rw (← e, k) (and_right (all_to i p)))
    (λ (l : i < n). rw (all_failed p n i l k) refl)
    (eq-or-lt_of_le (le_of_suc-le-suc h))

pub or_false : (a b : Bool) → cond a true b ≡ false → (a ≡ false) × (b ≡ false)
or_false true b h = absurd (let z : ◌≡◌ {A = ℕ} 0 1 = cc in omega arith)
or_false false b h = (refl, h)

pub first_none : (p : ℕ → Bool) (n : ℕ) → any_to n p ≡ false → first_to n p ≡ n
unfolding any_to first_to
first_none p zero h = refl
first_none p (suc n) h = let z = or_false (any_to n p) (p n) h in rw (z.0, z.1)

pub first_at : (p : ℕ → Bool) (n i : ℕ) → i < n → any_to i p ≡ false → p i ≡ true → first_to n p ≡ i
unfolding first_to
first_at p zero i l h k = absurd (not-suc-le-zero l)
first_at p (suc n) i l h k =
    ⊎_elim (λ (e : i ≡ n). rw (← e, h, k)) (λ (m : i < n). rw (any_found p n i m k) (first_at p n i m h k)) (eq-or-lt_of_le (le_of_suc-le-suc l))

pub first_le : (p : ℕ → Bool) (n : ℕ) → first_to n p ≤ n
unfolding first_to
first_le p zero = omega arith
first_le p (suc n) = go (any_to n p) (p n) (first_le p n)
  where
    go : (a b : Bool) → first_to n p ≤ n → cond a (first_to n p) (cond b n (suc n)) ≤ suc n
    go true b h = omega arith
    go false true h = omega arith
    go false false h = omega arith

-- ---- a test that passed, taken apart

pub and_true : (a b : Bool) → (a && b) ≡ true → (a ≡ true) × (b ≡ true)
and_true a b h = (and-eq-true_iff a b).0 h

both : (a b : Bool) → cond a b false ≡ true → (a ≡ true) × (b ≡ true)
both true b h = (refl, h)
both false b h = absurd (let z : ◌≡◌ {A = ℕ} 0 1 = cc in omega arith)

pub all_at : (p : ℕ → Bool) (n i : ℕ) → all_to n p ≡ true → i < n → p i ≡ true
unfolding all_to
all_at p zero i h l = absurd (not-suc-le-zero l)
all_at p (suc n) i h l =
    let z = both (all_to n p) (p n) h in
    ⊎_elim (λ (e : i ≡ n). rw e z.1) (λ (m : i < n). all_at p n i z.0 m) (eq-or-lt_of_le (le_of_suc-le-suc l))

pub any_cong : (p q : ℕ → Bool) (n : ℕ) → ((i : ℕ) → i < n → p i ≡ q i) → any_to n p ≡ any_to n q
unfolding any_to
any_cong p q zero h = refl
any_cong p q (suc n) h = rw (any_cong p q n (λ i l. h i (omega arith)), h n (omega arith))

pub all_cong : (p q : ℕ → Bool) (n : ℕ) → ((i : ℕ) → i < n → p i ≡ q i) → all_to n p ≡ all_to n q
unfolding all_to
all_cong p q zero h = refl
all_cong p q (suc n) h = rw (all_cong p q n (λ i l. h i (omega arith)), h n (omega arith))

pub first_cong : (p q : ℕ → Bool) (n : ℕ) → ((i : ℕ) → i < n → p i ≡ q i) → first_to n p ≡ first_to n q
unfolding first_to
first_cong p q zero h = refl
first_cong p q (suc n) h = rw (any_cong p q n (λ i l. h i (omega arith)), first_cong p q n (λ i l. h i (omega arith)), h n (omega arith))

-- the first number, and those after it
pub all_front : (n : ℕ) (p : ℕ → Bool) → all_to (suc n) p ≡ (p 0 && all_to n (λ i. p (suc i)))
unfolding all_to
all_front zero p = go (p 0)
  where
    go : (b : Bool) → b ≡ (b && true)
    go true = refl
    go false = refl
all_front (suc n) p = ap (λ (b : Bool). cond b (p (suc n)) false) (all_front n p) ∙ go (p 0) (all_to n (λ i. p (suc i))) (p (suc n))
  where
    go : (a b x : Bool) → cond (a && b) x false ≡ (a && cond b x false)
    go true b x = refl
    go false b x = refl

pub all_each : (n : ℕ) (p : ℕ → Bool) → ((i : ℕ) → i < n → p i ≡ true) → all_to n p ≡ true
unfolding all_to
all_each zero p h = refl
all_each (suc n) p h = rw (all_each n p (λ i l. h i (omega arith))) (h n (omega arith))

-- what some number passes, the first one passes below the bound
pub first_below : (p : ℕ → Bool) (n : ℕ) → any_to n p ≡ true → first_to n p < n
unfolding any_to first_to
first_below p zero e = let z : ◌≡◌ {A = ℕ} 0 1 = cc in absurd (omega arith)
first_below p (suc n) e = go (any_to n p) (p n) refl e (first_below p n)
  where
    go : (a b : Bool) → any_to n p ≡ a → cond a true b ≡ true → (any_to n p ≡ true → first_to n p < n) → cond a (first_to n p) (cond b n (suc n)) < suc n
    go true b f h ih = omega (arith, ih f)
    go false true f h ih = omega arith
    go false false f h ih = let z : ◌≡◌ {A = ℕ} 0 1 = cc in absurd (omega arith)

-- the first one passes, and none before it
pub first_found : (p : ℕ → Bool) (n : ℕ) → first_to n p < n → (any_to (first_to n p) p ≡ false) × (p (first_to n p) ≡ true)
unfolding first_to
first_found p zero h = absurd (not-suc-le-zero h)
first_found p (suc n) h = go (any_to n p) (p n) refl refl h (first_found p n)
  where
    go : (a b : Bool) → any_to n p ≡ a → p n ≡ b → cond a (first_to n p) (cond b n (suc n)) < suc n
        → (first_to n p < n → (any_to (first_to n p) p ≡ false) × (p (first_to n p) ≡ true))
        → (any_to (cond a (first_to n p) (cond b n (suc n))) p ≡ false) × (p (cond a (first_to n p) (cond b n (suc n))) ≡ true)
    go true b e f l ih = ih (first_below p n e)
    go false true e f l ih = (e, f)
    go false false e f l ih = absurd (omega arith)

-- where the bound stands for none, none passes
pub first_missed : (p : ℕ → Bool) (n : ℕ) → n ≤ first_to n p → any_to n p ≡ false
first_missed p n h = go (any_to n p) refl
  where
    go : (a : Bool) → any_to n p ≡ a → a ≡ false
    go true e = absurd (omega (arith, first_below p n e))
    go false e = refl

-- a test of the first k elements of a list, number by number
pub all_taken : {A : Type 0} (p : A → Bool) (d : A) (k : ℕ) (xs : List A) → k ≤ length xs → list_all p (take k xs) ≡ all_to k (λ i. p (get_or xs i d))
unfolding all_to
all_taken p d zero xs h = refl
all_taken p d (suc k) [] h = absurd (omega (arith, h))
all_taken p d (suc k) (x ∷ xs) h = ap (λ b. p x && b) (all_taken p d k xs (omega (arith, h))) ∙ sym (all_front k (λ i. p (get_or (x ∷ xs) i d)))

-- a test of all elements
pub all_listed : {A : Type 0} (p : A → Bool) (d : A) (xs : List A) → list_all p xs ≡ all_to (length xs) (λ i. p (get_or xs i d))
unfolding all_to
all_listed p d [] = refl
all_listed p d (x ∷ xs) = ap (λ b. p x && b) (all_listed p d xs) ∙ sym (all_front (length xs) (λ i. p (get_or (x ∷ xs) i d)))

pub any_front : (n : ℕ) (p : ℕ → Bool) → any_to (suc n) p ≡ cond (p 0) true (any_to n (λ i. p (suc i)))
unfolding any_to
any_front zero p = go (p 0)
  where
    go : (b : Bool) → b ≡ cond b true false
    go true = refl
    go false = refl
any_front (suc n) p = ap (λ (b : Bool). cond b true (p (suc n))) (any_front n p) ∙ go (p 0) (any_to n (λ i. p (suc i))) (p (suc n))
  where
    go : (a b x : Bool) → cond (cond a true b) true x ≡ cond a true (cond b true x)
    go true b x = refl
    go false b x = refl

first_front : (n : ℕ) (p : ℕ → Bool) → first_to (suc n) p ≡ cond (p 0) 0 (suc (first_to n (λ i. p (suc i))))
unfolding any_to first_to
first_front zero p = refl
first_front (suc n) p =
    ap₂ (λ (b : Bool) (f : ℕ). cond b f (cond (p (suc n)) (suc n) (suc (suc n)))) (any_front n p) (first_front n p)
    ∙ go (p 0) (any_to n (λ i. p (suc i))) (p (suc n)) (first_to n (λ i. p (suc i)))
  where
    go : (a b x : Bool) (f : ℕ) → cond (cond a true b) (cond a 0 (suc f)) (cond x (suc n) (suc (suc n))) ≡ cond a 0 (suc (cond b f (cond x n (suc n))))
    go true b x f = refl
    go false true x f = refl
    go false false true f = refl
    go false false false f = refl

-- the first of the first k elements of a list that passes
pub first_taken : {A : Type 0} (p : A → Bool) (d : A) (k : ℕ) (xs : List A) → k ≤ length xs → position_or_len p (take k xs) ≡ first_to k (λ i. p (get_or xs i d))
unfolding first_to
first_taken p d zero xs h = refl
first_taken p d (suc k) [] h = absurd (omega (arith, h))
first_taken p d (suc k) (x ∷ xs) h = go (p x) _ _ (first_taken p d k xs (omega (arith, h))) ∙ sym (first_front k (λ i. p (get_or (x ∷ xs) i d)))
  where
    go : (b : Bool) (m n : ℕ) → m ≡ n → cond (not b) (1 + m) 0 ≡ cond b 0 (suc n)
    go true m n e = refl
    go false m n e = omega (arith, e)

-- what a search among the first k elements finds
pub found_taken : {A : Type 0} (p : A → Bool) (d : A) (k : ℕ) (xs : List A) (r : Option ℕ) → k ≤ length xs
    → r ≡ cond (ltb (position_or_len p (take k xs)) (length (take k xs))) (Some (position_or_len p (take k xs))) None
    → MatchOption r (first_to k (λ i. p (get_or xs i d)) ≡ k) (λ i. (i < k) × (i ≡ first_to k (λ i. p (get_or xs i d))))
found_taken p d k xs r h e = rw (e, first_taken p d k xs h, length-take-le k xs h) (go (first_to k (λ i. p (get_or xs i d))) (first_le (λ i. p (get_or xs i d)) k))
  where
    go : (f : ℕ) → f ≤ k → MatchOption (cond (ltb f k) (Some f) None) (f ≡ k) (λ i. (i < k) × (i ≡ f))
    go f l = by (ltb f k) refl
      where
        by : (b : Bool) → ltb f k ≡ b → MatchOption (cond b (Some f) None) (f ≡ k) (λ i. (i < k) × (i ≡ f))
        by true t = (ltb-true f k t, refl)
        by false t = omega (arith, l, ltb-false f k t)
