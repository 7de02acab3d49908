-- A bucket's chain, walked from its last thing back: a test that only things of the bucket pass is passed by one of the first n things
-- exactly if one of the chain passes. Assumes nothing.
use mathlib.Core.Path.{◌≡◌, refl, sym, ◌∙◌, ap}
use mathlib.Core.Bool.{Bool, true, false, ◌||◌, cond}
use mathlib.Core.List.{List}
use Prim.Native.Nat.{ℕ, zero, suc, ◌<◌, ◌≤◌}
use native.Mathlib.Omega.{arith}
use lib.ListN.{length, get_or, take}
use Rattle.std.proofs.lemmas.List.{get_or-take, length-take-le}
use lib.Dec.{eqb}
use borrow.Author.Tests.{eq-eqb, eqb-true, eqb-false}
use Rattle.pages.specs.Quant.{any_to}
use Rattle.pages.proofs.Quant.{any_none, any_found}
use Rattle.chains.specs.Last.{last_below, Links, Descends, any_of, any_linked}

alone : (a : Bool) → cond a true false ≡ a
alone true = refl
alone false = refl

module _ (bucket : ℕ → ℕ) (b : ℕ) where
  pub last_le : (i : ℕ) → last_below bucket i b ≤ i
  unfolding last_below
  last_le zero = omega arith
  last_le (suc i) = go (eqb (bucket i) b) (last_le i)
    where
      go : (x : Bool) → last_below bucket i b ≤ i → cond x (suc i) (last_below bucket i b) ≤ suc i
      go true h = omega arith
      go false h = omega arith

  last_here : (i : ℕ) → bucket i ≡ b → last_below bucket (suc i) b ≡ suc i
  unfolding last_below
  last_here i e = rw (eq-eqb (bucket i) b e)

  last_last : (i : ℕ) → last_below bucket (last_below bucket i b) b ≡ last_below bucket i b
  unfolding last_below
  last_last zero = refl
  last_last (suc i) = go (eqb (bucket i) b) refl (last_last i)
    where
      go : (x : Bool) → eqb (bucket i) b ≡ x → last_below bucket (last_below bucket i b) b ≡ last_below bucket i b
          → last_below bucket (cond x (suc i) (last_below bucket i b)) b ≡ cond x (suc i) (last_below bucket i b)
      go true e h = last_here i (eqb-true (bucket i) b e)
      go false e h = h

  last_in : (k : ℕ) → last_below bucket (suc k) b ≡ suc k → bucket k ≡ b
  unfolding last_below
  last_in k = go (eqb (bucket k) b) refl
    where
      go : (x : Bool) → eqb (bucket k) b ≡ x → cond x (suc k) (last_below bucket k b) ≡ suc k → bucket k ≡ b
      go true e h = eqb-true (bucket k) b e
      go false e h = absurd (omega (arith, last_le k))

  module _ (p : ℕ → Bool) (same : (j : ℕ) → p j ≡ true → bucket j ≡ b) where
    any_last : (m : ℕ) → any_to m p ≡ any_to (last_below bucket m b) p
    unfolding last_below any_to
    any_last zero = refl
    any_last (suc i) = go (eqb (bucket i) b) (p i) refl refl (any_last i)
      where
        go : (x y : Bool) → eqb (bucket i) b ≡ x → p i ≡ y → any_to i p ≡ any_to (last_below bucket i b) p
            → cond (any_to i p) true (p i) ≡ any_to (cond x (suc i) (last_below bucket i b)) p
        go true y e f h = refl
        go false true e f h = absurd (eqb-false (bucket i) b e (same i f))
        go false false e f h = rw f (alone (any_to i p) ∙ h)

    -- the walk stands at a place of the chain: no thing from there on passes
    abbrev pub Walk : ℕ → ℕ → Type 0
    Walk n at = (at ≤ n) × (last_below bucket at b ≡ at) × (any_to n p ≡ any_to at p)

    pub walk_start : (n head : ℕ) → head ≡ last_below bucket n b → Walk n head
    walk_start n head e = rw e (last_le n, last_last n, any_last n)

    pub walk_end : (n at : ℕ) → Walk n at → at ≡ 0 → any_to n p ≡ false
    walk_end n at w e = w.2 ∙ rw e (any_none p)

    module _ (n at k : ℕ) (w : Walk n at) (e : at ≡ suc k) where
      pub walk_found : p k ≡ true → any_to n p ≡ true
      walk_found h = w.2 ∙ any_found p at k (omega arith) h

      pub walk_on : p k ≡ false → (links : List ℕ) → Links bucket links n → (r : ℕ) → r ≡ get_or links k 0 → (r < at) × Walk n r
      unfolding any_to
      walk_on h links l r f =
          let here : bucket k ≡ b = last_in k (rw e at w.1) in
          let g : r ≡ last_below bucket k b = f ∙ l k (omega arith) ∙ ap (last_below bucket k) here in
          let le = last_le k in
          let any : any_to n p ≡ any_to k p = w.2 ∙ rw (e, h) (alone (any_to k p)) in
          rw g (omega arith, (omega arith, last_last k, any ∙ any_last k))

-- ---- a walk along links, by a test

module _ (links : List ℕ) (p : ℕ → Bool) where
  -- as many steps as where a walk stands are enough
  enough : ((j : ℕ) → j < length links → get_or links j 0 ≤ j) → (n m next : ℕ) → next ≤ n → next ≤ m → next ≤ length links → any_of n links p next ≡ any_of m links p next
  unfolding any_of
  enough d zero zero next h i l = refl
  enough d zero (suc m) zero h i l = refl
  enough d zero (suc m) (suc k) h i l = absurd (omega arith)
  enough d (suc n) zero zero h i l = refl
  enough d (suc n) zero (suc k) h i l = absurd (omega arith)
  enough d (suc n) (suc m) zero h i l = refl
  enough d (suc n) (suc m) (suc k) h i l =
      let b = d k (omega arith) in
      ap (λ (x : Bool). p k || x) (enough d n m (get_or links k 0) (omega (arith, b)) (omega (arith, b)) (omega (arith, b)))

module _ (says : ℕ → Bool → Type 0) (links : List ℕ) (head : ℕ) where
  abbrev pub Answers : Bool → Type 0
  Answers found = (p : ℕ → Bool) → ((k : ℕ) (r : Bool) → k < length links → says k r → r ≡ p k) → found ≡ any_linked links p head

  abbrev pub Walking : ℕ → Type 0
  Walking next =
      (next ≤ length links)
      × ((p : ℕ → Bool) → ((k : ℕ) (r : Bool) → k < length links → says k r → r ≡ p k) → any_linked links p next ≡ any_linked links p head)

  pub walking_start : Descends links head → Walking head
  walking_start d = (d.head_in, λ p t. refl)

  pub walking_end : (next : ℕ) → next ≡ 0 → Walking next → Answers false
  unfolding any_of
  walking_end next z w p t = rw z at (w.1 p t)

  module _ (d : Descends links head) (next k : ℕ) (z : next ≡ suc k) (w : Walking next) where
    inside : k < length links
    inside = omega (arith, w.0)

    pub walking_found : says k true → Answers true
    unfolding any_of
    walking_found s p t = rw (z, sym (t k true inside s)) at (w.1 p t)

    pub walking_before : (r : ℕ) → r ≡ get_or links k 0 → r < next
    walking_before r f = omega (arith, d.before k inside)

    pub walking_on : says k false → (r : ℕ) → r ≡ get_or links k 0 → Walking r
    unfolding any_of
    walking_on s r f = (
      omega (arith, walking_before r f, w.0),
      λ p t.
          let b = d.before k inside in
          rw f (enough links p d.before (get_or links k 0) k (get_or links k 0) (omega arith) (omega (arith, b)) (omega (arith, b, inside))) ∙ (rw (z, sym (t k false inside s)) at (w.1 p t)),
    )

-- ---- what a walk along the links of the first n things answers

module _ (bucket : ℕ → ℕ) (links : List ℕ) (n : ℕ) (l : Links bucket links n) (h : n ≤ length links) where
  taken : length (take n links) ≡ n
  taken = length-take-le n links h

  same_links : (j : ℕ) → j < n → get_or (take n links) j 0 ≡ get_or links j 0
  same_links j k = get_or-take n links j 0 k

  linked : Links bucket (take n links) (length (take n links))
  linked j k = same_links j (omega (arith, taken)) ∙ l j (omega (arith, taken))

  module _ (b head : ℕ) (e : head ≡ last_below bucket n b) where
    pub descends : Descends (take n links) head
    descends = record {
      head_in = omega (arith, e, taken, last_le bucket b n);
      before = λ j k. omega (arith, linked j k, last_le bucket (bucket j) j);
    }

    pub any_walked : (says : ℕ → Bool → Type 0) (found : Bool) → ((p : ℕ → Bool) → ((k : ℕ) (r : Bool) → k < n → says k r → r ≡ p k) → found ≡ any_linked (take n links) p head)
        → (p : ℕ → Bool) → ((j : ℕ) → p j ≡ true → bucket j ≡ b)
        → ((k : ℕ) (r : Bool) → k < n → says k r → r ≡ p k) → found ≡ any_to n p
    unfolding any_of
    any_walked says found a p same t = a p t ∙ go head head (omega arith) (walk_start bucket b p same n head e)
      where
        go : (steps next : ℕ) → next ≤ steps → Walk bucket b p same n next → any_of steps (take n links) p next ≡ any_to n p
        go zero next i w = sym (walk_end bucket b p same n next w (omega arith))
        go (suc steps) zero i w = sym (walk_end bucket b p same n 0 w refl)
        go (suc steps) (suc k) i w =
            let back = get_or (take n links) k 0 in
            let next : p k ≡ false → (back < suc k) × Walk bucket b p same n back = λ f. walk_on bucket b p same n (suc k) k w refl f links l back (same_links k (omega (arith, w.0))) in
            on (p k) refl (λ f. go steps back (omega (arith, (next f).0)) (next f).1)
          where
            on : (x : Bool) → p k ≡ x → (p k ≡ false → any_of steps (take n links) p (get_or (take n links) k 0) ≡ any_to n p)
                → (x || any_of steps (take n links) p (get_or (take n links) k 0)) ≡ any_to n p
            on true f rest = sym (walk_found bucket b p same n (suc k) k w refl f)
            on false f rest = rest f
