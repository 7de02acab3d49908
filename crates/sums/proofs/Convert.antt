-- Convertible: the same group sums (`convertible_sums`, the source's test, to which its `self == other` adds nothing), and the same exponent sum in every group, for any
-- function that gives each group one root of its own (`convertible_by`), as the parents of the pairs do (`convertible_groups`).
-- For any number of symbols. Assumes nothing.
use mathlib.Core.Path.{◌≡◌, refl, sym, ap, ap₂, subst, ◌∙◌}
use mathlib.Core.Logic.{◌↔◌}
use mathlib.Core.Bool.{true}
use mathlib.Core.List.{List, [], ◌∷◌}
use Prim.Native.Nat.{ℕ, ◌<◌}
use native.Mathlib.Decide.{ℕ_discrete}
use lib.Dec.{T}
use lib.IntN.{ℤ, pos, negsuc, ◌+ℤ◌, +ℤ_idl}
use borrow.Author.Tests.{eqb-true, eq-eqb, ne_eqb}
use Rattle.pages.proofs.Quant.{all_at, all_each}
use Rattle.units.specs.Unit.{Term, term, exponent, in_use}
use Rattle.units.proofs.Order.{part_other}
use Rattle.units.proofs.Si.{written_exponent}
use Rattle.names.proofs.Used.{used_below}
use Rattle.units.proofs.Used.{in_use_head, in_use_tail}
use Rattle.groups.specs.Groups.{Pair, Within, Joined, root_of}
use Rattle.groups.specs.Groups.Joined.{back, chain}
use Rattle.groups.proofs.UnionFind.{joined_root, one_root, root_below}
use Rattle.sums.specs.Sums.{sum_at, group_sums, equal, convertible, SumIn, SameSums}
use Rattle.sums.specs.Sums.SumIn.{none, inside, outside}
use Rattle.sums.proofs.Written.{written_agree}

-- ---- equality of whole numbers

equal_true : (a b : ℤ) → equal a b ≡ true → a ≡ b
equal_true (pos a) (pos b) h = ap pos (eqb-true a b h)
equal_true (pos a) (negsuc b) h = absurd (subst T (sym h) tt)
equal_true (negsuc a) (pos b) h = absurd (subst T (sym h) tt)
equal_true (negsuc a) (negsuc b) h = ap negsuc (eqb-true a b h)

equal_self : (a : ℤ) → equal a a ≡ true
equal_self (pos a) = eq-eqb a a refl
equal_self (negsuc a) = eq-eqb a a refl

-- ---- convertible is the agreement of all sums

module _ (n : ℕ) (root : ℕ → ℕ) (xs ys : List Term) where
  -- the sums of convertible units agree at each symbol below n
  pub convertible_each : convertible n root xs ys ≡ true → (g : ℕ) → g < n → sum_at root g xs ≡ sum_at root g ys
  unfolding convertible
  convertible_each h g l = equal_true (sum_at root g xs) (sum_at root g ys) (all_at (λ g. equal (sum_at root g xs) (sum_at root g ys)) n g h l)

  -- units whose sums agree at each symbol below n are convertible
  pub each_convertible : ((g : ℕ) → g < n → sum_at root g xs ≡ sum_at root g ys) → convertible n root xs ys ≡ true
  unfolding convertible
  each_convertible h = all_each n (λ g. equal (sum_at root g xs) (sum_at root g ys)) (λ g l. ap (equal (sum_at root g xs)) (sym (h g l)) ∙ equal_self (sum_at root g xs))

  -- two units are convertible exactly if `canonicalize` answers the same of both
  pub convertible_sums : (convertible n root xs ys ≡ true) ↔ (group_sums n root xs ≡ group_sums n root ys)
  unfolding group_sums
  convertible_sums = (
    λ h. written_agree n (λ g. sum_at root g xs) (λ g. sum_at root g ys) (convertible_each h),
    λ e. each_convertible (λ g l. sym (written_exponent g n (λ g. sum_at root g xs) l) ∙ ap (exponent g) e ∙ written_exponent g n (λ g. sum_at root g ys) l),
  )

-- ---- the sum in a group

-- there is no second one
sum_one : {ps : List Pair} {s : ℕ} {xs : List Term} {y z : ℤ} → SumIn ps s xs y → SumIn ps s xs z → y ≡ z
sum_one none none = refl
sum_one (inside {x = x} j a) (inside k b) = ap (λ z. x.exp +ℤ z) (sum_one a b)
sum_one (inside j a) (outside k b) = absurd (k j)
sum_one (outside j a) (inside k b) = absurd (j k)
sum_one (outside j a) (outside k b) = sum_one a b

-- ---- by any roots of the groups

-- each symbol below n has a root below n, in its own group, and a group has one root
pub record Roots (n : ℕ) (ps : List Pair) (root : ℕ → ℕ) : Type 0 where
  pub below : (s : ℕ) → s < n → root s < n
  pub sound : (s : ℕ) → s < n → Joined ps s (root s)
  pub one : {s t : ℕ} → s < n → t < n → Joined ps s t → root s ≡ root t

module _ (n : ℕ) (ps : List Pair) (root : ℕ → ℕ) (r : Roots n ps root) where
  -- two symbols with one root are in one group
  joined_by : (s t : ℕ) → s < n → t < n → root s ≡ root t → Joined ps s t
  joined_by s t ls lt e = chain (rw e at (r.sound s ls)) (back (r.sound t lt))

  -- a root is its own root
  own_root : (s : ℕ) → s < n → root (root s) ≡ root s
  own_root s l = sym (r.one l (r.below s l) (r.sound s l))

  -- the sum at a symbol's root is the sum in its group
  sum_in : (s : ℕ) → s < n → (xs : List Term) → in_use n xs ≡ true → SumIn ps s xs (sum_at root (root s) xs)
  sum_in s l [] h = none
  sum_in s l (x ∷ xs) h = go (ℕ_discrete (root s) (root x.symbol)) (sum_in s l xs (in_use_tail n x xs h))
    where
      go : Dec (root s ≡ root x.symbol) → SumIn ps s xs (sum_at root (root s) xs) → SumIn ps s (x ∷ xs) (sum_at root (root s) (x ∷ xs))
      go (yes e) a = rw (eq-eqb (root s) (root x.symbol) e) (inside (joined_by s x.symbol l (used_below n x.symbol (in_use_head n x xs h)).0 e) a)
      go (no ne) a = rw (ne_eqb (root s) (root x.symbol) ne, +ℤ_idl (sum_at root (root s) xs)) (outside (λ j. ne (r.one l (used_below n x.symbol (in_use_head n x xs h)).0 j)) a)

  -- what is nobody's root has no sum
  nobody : (g : ℕ) → (root g ≡ g → ⊥) → (xs : List Term) → in_use n xs ≡ true → sum_at root g xs ≡ pos 0
  nobody g no_root [] h = refl
  nobody g no_root (x ∷ xs) h =
      ap₂ ◌+ℤ◌
      (part_other g (term (root x.symbol) x.exp) (λ e. no_root (ap root e ∙ own_root x.symbol (used_below n x.symbol (in_use_head n x xs h)).0 ∙ sym e)))
      (nobody g no_root xs (in_use_tail n x xs h))

  module _ (xs ys : List Term) (ux : in_use n xs ≡ true) (uy : in_use n ys ≡ true) where
    to_groups : convertible n root xs ys ≡ true → SameSums n ps xs ys
    unfolding SameSums
    to_groups h s l = (
      sum_at root (root s) xs,
      sum_in s l xs ux,
      subst (SumIn ps s ys) (sym (convertible_each n root xs ys h (root s) (r.below s l))) (sum_in s l ys uy),
    )

    from_groups : SameSums n ps xs ys → (g : ℕ) → g < n → sum_at root g xs ≡ sum_at root g ys
    unfolding SameSums
    from_groups same g l = go (ℕ_discrete (root g) g) (same g l)
      where
        go : Dec (root g ≡ g) → (z : ℤ) × SumIn ps g xs z × SumIn ps g ys z → sum_at root g xs ≡ sum_at root g ys
        go (yes e) (z, a, b) =
            let same_root : sum_at root (root g) xs ≡ sum_at root (root g) ys = sum_one (sum_in g l xs ux) a ∙ sum_one b (sum_in g l ys uy) in
            subst (λ (t : ℕ). sum_at root t xs ≡ sum_at root t ys) e same_root
        go (no ne) both = nobody g ne xs ux ∙ sym (nobody g ne ys uy)

    -- by any roots of the groups, two units are convertible exactly if they have equal exponent sums in every group
    pub convertible_by : (convertible n root xs ys ≡ true) ↔ SameSums n ps xs ys
    convertible_by = (to_groups, λ same. each_convertible n root xs ys (from_groups same))

-- ---- by the roots that the pairs give

module _ (n : ℕ) (ps : List Pair) (w : Within n ps) where
  -- they are roots of the groups
  pub pair_roots : Roots n ps (root_of n ps)
  pair_roots = record { below = root_below n ps w; sound = joined_root n ps w; one = λ ls lt j. one_root n ps w j }

  -- by them, two units are convertible exactly if they have equal exponent sums in every group
  pub convertible_groups : (xs ys : List Term) → in_use n xs ≡ true → in_use n ys ≡ true → (convertible n (root_of n ps) xs ys ≡ true) ↔ SameSums n ps xs ys
  convertible_groups = convertible_by n ps (root_of n ps) pair_roots
