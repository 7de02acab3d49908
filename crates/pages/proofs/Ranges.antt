-- Tests of the numbers below n as a range yields them, and as the definitions say them. Assumes nothing.
use Prim.Native.Nat.{ℕ, ◌<◌}
use mathlib.Core.Bool.{Bool, true, false, cond, ◌||◌}
use mathlib.Core.Path.{◌≡◌, refl, sym, ap, ◌∙◌}
use mathlib.Core.List.{List, [], ◌∷◌}
use native.Mathlib.Omega.{arith}
use lib.Dec.{ltb}
use lib.ListN.{length, take, get_or}
use lib.Seq.{take-length}
use Rattle.std.specs.Prelude.{Option, Some, None, MatchOption}
use Rattle.std.specs.List.{range_with_len, list_all, list_any, position_or_len}
use Rattle.std.proofs.lemmas.List.FromFn.{length-range_with_len, get_or-range_with_len}
use Rattle.pages.specs.Quant.{any_to, all_to, first_to}
use Rattle.pages.proofs.Quant.{all_listed, all_cong, any_front, any_cong, first_cong, found_taken}

-- a test of any element of a list, number by number
any_listed : {A : Type 0} (p : A → Bool) (d : A) (xs : List A) → list_any p xs ≡ any_to (length xs) (λ i. p (get_or xs i d))
unfolding any_to
any_listed p d [] = refl
any_listed p d (x ∷ xs) = ap (λ b. p x || b) (any_listed p d xs) ∙ go (p x) _ ∙ sym (any_front (length xs) (λ i. p (get_or (x ∷ xs) i d)))
  where
    go : (a b : Bool) → (a || b) ≡ cond a true b
    go true b = refl
    go false b = refl

module _ (p : ℕ → Bool) (n : ℕ) where
  -- number i is at place i
  at : (i : ℕ) → i < n → p (get_or (range_with_len 0 n) i 0) ≡ p i
  at i l = ap p (omega (arith, get_or-range_with_len 0 n i 0 l))

  pub all_ranged : list_all p (range_with_len 0 n) ≡ all_to n p
  all_ranged = all_listed p 0 (range_with_len 0 n) ∙ rw (length-range_with_len 0 n) (all_cong (λ i. p (get_or (range_with_len 0 n) i 0)) p n at)

  pub any_ranged : list_any p (range_with_len 0 n) ≡ any_to n p
  any_ranged = any_listed p 0 (range_with_len 0 n) ∙ rw (length-range_with_len 0 n) (any_cong (λ i. p (get_or (range_with_len 0 n) i 0)) p n at)

  -- what a search among them finds
  pub found_ranged : (r : Option ℕ)
      → r ≡ cond (ltb (position_or_len p (range_with_len 0 n)) (length (range_with_len 0 n))) (Some (position_or_len p (range_with_len 0 n))) None
      → MatchOption r (first_to n p ≡ n) (λ i. (i < n) × (i ≡ first_to n p))
  found_ranged r e =
      let long = length-range_with_len 0 n in
      let whole : take n (range_with_len 0 n) ≡ range_with_len 0 n = rw long at (take-length (range_with_len 0 n)) in
      rw (first_cong (λ i. p (get_or (range_with_len 0 n) i 0)) p n at) at (found_taken p 0 n (range_with_len 0 n) r (omega (arith, long)) (rw whole e))
