-- Lists gathered piece by piece. Assumes nothing.
use mathlib.Core.Path.{◌≡◌, refl, sym, ap, ap₂, subst, ◌∙◌}
use mathlib.Core.Bool.{Bool, true, false}
use mathlib.Core.List.{List, [], ◌∷◌, ◌++◌}
use Prim.Native.Nat.{ℕ, zero, suc, ◌+◌, ◌-◌, ◌*◌, ◌<◌, ◌≤◌}
use native.Mathlib.Numerals.{add-one}
use native.Mathlib.Nat.{not-suc-le-zero}
use native.Mathlib.Omega.{arith}
use lib.Dec.{ltb}
use lib.ListN.{length, get_or, length-append, get_or-append}
use lib.Seq.{get_or-append-add}
use borrow.Author.Tests.{ltb-true, ltb-false}
use Rattle.pages.specs.Bytes.{put}
use Rattle.pages.proofs.Put.{put_append}
use Rattle.members.specs.Members.{gather}

module _ (f : ℕ → List ℕ) where
  pub gather_next : (n : ℕ) → gather (n + 1) f ≡ gather n f ++ f n
  unfolding gather
  gather_next n = rw (add-one n) refl

  -- what holds of the elements of each piece holds of all
  pub gather_each : (P : ℕ → Type 0) (n : ℕ) → ((k i : ℕ) → k < n → i < length (f k) → P (get_or (f k) i 0))
      → (i : ℕ) → i < length (gather n f) → P (get_or (gather n f) i 0)
  unfolding gather
  gather_each P zero h i l = absurd (not-suc-le-zero l)
  gather_each P (suc n) h i l = go (ltb i (length (gather n f))) refl (gather_each P n (λ k j p q. h k j (omega arith) q) i)
    where
      go : (b : Bool) → ltb i (length (gather n f)) ≡ b → (i < length (gather n f) → P (get_or (gather n f) i 0))
          → P (get_or (gather n f ++ f n) i 0)
      go true e before = let a = ltb-true i (length (gather n f)) e in rw (get_or-append (gather n f) (f n) 0 i a) (before a)
      go false e before =
          let a = ltb-false i (length (gather n f)) e in
          let s : length (gather n f) + (i - length (gather n f)) ≡ i = omega arith in
          subst (λ (j : ℕ). P (get_or (gather n f ++ f n) j 0)) s
          (rw (get_or-append-add (gather n f) (f n) (i - length (gather n f)) 0)
          (h n (i - length (gather n f)) (omega arith) (omega (arith, length-append (gather n f) (f n)))))

  -- n pieces of at most m elements
  pub gather_few : (n m : ℕ) → ((k : ℕ) → k < n → length (f k) ≤ m) → length (gather n f) ≤ n * m
  unfolding gather
  gather_few zero m h = omega arith
  gather_few (suc n) m h =
      omega (arith, length-append (gather n f) (f n), gather_few n m (λ k l. h k (omega arith)), h n (omega arith))

  -- the pieces before one, and that one, are no longer than all
  pub gather_fits : (n k : ℕ) → k < n → length (gather k f) + length (f k) ≤ length (gather n f)
  unfolding gather
  gather_fits zero k h = absurd (not-suc-le-zero h)
  gather_fits (suc n) k h = go (ltb k n) refl (gather_fits n k)
    where
      go : (b : Bool) → ltb k n ≡ b → (k < n → length (gather k f) + length (f k) ≤ length (gather n f))
          → length (gather k f) + length (f k) ≤ length (gather n f ++ f n)
      go true e before = omega (arith, length-append (gather n f) (f n), before (ltb-true k n e))
      go false e before = let s : k ≡ n = omega (arith, ltb-false k n e) in rw s (omega (arith, length-append (gather n f) (f n)))

  -- one more piece, behind those before it
  pub gather_put : (l : List ℕ) (at i m : ℕ) → m ≡ at + length (gather i f) → m + length (f i) ≤ length l
      → put (put l at (gather i f)) m (f i) ≡ put l at (gather (i + 1) f)
  gather_put l at i m e h =
      ap (λ (k : ℕ). put (put l at (gather i f)) k (f i)) e
      ∙ put_append l at (gather i f) (f i) (omega arith) ∙ ap (put l at) (sym (gather_next i))

pub gather_same : (f g : ℕ → List ℕ) (n : ℕ) → ((i : ℕ) → i < n → f i ≡ g i) → gather n f ≡ gather n g
unfolding gather
gather_same f g zero h = refl
gather_same f g (suc n) h = ap₂ (λ (x y : List ℕ). x ++ y) (gather_same f g n (λ i l. h i (omega arith))) (h n (omega arith))

-- one element a piece
pub ones_length : (x : ℕ → ℕ) (n : ℕ) → length (gather n (λ i. x i ∷ [])) ≡ n
unfolding gather
ones_length x zero = refl
ones_length x (suc n) = length-append (gather n (λ i. x i ∷ [])) (x n ∷ []) ∙ omega (arith, ones_length x n)
