-- The terms of a unit from a place on, and the judgement of its form, one place at a time. Assumes nothing.
use mathlib.Core.Path.{◌≡◌, refl, sym, ap, ◌∙◌}
use mathlib.Core.Bool.{true, false, ◌&&◌, not}
use mathlib.Core.List.{List, [], ◌∷◌}
use Prim.Native.Nat.{ℕ, zero, suc, ◌+◌, ◌-◌, ◌≤◌, ◌<◌}
use native.Mathlib.Numerals.{add-one}
use native.Mathlib.Nat.{add-zero, add-suc, suc-add, zero-add, not-suc-le-zero, le_of_suc-le-suc}
use native.Mathlib.Omega.{arith}
use lib.Dec.{leb, ltb}
use lib.ListN.{length, get_or}
use lib.IntN.{ℤ, pos}
use borrow.Author.Tests.{le-leb, lt-leb, leb-true, lt-ltb, le-ltb, ltb-true, not-true}
use Rattle.pages.proofs.Quant.{and_true}
use Rattle.units.specs.Unit.{Term, term, is_zero, outside, ordered, formed}
use Rattle.units.specs.Calls.{terms}

-- the places of a unit of any width: the first `count` of two arrays
pub record Places : Type 0 where
  pub count : ℕ
  pub symbols : List ℕ
  pub exponents : List ℤ

abbrev pub sym_at : Places → ℕ → ℕ
sym_at u i = get_or u.symbols i 0

abbrev pub exp_at : Places → ℕ → ℤ
exp_at u i = get_or u.exponents i (pos 0)

abbrev pub terms_from : Places → ℕ → List Term
terms_from u i = terms (u.count - i) i u.symbols u.exponents

abbrev pub terms_in : Places → List Term
terms_in u = terms u.count 0 u.symbols u.exponents

pub length_terms : (n i : ℕ) (ss : List ℕ) (es : List ℤ) → length (terms n i ss es) ≡ n
length_terms zero i ss es = refl
length_terms (suc n) i ss es = ap suc (length_terms n (suc i) ss es)

-- ---- an ordered list, taken apart

pub record Ordered (n lo : ℕ) (x : Term) (xs : List Term) : Type 0 where
  pub low : lo ≤ x.symbol
  pub used : x.symbol < n
  pub nonzero : is_zero x.exp ≡ false
  pub inside : outside x.exp ≡ false
  pub rest : ordered n (suc x.symbol) xs ≡ true

pub ordered_parts : (n lo : ℕ) (x : Term) (xs : List Term) → ordered n lo (x ∷ xs) ≡ true → Ordered n lo x xs
ordered_parts n lo x xs h =
    let a = and_true (leb lo x.symbol) (ltb x.symbol n && (not (is_zero x.exp) && (not (outside x.exp) && ordered n (suc x.symbol) xs))) h in
    let e = and_true (ltb x.symbol n) (not (is_zero x.exp) && (not (outside x.exp) && ordered n (suc x.symbol) xs)) a.1 in
    let b = and_true (not (is_zero x.exp)) (not (outside x.exp) && ordered n (suc x.symbol) xs) e.1 in
    let d = and_true (not (outside x.exp)) (ordered n (suc x.symbol) xs) b.1 in
    record {
      low = leb-true lo x.symbol a.0;
      used = ltb-true x.symbol n e.0;
      nonzero = not-true (is_zero x.exp) b.0;
      inside = not-true (outside x.exp) d.0;
      rest = d.1;
    }

module _ (m : ℕ) where
  ordered_inside : (n i lo : ℕ) (ss : List ℕ) (es : List ℤ) → ordered m lo (terms n i ss es) ≡ true → (k : ℕ) → k < n → outside (get_or es (i + k) (pos 0)) ≡ false
  ordered_inside zero i lo ss es h k lt = absurd (not-suc-le-zero lt)
  ordered_inside (suc n) i lo ss es h zero lt = rw (add-zero i) (ordered_parts m lo (term (get_or ss i 0) (get_or es i (pos 0))) (terms n (suc i) ss es) h).inside
  ordered_inside (suc n) i lo ss es h (suc k) lt =
      rw (add-suc i k, ← suc-add i k)
      (ordered_inside n (suc i) (suc (get_or ss i 0)) ss es (ordered_parts m lo (term (get_or ss i 0) (get_or es i (pos 0))) (terms n (suc i) ss es) h).rest k (le_of_suc-le-suc lt))

-- ---- a unit of at most n places, over m symbols

module _ (n m : ℕ) (xs : List Term) (h : formed n m xs ≡ true) where
  pub formed_length : length xs ≤ n
  unfolding formed
  formed_length = leb-true (length xs) n (and_true (leb (length xs) n) (ordered m 0 xs) h).0

  pub formed_ordered : ordered m 0 xs ≡ true
  unfolding formed
  formed_ordered = (and_true (leb (length xs) n) (ordered m 0 xs) h).1

module _ (n m : ℕ) (u : Places) where
  pub formed_long : n < u.count → formed n m (terms_in u) ≡ false
  unfolding formed
  formed_long h = rw (length_terms u.count 0 u.symbols u.exponents, lt-leb u.count n h)

  formed_short : u.count ≤ n → formed n m (terms_in u) ≡ ordered m 0 (terms_in u)
  unfolding formed
  formed_short h = rw (length_terms u.count 0 u.symbols u.exponents, le-leb u.count n h)

  module _ (h : formed n m (terms_in u) ≡ true) where
    pub formed_count : u.count ≤ n
    formed_count = rw (length_terms u.count 0 u.symbols u.exponents) at (formed_length n m (terms_in u) h)

    pub formed_inside : (i : ℕ) → i < u.count → outside (exp_at u i) ≡ false
    formed_inside i lt = rw (← zero-add i) (ordered_inside m u.count 0 0 u.symbols u.exponents (formed_ordered n m (terms_in u) h) i lt)

pub from_start : (u : Places) → terms_from u 0 ≡ terms_in u
from_start u = let e : u.count - 0 ≡ u.count = omega arith in ap (λ (k : ℕ). terms k 0 u.symbols u.exponents) e

module _ (u : Places) (i : ℕ) where
  pub from_step : i < u.count → terms_from u i ≡ term (sym_at u i) (exp_at u i) ∷ terms_from u (i + 1)
  from_step h =
      let e : u.count - i ≡ suc (u.count - (i + 1)) = omega arith in
      ap (λ (k : ℕ). terms k i u.symbols u.exponents) e
      ∙ ap (λ (k : ℕ). term (sym_at u i) (exp_at u i) ∷ terms (u.count - (i + 1)) k u.symbols u.exponents) (sym (add-one i))

  pub from_end : u.count ≤ i → terms_from u i ≡ []
  from_end h = let e : u.count - i ≡ 0 = omega arith in ap (λ (k : ℕ). terms k i u.symbols u.exponents) e

-- Where the judgement stands: what is left to judge comes to what the whole comes to.
pub record Judging (n m : ℕ) (u : Places) (lo i : ℕ) : Type 0 where
  pub i_in : i ≤ u.count
  pub u_in : u.count ≤ n
  pub whole : ordered m lo (terms_from u i) ≡ formed n m (terms_in u)

pub judging_start : (n m : ℕ) (u : Places) → u.count ≤ n → Judging n m u 0 0
judging_start n m u h = record { i_in = omega arith; u_in = h; whole = ap (ordered m 0) (from_start u) ∙ sym (formed_short n m u h) }

module _ (n m : ℕ) (u : Places) (lo i : ℕ) (j : Judging n m u lo i) where
  pub judging_end : u.count ≤ i → true ≡ formed n m (terms_in u)
  judging_end h = sym (ap (ordered m lo) (from_end u i h)) ∙ j.whole

  module _ (h : i < u.count) where
    pub judged_low : sym_at u i < lo → false ≡ formed n m (terms_in u)
    judged_low k = sym (rw (from_step u i h, lt-leb lo (sym_at u i) k)) ∙ j.whole

    pub judged_past : lo ≤ sym_at u i → m ≤ sym_at u i → false ≡ formed n m (terms_in u)
    judged_past k b = sym (rw (from_step u i h, le-leb lo (sym_at u i) k, le-ltb (sym_at u i) m b)) ∙ j.whole

    module _ (k : lo ≤ sym_at u i) (b : sym_at u i < m) where
      pub judged_zero : is_zero (exp_at u i) ≡ true → false ≡ formed n m (terms_in u)
      judged_zero z = sym (rw (from_step u i h, le-leb lo (sym_at u i) k, lt-ltb (sym_at u i) m b, z)) ∙ j.whole

      module _ (z : is_zero (exp_at u i) ≡ false) where
        pub judged_outside : outside (exp_at u i) ≡ true → false ≡ formed n m (terms_in u)
        judged_outside w = sym (rw (from_step u i h, le-leb lo (sym_at u i) k, lt-ltb (sym_at u i) m b, z, w)) ∙ j.whole

        pub judging_next : outside (exp_at u i) ≡ false → Judging n m u (sym_at u i + 1) (i + 1)
        judging_next w = record {
          i_in = omega arith;
          u_in = j.u_in;
          whole = sym e ∙ j.whole;
        }
          where
            e : ordered m lo (terms_from u i) ≡ ordered m (sym_at u i + 1) (terms_from u (i + 1))
            e = rw (from_step u i h, le-leb lo (sym_at u i) k, lt-ltb (sym_at u i) m b, z, w, add-one (sym_at u i))
