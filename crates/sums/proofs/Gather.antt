-- Terms of any symbols, in any order, gathered: the next symbol, the sum of its exponents, one symbol after another.
-- Assumes nothing.
use mathlib.Core.Path.{◌≡◌, refl, sym, ap, ap₂, subst, ◌∙◌}
use mathlib.Core.Bool.{Bool, true, false, ◌&&◌}
use mathlib.Core.List.{List, [], ◌∷◌, ◌++◌, append-nil}
use Prim.Native.Nat.{ℕ, suc, ◌+◌, ◌*◌, ◌≤◌, ◌<◌}
use native.Mathlib.Numerals.{add-one}
use native.Mathlib.Omega.{arith}
use lib.Dec.{leb, ltb}
use lib.ListN.{length, length-append}
use lib.IntN.{ℤ, pos, nat_abs, ◌+ℤ◌, +ℤ_idl, +ℤ_idr, +ℤ_assoc}
use mir.Syntax.{w16}
use mir.Val.{SFits}
use borrow.Author.Tests.{leb-true, ltb-true, le-leb, lt-ltb}
use Rattle.pages.proofs.Quant.{and_true}
use Rattle.names.specs.Table.{names_max}
use Rattle.units.specs.Unit.{places_max, exponent_max, Term, term, is_zero, outside, part, exponent}
use Rattle.units.specs.Product.{any_outside, power, written}
use Rattle.units.specs.Calls.{terms, terms_of, terms_from, syms, unit_of, with_term}
use Rattle.units.specs.declared.Unit.{Unit}
use Rattle.units.proofs.Signed.{small}
use Rattle.units.proofs.Form.{sym_at, exp_at, length_terms, from_start, from_step, from_end}
use Rattle.units.proofs.Order.{or_both, part_same, part_other}
use Rattle.units.proofs.Held.{places_of, grown}
use Rattle.sums.specs.Gather.{next_from}
use Rattle.std.specs.List.{filter}
use Rattle.std.specs.Prelude.{Some, None, min, fold, take, drop, get_or, zero}
use Rattle.std.proofs.Math.Seq.{drop-cons}
use lib.Dec.{T}
use Rattle.sums.proofs.Written.{written_skip, written_few}
use Rattle.sums.proofs.Bound.{abs_sum, abs_fits}

-- ---- the next symbol

module _ (lo n : ℕ) where
  abbrev inside_range : ℕ → Bool
  inside_range s = leb lo s && ltb s n

  in_range : (s : ℕ) → inside_range s ≡ true → (lo ≤ s) × (s < n)
  in_range s h = let v = and_true (leb lo s) (ltb s n) h in (leb-true lo s v.0, ltb-true s n v.1)

  range_in : (s : ℕ) → lo ≤ s → s < n → inside_range s ≡ true
  range_in s a b = rw (le-leb lo s a, lt-ltb s n b)

  abbrev least : ℕ → List ℕ → ℕ
  least m ss = fold min m (filter inside_range ss)

  -- the least of m and of the symbols in the range is in it, as m is
  least_in : (m : ℕ) (ss : List ℕ) → lo ≤ m → m < n → (lo ≤ least m ss) × (least m ss < n)
  least_in m [] a b = (a, b)
  least_in m (s ∷ ss) a b = go (inside_range s) refl (λ r. least_in (min m s) ss (omega (arith, r.0)) (omega (arith, r.1))) (least_in m ss a b)
    where
      go : (x : Bool) → inside_range s ≡ x → ((lo ≤ s) × (s < n) → (lo ≤ least (min m s) ss) × (least (min m s) ss < n)) → (lo ≤ least m ss) × (least m ss < n)
          → (lo ≤ least m (s ∷ ss)) × (least m (s ∷ ss) < n)
      go true e f g = rw e (f (in_range s e))
      go false e f g = rw e g

  -- a symbol in the range is not one outside it
  apart : (t s : ℕ) → lo ≤ t → t < n → inside_range s ≡ false → t ≡ s → ⊥
  apart t s a b e q = absurd (subst T (sym (range_in t a b) ∙ ap inside_range q ∙ e) tt)

  -- what is in the range and below that least is below m, and has no exponent
  least_above : (m : ℕ) (xs : List Term) (t : ℕ) → lo ≤ t → t < n → t < least m (syms xs) → (t < m) × (exponent t xs ≡ pos 0)
  least_above m [] t a b h = (h, refl)
  least_above m (x ∷ xs) t a b h = go (inside_range x.symbol) refl (λ k. least_above (min m x.symbol) xs t a b k) (λ k. least_above m xs t a b k)
    where
      go : (y : Bool) → inside_range x.symbol ≡ y → (t < least (min m x.symbol) (syms xs) → (t < min m x.symbol) × (exponent t xs ≡ pos 0))
          → (t < least m (syms xs) → (t < m) × (exponent t xs ≡ pos 0)) → (t < m) × (exponent t (x ∷ xs) ≡ pos 0)
      go true e f g = let r = f (rw e at h) in (omega (arith, r.0), ap₂ ◌+ℤ◌ (part_other t x (λ q. absurd (omega (arith, r.0, q)))) r.1)
      go false e f g = let r = g (rw e at h) in (r.0, ap₂ ◌+ℤ◌ (part_other t x (apart t x.symbol a b e)) r.1)

  least_from_lem : (ss : List ℕ) (g : ℕ) → next_from lo n ss ≡ Some g → (lo ≤ g) × (g < n)
  least_from_lem [] g e = absurd cc
  least_from_lem (s ∷ ss) g e = go (inside_range s) refl (λ k. least_from_lem ss g k)
    where
      go : (x : Bool) → inside_range s ≡ x → (next_from lo n ss ≡ Some g → (lo ≤ g) × (g < n)) → (lo ≤ g) × (g < n)
      go true q f =
          let r = in_range s q in
          let h = rw q at e in
          let z : least s ss ≡ g = cc in
          rw (← z) (least_in s ss r.0 r.1)
      go false q f = f (rw q at e)

  -- the symbols that are passed by have no exponent
  next_passes : (xs : List Term) (g t : ℕ) → next_from lo n (syms xs) ≡ Some g → lo ≤ t → t < g → exponent t xs ≡ pos 0
  next_passes [] g t e a b = refl
  next_passes (x ∷ xs) g t e a b = go (inside_range x.symbol) refl (λ k. next_passes xs g t k a b)
    where
      below : t < n
      below = let k = least_from_lem (syms (x ∷ xs)) g e in omega (arith, k.1)

      go : (y : Bool) → inside_range x.symbol ≡ y → (next_from lo n (syms xs) ≡ Some g → exponent t xs ≡ pos 0) → exponent t (x ∷ xs) ≡ pos 0
      go true q f =
          let h = rw q at e in
          let z : least x.symbol (syms xs) ≡ g = cc in
          let r = least_above x.symbol xs t a below (rw z b) in
          ap₂ ◌+ℤ◌ (part_other t x (λ y. absurd (omega (arith, r.0, y)))) r.1
      go false q f = ap₂ ◌+ℤ◌ (part_other t x (apart t x.symbol a below q)) (f (rw q at e))

  none_passes : (xs : List Term) (t : ℕ) → next_from lo n (syms xs) ≡ None → lo ≤ t → t < n → exponent t xs ≡ pos 0
  none_passes [] t e a b = refl
  none_passes (x ∷ xs) t e a b = go (inside_range x.symbol) refl (λ k. none_passes xs t k a b)
    where
      go : (y : Bool) → inside_range x.symbol ≡ y → (next_from lo n (syms xs) ≡ None → exponent t xs ≡ pos 0) → exponent t (x ∷ xs) ≡ pos 0
      go true q f = let h = rw q at e in absurd cc
      go false q f = ap₂ ◌+ℤ◌ (part_other t x (apart t x.symbol a b q)) (f (rw q at e))

-- the symbols of a unit's terms stand in its first places
syms_terms : (n i : ℕ) (ss : List ℕ) (es : List ℤ) → i + n ≤ length ss → syms (terms n i ss es) ≡ take n (drop i ss)
syms_terms zero i ss es h = refl
syms_terms (suc n) i ss es h =
    let l : i < length ss = omega arith in
    rw (drop-cons ss i 0 l) (ap (λ t. get_or ss i 0 ∷ t) (syms_terms n (suc i) ss es (omega arith)))

-- ---- the sum of its exponents

-- Where the sum stands: with what is left it comes to the whole, and it is 1,000 for each term at most, either way.
pub record Summing (s : ℕ) (u : Unit) (sum : ℤ) (i : ℕ) : Type 0 where
  pub i_in : i ≤ u.count
  pub whole : sum +ℤ exponent s (terms_from u i) ≡ exponent s (terms_of u)
  pub bound : nat_abs sum ≤ exponent_max * i
  pub inside : any_outside (terms_from u i) ≡ false

pub summing_start : (s : ℕ) (u : Unit) → any_outside (terms_of u) ≡ false → Summing s u (pos 0) 0
summing_start s u h = record {
  i_in = omega arith;
  whole = +ℤ_idl (exponent s (terms_from u 0)) ∙ ap (exponent s) (from_start (places_of u));
  bound = omega arith;
  inside = ap any_outside (from_start (places_of u)) ∙ h;
}

module _ (s : ℕ) (u : Unit) (sum : ℤ) (i : ℕ) (k : Summing s u sum i) where
  pub summing_end : u.count ≤ i → sum ≡ exponent s (terms_of u)
  summing_end h = sym (+ℤ_idr sum) ∙ ap (λ t. sum +ℤ exponent s t) (sym (from_end (places_of u) i h)) ∙ k.whole

  module _ (h : i < u.count) where
    ahead : (outside (exp_at (places_of u) i) ≡ false) × (any_outside (terms_from u (i + 1)) ≡ false)
    ahead = or_both (outside (exp_at (places_of u) i)) (any_outside (terms_from u (i + 1))) (ap any_outside (sym (from_step (places_of u) i h)) ∙ k.inside)

    larger : nat_abs (sum +ℤ exp_at (places_of u) i) ≤ exponent_max * (i + 1)
    larger = omega (arith, abs_sum sum (exp_at (places_of u) i), small (exp_at (places_of u) i) ahead.0, k.bound)

    -- one more exponent does not wrap
    pub summing_fits : u.count ≤ places_max → SFits w16 (sum +ℤ exp_at (places_of u) i)
    summing_fits m = abs_fits (sum +ℤ exp_at (places_of u) i) (omega (arith, larger))

    opened : sum +ℤ (part s (term (sym_at (places_of u) i) (exp_at (places_of u) i)) +ℤ exponent s (terms_from u (i + 1))) ≡ exponent s (terms_of u)
    opened = ap (λ t. sum +ℤ exponent s t) (sym (from_step (places_of u) i h)) ∙ k.whole

    pub summing_more : sym_at (places_of u) i ≡ s → (r : ℤ) → r ≡ sum +ℤ exp_at (places_of u) i → Summing s u r (i + 1)
    summing_more e r q = record {
      i_in = omega arith;
      whole =
          ap (λ z. z +ℤ exponent s (terms_from u (i + 1))) q
          ∙ +ℤ_assoc sum (exp_at (places_of u) i) (exponent s (terms_from u (i + 1)))
          ∙ ap (λ z. sum +ℤ (z +ℤ exponent s (terms_from u (i + 1)))) (sym (part_same s (term (sym_at (places_of u) i) (exp_at (places_of u) i)) (sym e)))
          ∙ opened;
      bound = rw q larger;
      inside = ahead.1;
    }

    pub summing_other : (sym_at (places_of u) i ≡ s → ⊥) → (r : ℤ) → r ≡ sum → Summing s u r (i + 1)
    summing_other n r q = record {
      i_in = omega arith;
      whole =
          ap (λ z. z +ℤ exponent s (terms_from u (i + 1))) q
          ∙ ap (λ z. sum +ℤ z)
          (sym (ap (λ z. z +ℤ exponent s (terms_from u (i + 1))) (part_other s (term (sym_at (places_of u) i) (exp_at (places_of u) i)) (λ e. n (sym e))) ∙ +ℤ_idl (exponent s (terms_from u (i + 1)))))
          ∙ opened;
      bound = rw q (omega (arith, k.bound));
      inside = ahead.1;
    }

-- ---- one symbol after another

-- the sums of the symbols below lo are held
pub record Gathering (u w : Unit) (lo : ℕ) : Type 0 where
  pub lo_in : lo ≤ names_max
  pub held : w ≡ unit_of (written lo (λ s. exponent s (terms_of u)))

-- u holds as many terms as it says
module _ (u : Unit) (full : length u.symbols ≡ places_max) (few : u.count ≤ places_max) (w : Unit) (lo : ℕ) (k : Gathering u w lo) where
  held_syms : syms (terms_of u) ≡ take u.count u.symbols
  held_syms = syms_terms u.count 0 u.symbols u.exponents (omega (arith, full))

  -- nothing is written between
  between : (g : ℕ) → lo ≤ g → ((s : ℕ) → lo ≤ s → s < g → exponent s (terms_of u) ≡ pos 0) → written g (λ s. exponent s (terms_of u)) ≡ written lo (λ s. exponent s (terms_of u))
  between g l f = written_skip (λ s. exponent s (terms_of u)) lo g l f

  pub gathering_end : next_from lo names_max (take u.count u.symbols) ≡ None → w ≡ unit_of (written names_max (λ s. exponent s (terms_of u)))
  gathering_end e =
      k.held ∙ ap unit_of (sym (between names_max k.lo_in (λ s a b. none_passes lo names_max (terms_of u) s (ap (next_from lo names_max) held_syms ∙ e) a b)))

  module _ (g : ℕ) (e : next_from lo names_max (take u.count u.symbols) ≡ Some g) where
    pub gathering_in : (lo ≤ g) × (g < names_max)
    gathering_in = least_from_lem lo names_max (take u.count u.symbols) g e

    skipped : written g (λ s. exponent s (terms_of u)) ≡ written lo (λ s. exponent s (terms_of u))
    skipped = between g gathering_in.0 (λ s a b. next_passes lo names_max (terms_of u) g s (ap (next_from lo names_max) held_syms ∙ e) a b)

    -- there is a place for a sum that is not zero
    pub gathering_room : is_zero (exponent g (terms_of u)) ≡ false → w.count < places_max
    gathering_room z =
        let one : length (power g (exponent g (terms_of u))) ≡ 1 = rw z in
        let size : w.count ≡ length (written lo (λ s. exponent s (terms_of u))) = ap (λ (v : Unit). v.count) k.held in
        omega (
          arith,
          ap length skipped,
          length-append (written g (λ s. exponent s (terms_of u))) (power g (exponent g (terms_of u))),
          written_few (suc g) (terms_of u),
          length_terms u.count 0 u.symbols u.exponents,
        )

    more : (r : Unit) → r ≡ unit_of (written lo (λ s. exponent s (terms_of u)) ++ power g (exponent g (terms_of u))) → Gathering u r (g + 1)
    more r e = record {
      lo_in = omega (arith, gathering_in.1);
      held =
          e
          ∙ ap (λ t. unit_of (t ++ power g (exponent g (terms_of u)))) (sym skipped)
          ∙ ap (λ (m : ℕ). unit_of (written m (λ s. exponent s (terms_of u)))) (sym (add-one g));
    }

    -- zero is left out
    pub gathering_none : is_zero (exponent g (terms_of u)) ≡ true → Gathering u w (g + 1)
    gathering_none z = more w (rw z (k.held ∙ ap unit_of (sym (append-nil (written lo (λ s. exponent s (terms_of u)))))))

    pub gathering_next : is_zero (exponent g (terms_of u)) ≡ false → Gathering u (with_term w g (exponent g (terms_of u))) (g + 1)
    gathering_next z = more _ (rw z (grown w g (exponent g (terms_of u)) (written lo (λ s. exponent s (terms_of u))) k.held))
