-- The symbols of a value's bytes, looked up one after another. Assumes nothing.
use mathlib.Core.Path.{◌≡◌, refl, sym, ◌∙◌, ap}
use mathlib.Core.Bool.{Bool, true, false, ◌&&◌, ◌||◌}
use mathlib.Core.List.{List}
use Prim.Native.Nat.{ℕ, zero, suc, ◌+◌, ◌*◌, ◌<◌, ◌≤◌}
use native.Mathlib.Omega.{arith}
use lib.Dec.{eqb, leb, ltb}
use lib.ListN.{length, get_or, get_or-eq_default, take, drop}
use lib.Seq.{drop-cons, drop-drop}
use Rattle.std.specs.List.{list_all}
use Rattle.std.proofs.lemmas.List.{drop_all}
use borrow.Author.Tests.{le-leb, lt-leb, leb-true, ltb-true, ltb-false, eq-eqb, eqb-true, ne_eqb}
use Rattle.pages.specs.Quant.{all_to}
use Rattle.pages.proofs.Quant.{all_each, all_none, all_cong, all_front, and_true}
use Rattle.names.specs.Calls.{is_used}
use Rattle.units.specs.Unit.{places_max, in_use}
use Rattle.values.proofs.Strides.{strided, strided_drop}
use Rattle.values.specs.Value.{none_count, term_bytes, terms_at, is_none, is_some, said_in, symbol_used, symbols_used}

-- ---- how many symbols there are said to be

module _ (bytes : List ℕ) where
  pub said_nothing : length bytes < 1 → (0 ≡ said_in bytes) × (0 < 256)
  unfolding said_in
  said_nothing h = let e : get_or bytes 0 0 ≡ 0 = get_or-eq_default bytes 0 (omega arith) in (rw e, omega arith)

  pub said_none : (n : ℕ) → n ≡ get_or bytes 0 0 → n ≡ none_count → (0 ≡ said_in bytes) × (0 < 256)
  unfolding said_in
  said_none n is e = (rw (← is, eq-eqb n none_count e), omega arith)

  pub said_some : (n : ℕ) → n ≡ get_or bytes 0 0 → n < 256 → (n ≡ none_count → ⊥) → (n ≡ said_in bytes) × (n < 256)
  unfolding said_in
  said_some n is h e = (rw (← is, ne_eqb n none_count e), h)

-- ---- place by place

module _ (n : ℕ) (bytes : List ℕ) (i : ℕ) where
  -- a symbol that is there
  pub there : 1 + term_bytes * i < length bytes → symbol_used n bytes i ≡ is_used n (get_or bytes (1 + term_bytes * i) 0)
  unfolding symbol_used
  there h = rw (lt-leb (length bytes) (1 + term_bytes * i) h)

-- the bytes that stand a term's length apart, from index at on, are the symbols
strided_used : (n k at : ℕ) (l : List ℕ) → list_all (is_used n) (take k (strided 2 0 (drop at l))) ≡ all_to k (λ i. leb (length l) (at + term_bytes * i) || is_used n (get_or l (at + term_bytes * i) 0))
strided_used n zero at l = sym (all_none (λ i. leb (length l) (at + term_bytes * i) || is_used n (get_or l (at + term_bytes * i) 0)))
strided_used n (suc k) at l = go (ltb at (length l)) refl (strided_used n k (at + term_bytes) l)
  where
    used : ℕ → Bool
    used j = leb (length l) j || is_used n (get_or l j 0)

    go : (b : Bool) → ltb at (length l) ≡ b
        → list_all (is_used n) (take k (strided 2 0 (drop (at + term_bytes) l))) ≡ all_to k (λ i. used (at + term_bytes + term_bytes * i))
        → list_all (is_used n) (take (suc k) (strided 2 0 (drop at l))) ≡ all_to (suc k) (λ i. used (at + term_bytes * i))
    go true e rest =
        let h : at < length l = ltb-true at (length l) e in
        let first : at + term_bytes * 0 ≡ at = omega arith in
        let there : used at ≡ is_used n (get_or l at 0) = rw (lt-leb (length l) at h) refl in
        let here : is_used n (get_or l at 0) ≡ used (at + term_bytes * 0) = sym (ap used first ∙ there) in
        let far : suc at + 2 ≡ at + term_bytes = omega arith in
        let behind : strided 2 2 (drop (suc at) l) ≡ strided 2 0 (drop (at + term_bytes) l) =
        strided_drop 2 2 (drop (suc at) l) ∙ ap (strided 2 0) (drop-drop 2 (suc at) l ∙ ap (λ (j : ℕ). drop j l) far) in
        let next : (i : ℕ) → i < k → used (at + term_bytes + term_bytes * i) ≡ used (at + term_bytes * suc i) = λ i m. let e : at + term_bytes + term_bytes * i ≡ at + term_bytes * suc i = omega arith in ap used e in
        ap (λ bs. list_all (is_used n) (take (suc k) (strided 2 0 bs))) (drop-cons l at 0 h)
        ∙ ap (λ bs. is_used n (get_or l at 0) && list_all (is_used n) (take k bs)) behind
        ∙ ap (λ (b : Bool). is_used n (get_or l at 0) && b)
        (rest ∙ all_cong (λ i. used (at + term_bytes + term_bytes * i)) (λ i. used (at + term_bytes * suc i)) k next)
        ∙ ap (λ (b : Bool). b && all_to k (λ i. used (at + term_bytes * suc i))) here ∙ sym (all_front k (λ i. used (at + term_bytes * i)))
    go false e rest =
        let h : length l ≤ at = ltb-false at (length l) e in
        ap (λ bs. list_all (is_used n) (take (suc k) (strided 2 0 bs))) (drop_all at l h)
        ∙ sym (all_each (suc k) (λ i. used (at + term_bytes * i)) (λ i m. rw (le-leb (length l) (at + term_bytes * i) (omega (arith, h))) refl))

pub symbols_strided : (n : ℕ) (bytes : List ℕ) → list_all (is_used n) (take (said_in bytes) (strided 2 0 (drop 1 bytes))) ≡ symbols_used n bytes
unfolding symbols_used symbol_used
symbols_strided n bytes = strided_used n (said_in bytes) 1 bytes

-- ---- bytes that say a unit, or none

-- the symbols of k terms that stand from index at on
in_use_terms : (n : ℕ) (bytes : List ℕ) (k at : ℕ) → in_use n (terms_at bytes k at) ≡ all_to k (λ i. is_used n (get_or bytes (at + term_bytes * i) 0))
unfolding in_use
in_use_terms n bytes zero at = sym (all_none (λ i. is_used n (get_or bytes (at + term_bytes * i) 0)))
in_use_terms n bytes (suc k) at =
    let z : at + term_bytes * 0 ≡ at = omega arith in
    let here : is_used n (get_or bytes (at + term_bytes * 0) 0) ≡ is_used n (get_or bytes at 0) = ap (λ (j : ℕ). is_used n (get_or bytes j 0)) z in
    let next : (i : ℕ) → i < k → is_used n (get_or bytes (at + term_bytes + term_bytes * i) 0) ≡ is_used n (get_or bytes (at + term_bytes * suc i) 0) =
    λ i l. let e : at + term_bytes + term_bytes * i ≡ at + term_bytes * suc i = omega arith in ap (λ (j : ℕ). is_used n (get_or bytes j 0)) e in
    ap (λ (b : Bool). is_used n (get_or bytes at 0) && b)
    (in_use_terms n bytes k (at + term_bytes) ∙ all_cong (λ i. is_used n (get_or bytes (at + term_bytes + term_bytes * i) 0)) (λ i. is_used n (get_or bytes (at + term_bytes * suc i) 0)) k next)
    ∙ ap (λ (b : Bool). b && all_to k (λ i. is_used n (get_or bytes (at + term_bytes * suc i) 0))) (sym here)
    ∙ sym (all_front k (λ i. is_used n (get_or bytes (at + term_bytes * i) 0)))

module _ (n : ℕ) (bytes : List ℕ) where
  -- of bytes that say a unit all its symbols are looked up
  pub used_some : is_some bytes ≡ true → symbols_used n bytes ≡ in_use n (terms_at bytes (get_or bytes 0 0) 1)
  unfolding symbols_used said_in
  used_some s =
      let a = and_true (leb 1 (length bytes)) _ s in
      let b = and_true (leb (get_or bytes 0 0) places_max) _ a.1 in
      let few = leb-true (get_or bytes 0 0) places_max b.0 in
      let size = eqb-true (length bytes) (1 + term_bytes * get_or bytes 0 0) b.1 in
      let not_none : eqb (get_or bytes 0 0) none_count ≡ false = ne_eqb (get_or bytes 0 0) none_count (λ e. omega arith) in
      rw not_none
      (all_cong (symbol_used n bytes) (λ i. is_used n (get_or bytes (1 + term_bytes * i) 0)) (get_or bytes 0 0) (λ i l. there n bytes i (omega (arith, size)))
      ∙ sym (in_use_terms n bytes (get_or bytes 0 0) 1))

  -- bytes that say that there is none have no symbol
  pub used_none : is_none bytes ≡ true → symbols_used n bytes ≡ true
  unfolding symbols_used said_in
  used_none s = let a = and_true (eqb (length bytes) 1) _ s in rw a.1 (all_none (symbol_used n bytes))
