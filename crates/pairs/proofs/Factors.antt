-- "The first factor of a symbol stays": an insertion that is not refused changes no factor that there was (`factor_stays`) nor
-- that of another symbol (`factor_others`), and gives a symbol without one the factor that came, bit for bit, with its base
-- (`factor_comes`). Assumes nothing.
use Rattle.std.proofs.Common.{Some, None}
use mathlib.Core.Path.{◌≡◌, refl, sym, ◌∙◌, ap, ap₂}
use mathlib.Core.Bool.{Bool, true, false, cond}
use mathlib.Core.List.{List}
use Prim.Native.Nat.{ℕ, suc, ◌+◌, ◌*◌, ◌^◌, ◌<◌, ◌≤◌}
use native.Mathlib.Nat.{add-zero, le_refl}
use native.Mathlib.Numerals.{add-one}
use native.Mathlib.Decide.{dec_lt}
use native.Mathlib.Omega.{arith}
use lib.Dec.{ltb, eqb}
use lib.ListN.{length, get_or, length-take, length-drop, get_or-append}
use lib.Seq.{get_or-append-add}
use borrow.Author.Tests.{lt-ltb, le-ltb, ltb-false, eq-eqb, ne_eqb}
use Rattle.pages.specs.Quant.{any_to, first_to}
use Rattle.pages.specs.Bytes.{count_of, big_endian, number_at, long_bytes}
use Rattle.pages.proofs.Quant.{any_cong, first_cong, first_none, first_le, first_below}
use Rattle.pages.proofs.Bytes.{number_alike, number_back}
use Rattle.names.specs.Calls.{used_of}
use Rattle.pairs.specs.Table.{pair_bytes, base_at, factor_at}
use Rattle.pairs.specs.Page.{bodies_in, formed}
use Rattle.pairs.specs.Calls.{is_of, factor_of, first_factor, factor_in}
use Rattle.pairs.specs.Runs.{Request, body_asked, UsesAtMost, accepts, after}
use Rattle.pairs.specs.declared.Factor.{Factor}
use Rattle.pairs.proofs.Page.{formed_held}
use Rattle.pairs.proofs.Run.{accepted_formed, added_bodies, added_count}

-- ---- bodies with one more behind them

module _ (l m : List ℕ) (k s : ℕ) (agree : (i : ℕ) → i < pair_bytes * k → get_or l i 0 ≡ get_or m i 0) where
  is_same : (i : ℕ) → i < k → is_of l s i ≡ is_of m s i
  is_same i lt = ap (λ (x : ℕ). eqb x s) (agree (pair_bytes * i) (omega arith))

  factor_same : (i : ℕ) → i < k → factor_of l i ≡ factor_of m i
  factor_same i lt =
      ap₂ (λ (x y : ℕ). let z : Factor = record { factor = x; base = y } in z) (number_alike l m (pair_bytes * i + factor_at) (pair_bytes * i + factor_at) long_bytes (λ j o. agree (pair_bytes * i + factor_at + j) (omega arith)))
      (agree (pair_bytes * i + base_at) (omega arith))

  -- a symbol that was found is found where it was
  first_stays : first_to k (is_of l s) < k → first_to (k + 1) (is_of m s) ≡ first_to k (is_of l s)
  unfolding first_to
  first_stays h = rw add-one (go (any_to k (is_of l s)) refl)
    where
      go : (b : Bool) → any_to k (is_of l s) ≡ b → cond (any_to k (is_of m s)) (first_to k (is_of m s)) (cond (is_of m s k) k (suc k)) ≡ first_to k (is_of l s)
      go true e = rw (← any_cong (is_of l s) (is_of m s) k is_same, e) (sym (first_cong (is_of l s) (is_of m s) k is_same))
      go false e = let z : first_to k (is_of l s) ≡ k = first_none (is_of l s) k e in absurd (omega (arith, z))

  pub found_stays : first_to k (is_of l s) < k → first_factor m (k + 1) s ≡ first_factor l k s
  found_stays h =
      let i = first_to k (is_of l s) in
      let o : i < k + 1 = omega arith in
      rw (first_stays h, lt-ltb i (k + 1) o, lt-ltb i k h) (ap Some (sym (factor_same i h)))

  -- one that was not is found at the new pair
  first_comes : k ≤ first_to k (is_of l s) → is_of m s k ≡ true → first_to (k + 1) (is_of m s) ≡ k
  unfolding first_to
  first_comes h e = rw add-one (go (any_to k (is_of l s)) refl)
    where
      go : (b : Bool) → any_to k (is_of l s) ≡ b → cond (any_to k (is_of m s)) (first_to k (is_of m s)) (cond (is_of m s k) k (suc k)) ≡ k
      go true f =
          let x : first_to k (is_of l s) ≡ first_to k (is_of m s) = first_cong (is_of l s) (is_of m s) k is_same in
          rw (← any_cong (is_of l s) (is_of m s) k is_same, f) (omega (arith, x, first_le (is_of m s) k))
      go false f = rw (← any_cong (is_of l s) (is_of m s) k is_same, f, e)

  pub found_new : k ≤ first_to k (is_of l s) → is_of m s k ≡ true → first_factor m (k + 1) s ≡ Some (factor_of m k)
  found_new h e =
      let o : k < k + 1 = omega arith in
      rw (first_comes h e, lt-ltb k (k + 1) o)

  -- one that neither they nor the new pair has is not found
  first_none_more : k ≤ first_to k (is_of l s) → is_of m s k ≡ false → k + 1 ≤ first_to (k + 1) (is_of m s)
  unfolding first_to
  first_none_more h e = rw add-one (go (any_to k (is_of l s)) refl)
    where
      go : (b : Bool) → any_to k (is_of l s) ≡ b → suc k ≤ cond (any_to k (is_of m s)) (first_to k (is_of m s)) (cond (is_of m s k) k (suc k))
      go true f = absurd (found f)
        where
          found : any_to k (is_of l s) ≡ true → ⊥
          found t = let x = first_below (is_of l s) k t in omega (arith, x)
      go false f = rw (← any_cong (is_of l s) (is_of m s) k is_same, f, e) (omega arith)

  pub found_none : k ≤ first_to k (is_of l s) → is_of m s k ≡ false → first_factor m (k + 1) s ≡ first_factor l k s
  found_none h e = rw (le-ltb (first_to (k + 1) (is_of m s)) (k + 1) (first_none_more h e), le-ltb (first_to k (is_of l s)) k h)

-- ---- a page

module _ (page : List ℕ) (r : Request) (e : accepts page r ≡ true) where
  n : ℕ
  n = used_of r.names

  g : formed page n ≡ true
  unfolding n
  g = accepted_formed page r e

  lends : UsesAtMost n r
  unfolding n
  lends named = le_refl (used_of r.names)

  size : length (bodies_in page) ≡ pair_bytes * count_of page
  size = simp (length-take, length-drop) (omega (arith, (formed_held page n g).room))

  old : (i : ℕ) → i < pair_bytes * count_of page → get_or (bodies_in page) i 0 ≡ get_or (bodies_in (after page r)) i 0
  old i l = rw (added_bodies page r n g lends e) (sym (get_or-append (bodies_in page) (body_asked r) 0 i (omega (arith, size))))

  new : (i : ℕ) → get_or (bodies_in (after page r)) (pair_bytes * count_of page + i) 0 ≡ get_or (body_asked r) i 0
  new i = ap₂ (λ (l : List ℕ) (j : ℕ). get_or l (j + i) 0) (added_bodies page r n g lends e) (sym size) ∙ get_or-append-add (bodies_in page) (body_asked r) i 0

  counted : (s : ℕ) → factor_in (after page r) s ≡ first_factor (bodies_in (after page r)) (count_of page + 1) s
  counted s = ap (λ (j : ℕ). first_factor (bodies_in (after page r)) j s) (added_count page r n g lends e)

  first : get_or (bodies_in (after page r)) (pair_bytes * count_of page) 0 ≡ r.symbol
  first = rw add-zero at (new 0)

  -- a symbol has a factor exactly where a pair has the symbol
  absent : (s : ℕ) → factor_in page s ≡ None → count_of page ≤ first_to (count_of page) (is_of (bodies_in page) s)
  absent s f = go (ltb (first_to (count_of page) (is_of (bodies_in page) s)) (count_of page)) refl f
    where
      go : (b : Bool) → ltb (first_to (count_of page) (is_of (bodies_in page) s)) (count_of page) ≡ b
          → cond b (Some (factor_of (bodies_in page) (first_to (count_of page) (is_of (bodies_in page) s)))) None ≡ None
          → count_of page ≤ first_to (count_of page) (is_of (bodies_in page) s)
      go true t c = let z : ◌≡◌ {A = ℕ} 0 1 = cc in absurd (omega arith)
      go false t c = ltb-false (first_to (count_of page) (is_of (bodies_in page) s)) (count_of page) t

  -- the factor of a symbol that had one is what it was
  pub factor_stays : (s : ℕ) → (factor_in page s ≡ None → ⊥) → factor_in (after page r) s ≡ factor_in page s
  factor_stays s had = go (dec_lt (first_to (count_of page) (is_of (bodies_in page) s)) (count_of page))
    where
      go : Dec (first_to (count_of page) (is_of (bodies_in page) s) < count_of page) → factor_in (after page r) s ≡ factor_in page s
      go (yes h) = counted s ∙ found_stays (bodies_in page) (bodies_in (after page r)) (count_of page) s old h
      go (no h) = absurd (had (rw (le-ltb (first_to (count_of page) (is_of (bodies_in page) s)) (count_of page) (omega arith))))

  -- that of every other symbol than the request's is, too, or it still has none
  pub factor_others : (s : ℕ) → (r.symbol ≡ s → ⊥) → factor_in (after page r) s ≡ factor_in page s
  factor_others s other = go (dec_lt (first_to (count_of page) (is_of (bodies_in page) s)) (count_of page))
    where
      go : Dec (first_to (count_of page) (is_of (bodies_in page) s) < count_of page) → factor_in (after page r) s ≡ factor_in page s
      go (yes h) = counted s ∙ found_stays (bodies_in page) (bodies_in (after page r)) (count_of page) s old h
      go (no h) =
          let no_match : is_of (bodies_in (after page r)) s (count_of page) ≡ false =
          ne_eqb (get_or (bodies_in (after page r)) (pair_bytes * count_of page) 0) s (λ q. other (sym first ∙ q)) in
          counted s ∙ found_none (bodies_in page) (bodies_in (after page r)) (count_of page) s old (omega arith) no_match

  -- that of the request's symbol, where it had none, is the factor that came, any 64 bits, with its base
  pub factor_comes : r.factor < 256 ^ long_bytes → factor_in page r.symbol ≡ None → factor_in (after page r) r.symbol ≡ Some (record { factor = r.factor; base = r.base })
  factor_comes f had =
      let at = pair_bytes * count_of page in
      let m = bodies_in (after page r) in
      let found : is_of m r.symbol (count_of page) ≡ true = eq-eqb (get_or m at 0) r.symbol first in
      let bits : number_at m (at + factor_at) long_bytes ≡ r.factor =
      number_back m (at + factor_at) r.factor long_bytes f
      (λ i l. let s : at + factor_at + i ≡ at + (factor_at + i) = omega arith in rw s (new (factor_at + i) ∙ shift i)) in
      counted r.symbol ∙ found_new (bodies_in page) m (count_of page) r.symbol old (absent r.symbol had) found ∙ ap₂ (λ (x y : ℕ). let z : Factor = record { factor = x; base = y } in Some z) bits (new base_at)
    where
      shift : (i : ℕ) → get_or (body_asked r) (factor_at + i) 0 ≡ get_or (big_endian long_bytes r.factor) i 0
      shift i = let c : factor_at + i ≡ suc (suc i) = omega arith in rw c
