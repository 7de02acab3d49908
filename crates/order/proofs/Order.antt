-- Terms placed one after another: what is out, with what is left, comes to the whole. Assumes nothing.
use mathlib.Core.Path.{◌≡◌, refl, sym, ap, ◌∙◌}
use mathlib.Core.Bool.{Bool, true, false, cond}
use mathlib.Core.List.{List, [], ◌∷◌, ◌++◌, append_assoc}
use Prim.Native.Nat.{ℕ, zero, suc, ◌+◌, ◌≤◌, ◌<◌}
use native.Mathlib.Nat.{zero-add, add-zero, add-suc, suc-add, not-suc-le-zero, le_of_suc-le-suc}
use native.Mathlib.Numerals.{add-one}
use native.Mathlib.Omega.{arith}
use lib.ListN.{length, get_or, length-append}
use lib.IntN.{pos}
use Rattle.names.specs.Table.{name_at}
use Rattle.units.specs.Unit.{Term, term, in_use}
use Rattle.units.specs.Calls.{terms, terms_of, terms_from, unit_of}
use Rattle.units.specs.declared.Unit.{Unit}
use Rattle.units.proofs.Form.{sym_at, exp_at, from_start, from_step, from_end}
use Rattle.units.proofs.Held.{places_of}
use Rattle.names.specs.Calls.{is_used}
use Rattle.names.proofs.Used.{used_below}
use Rattle.units.proofs.Used.{in_use_head, in_use_tail, in_use_more}
use Rattle.order.specs.Order.{comes, place, placed, by_name}

abbrev pub term_at : Unit → ℕ → Term
term_at w i = term (sym_at (places_of w) i) (exp_at (places_of w) i)

-- ---- the rest of a unit, behind another

-- the terms of w from j to i stand behind those of v
pub record Resting (v w : Unit) (j : ℕ) (out : Unit) (i : ℕ) : Type 0 where
  pub middle : List Term
  pub held : (l : List Term) → v ≡ unit_of l → out ≡ unit_of (l ++ middle)
  pub whole : middle ++ terms_from w i ≡ terms_from w j
  pub size : out.count + j ≡ v.count + i

module _ (v w : Unit) (j : ℕ) (out : Unit) (i : ℕ) (st : Resting v w j out i) where
  pub resting_next : i < w.count → (r : Unit) → r.count ≡ out.count + 1 → ((l : List Term) → out ≡ unit_of l → r ≡ unit_of (l ++ (term_at w i ∷ []))) → Resting v w j r (i + 1)
  resting_next h r n f =
      let s = st.size in
      record {
        middle = st.middle ++ (term_at w i ∷ []);
        held = λ l e. f (l ++ st.middle) (st.held l e) ∙ ap unit_of (append_assoc l st.middle (term_at w i ∷ []));
        whole = append_assoc st.middle (term_at w i ∷ []) (terms_from w (i + 1)) ∙ ap (λ t. st.middle ++ t) (sym (from_step (places_of w) i h)) ∙ st.whole;
        size = omega arith;
      }

-- ---- one term at its place

-- the terms of w before j stand before x
pub record Placing (page : List ℕ) (w : Unit) (x : Term) (v : Unit) (j : ℕ) : Type 0 where
  pub out : List Term
  pub held : v ≡ unit_of out
  pub size : length out ≡ j
  pub whole : out ++ place page x (terms_from w j) ≡ place page x (terms_of w)

module _ (page : List ℕ) (w : Unit) (x : Term) where
  module _ (v : Unit) (j : ℕ) (st : Placing page w x v j) where
    -- behind the last
    pub placing_end : w.count ≤ j → (r : Unit) → ((l : List Term) → v ≡ unit_of l → r ≡ unit_of (l ++ (x ∷ []))) → r ≡ unit_of (place page x (terms_of w))
    unfolding place
    placing_end h r f =
        f st.out st.held ∙ ap unit_of (ap (λ t. st.out ++ place page x t) (sym (from_end (places_of w) j h)) ∙ st.whole)

    module _ (h : j < w.count) where
      -- before the first whose name comes after its own
      pub placing_here : comes (name_at page x.symbol) (name_at page (term_at w j).symbol) ≡ true
          → (m r : Unit) → ((l : List Term) → v ≡ unit_of l → m ≡ unit_of (l ++ (x ∷ []))) → ((l : List Term) → m ≡ unit_of l → r ≡ unit_of (l ++ terms_from w j)) → r ≡ unit_of (place page x (terms_of w))
      unfolding place
      placing_here b m r f g =
          g (st.out ++ (x ∷ [])) (f st.out st.held)
          ∙ ap unit_of (append_assoc st.out (x ∷ []) (terms_from w j) ∙ ap (λ t. st.out ++ t) (sym here) ∙ st.whole)
        where
          here : place page x (terms_from w j) ≡ x ∷ terms_from w j
          here = rw (from_step (places_of w) j h, b)

      pub placing_next : comes (name_at page x.symbol) (name_at page (term_at w j).symbol) ≡ false
          → (r : Unit) → ((l : List Term) → v ≡ unit_of l → r ≡ unit_of (l ++ (term_at w j ∷ []))) → Placing page w x r (j + 1)
      unfolding place
      placing_next b r f = record {
        out = st.out ++ (term_at w j ∷ []);
        held = f st.out st.held;
        size = length-append st.out (term_at w j ∷ []) ∙ ap (λ k. k + 1) st.size;
        whole = append_assoc st.out (term_at w j ∷ []) (place page x (terms_from w (j + 1))) ∙ ap (λ t. st.out ++ t) (sym here) ∙ st.whole;
      }
        where
          here : place page x (terms_from w j) ≡ term_at w j ∷ place page x (terms_from w (j + 1))
          here = rw (from_step (places_of w) j h, b)

-- ---- all terms, one after another

pub place_length : (page : List ℕ) (x : Term) (ys : List Term) → length (place page x ys) ≡ suc (length ys)
unfolding place
place_length page x [] = refl
place_length page x (y ∷ ys) = go (comes (name_at page x.symbol) (name_at page y.symbol)) (place_length page x ys)
  where
    go : (b : Bool) → length (place page x ys) ≡ suc (length ys) → length (cond b (x ∷ y ∷ ys) (y ∷ place page x ys)) ≡ suc (suc (length ys))
    go true h = refl
    go false h = ap suc h

-- each symbol of a unit whose symbols are in use
pub in_use_at : (n : ℕ) (u : Unit) → in_use n (terms_of u) ≡ true → (i : ℕ) → i < u.count → sym_at (places_of u) i < n
in_use_at n u h i l = rw (← zero-add i) (go u.count 0 h i l)
  where
    go : (k j : ℕ) → in_use n (terms k j u.symbols u.exponents) ≡ true → (i : ℕ) → i < k → get_or u.symbols (j + i) 0 < n
    go zero j p i l = absurd (not-suc-le-zero l)
    go (suc k) j p zero l =
        rw (add-zero j)
        (used_below n (get_or u.symbols j 0) (in_use_head n (term (get_or u.symbols j 0) (get_or u.exponents j (pos 0))) (terms k (suc j) u.symbols u.exponents) p)).0
    go (suc k) j p (suc i) l =
        rw (add-suc j i, ← suc-add j i)
        (go k (suc j) (in_use_tail n (term (get_or u.symbols j 0) (get_or u.exponents j (pos 0))) (terms k (suc j) u.symbols u.exponents) p) i (le_of_suc-le-suc l))

pub place_in_use : (n : ℕ) (page : List ℕ) (x : Term) (ys : List Term) → is_used n x.symbol ≡ true → in_use n ys ≡ true → in_use n (place page x ys) ≡ true
unfolding place
place_in_use n page x [] l h = in_use_more n x [] l h
place_in_use n page x (y ∷ ys) l h = go (comes (name_at page x.symbol) (name_at page y.symbol)) (place_in_use n page x ys l (in_use_tail n y ys h))
  where
    go : (b : Bool) → in_use n (place page x ys) ≡ true → in_use n (cond b (x ∷ y ∷ ys) (y ∷ place page x ys)) ≡ true
    go true ih = in_use_more n x (y ∷ ys) l h
    go false ih = in_use_more n y (place page x ys) (in_use_head n y ys h) ih

-- the first i terms of u are placed
pub record Sorting (page : List ℕ) (n : ℕ) (u w : Unit) (i : ℕ) : Type 0 where
  pub done : List Term
  pub held : w ≡ unit_of done
  pub size : length done ≡ i
  pub whole : placed page done (terms_from u i) ≡ by_name page (terms_of u)
  pub used : in_use n done ≡ true
  pub coming : in_use n (terms_from u i) ≡ true

module _ (page : List ℕ) (n : ℕ) (u : Unit) where
  pub sorting_start : (w : Unit) → w ≡ unit_of [] → in_use n (terms_of u) ≡ true → Sorting page n u w 0
  unfolding in_use
  sorting_start w e h = record {
    done = [];
    held = e;
    size = refl;
    whole = ap (placed page []) (from_start (places_of u));
    used = refl;
    coming = ap (in_use n) (from_start (places_of u)) ∙ h;
  }

  module _ (w : Unit) (i : ℕ) (st : Sorting page n u w i) where
    pub sorting_count : w.count ≡ i
    sorting_count = ap (λ (v : Unit). v.count) st.held ∙ st.size

    pub sorting_end : u.count ≤ i → w ≡ unit_of (by_name page (terms_of u))
    unfolding placed
    sorting_end h = st.held ∙ ap unit_of (ap (placed page st.done) (sym (from_end (places_of u) i h)) ∙ st.whole)

    module _ (h : i < u.count) where
      ahead : in_use n (term_at u i ∷ terms_from u (i + 1)) ≡ true
      ahead = ap (in_use n) (sym (from_step (places_of u) i h)) ∙ st.coming

      pub sorting_used : is_used n (sym_at (places_of u) i) ≡ true
      sorting_used = in_use_head n (term_at u i) (terms_from u (i + 1)) ahead

      pub sorting_next : (r : Unit) → r ≡ unit_of (place page (term_at u i) st.done) → Sorting page n u r (i + 1)
      unfolding placed
      sorting_next r e = record {
        done = place page (term_at u i) st.done;
        held = e;
        size = place_length page (term_at u i) st.done ∙ ap suc st.size ∙ sym (add-one i);
        whole = ap (placed page st.done) (sym (from_step (places_of u) i h)) ∙ st.whole;
        used = place_in_use n page (term_at u i) st.done sorting_used st.used;
        coming = in_use_tail n (term_at u i) (terms_from u (i + 1)) ahead;
      }
