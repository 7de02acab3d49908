-- The types of a store in form, by number: one law for each read. Assumes nothing.
use mathlib.Core.Path.{◌≡◌, refl}
use mathlib.Core.Logic.{◌⊎◌, inl, inr, ∥∥₁_elim}
use Rattle.std.proofs.Math.Logic.{∥∥₁_map}
use mathlib.Core.Bool.{Bool, true, false, ◌&&◌, cond, Bool-set}
use mathlib.Core.List.{List}
use Rattle.std.proofs.Math.Nat.{ℕ_set}
use Rattle.std.proofs.Props.{props}
use Prim.Native.Nat.{ℕ, zero, suc, ◌+◌, ◌-◌, ◌*◌, ◌<◌, ◌≤◌}
use native.Mathlib.Omega.{arith}
use lib.Dec.{ltb, leb, eqb}
use lib.ListN.{length, drop}
use borrow.Author.Tests.{lt-ltb, le-ltb, lt-leb, leb-true, eqb-true, ne_eqb, ltb-true, ltb-false}
use Rattle.pages.specs.Quant.{all_to}
use Rattle.pages.specs.Bytes.{zeros, within, count_bytes, count_of}
use Rattle.pages.proofs.Quant.{and_true, all_at, all_each}
use Rattle.pages.proofs.Bytes.{and_false}
use Rattle.names.specs.Table.{names_max}
use Rattle.names.specs.Calls.{is_used}
use Rattle.kinds.specs.Kinds.{fixed_max, children_max, is_named, is_stored, fewest, most}
use Rattle.types.specs.Store.{types_max, entries_max, depth_max, head_bytes, child_bytes, name_bytes, children_at, kind_at, name_at, size_at, entry_at, offset, depth_at, depths, children_below, parts_at, equal_to, good_at, formed, Formed}
use Rattle.types.specs.Types.{types_in, place_of, kind_of, arity, child_of, Held, Measured}
use Rattle.types.proofs.Placing.{size_named, size_head, child_below}
use Rattle.types.proofs.Form.{parts_children}

-- ---- what a store in form has

pub record Whole (page : List ℕ) (n : ℕ) : Type 0 where
  pub two : count_bytes ≤ length page
  pub few : count_of page ≤ entries_max
  pub good : (j : ℕ) → j < count_of page → good_at page n j ≡ true
  pub clear : zeros (drop (offset page (count_of page)) page) ≡ true

pub whole : (page : List ℕ) (n : ℕ) → formed page n ≡ true → Whole page n
unfolding formed
whole page n h =
    let a = and_true (leb count_bytes (length page)) _ h in
    let b = and_true (leb (count_of page) entries_max) _ a.1 in
    let d = and_true (all_to (count_of page) (good_at page n)) _ b.1 in
    record {
      two = leb-true count_bytes (length page) a.0;
      few = leb-true (count_of page) entries_max b.0;
      good = λ j l. all_at (good_at page n) (count_of page) j d.0 l;
      clear = d.1;
    }

-- what a good entry is
pub record Good (page : List ℕ) (n j : ℕ) : Type 0 where
  pub inside : offset page j + size_at page (offset page j) ≤ length page
  pub parts : parts_at page n (fixed_max + j) (offset page j) ≡ true
  pub new : j ≤ equal_to page j (entry_at page (offset page j))
  pub flat : depth_at page (depths page j) (offset page j) ≤ depth_max

pub good : (page : List ℕ) (n j : ℕ) → good_at page n j ≡ true → Good page n j
unfolding good_at offset
good page n j h =
    let a = and_true (leb (offset page (suc j)) (length page)) _ h in
    let b = and_true (parts_at page n (fixed_max + j) (offset page j)) _ a.1 in
    let d = and_true (leb j (equal_to page j (entry_at page (offset page j)))) _ b.1 in
    record {
      inside = leb-true (offset page (suc j)) (length page) a.0;
      parts = b.0;
      new = leb-true j (equal_to page j (entry_at page (offset page j))) d.0;
      flat = leb-true (depth_at page (depths page j) (offset page j)) depth_max d.1;
    }

pub most_few : (k : ℕ) → most k ≤ children_max
unfolding most
most_few k = go (within 25 26 k) (within 19 24 k) (within 27 31 k)
  where
    go : (a b c : Bool) → cond a 2 (cond b 1 (cond c children_max 0)) ≤ children_max
    go true b c = omega arith
    go false true c = omega arith
    go false false true = omega arith
    go false false false = omega arith

-- fixed types and those with a name have no child
within_not : (a b k : ℕ) → (k < a) ⊎ (b < k) → within a b k ≡ false
within_not a b k (inl l) = rw (lt-leb a k l)
within_not a b k (inr l) = rw (lt-leb k b l) (and_false (leb a k))

fixed_few : (t : ℕ) → t < fixed_max → fewest t ≡ 0
unfolding fewest
fixed_few t l =
    rw (within_not 25 26 t (inl (omega arith)), within_not 19 24 t (inl (omega arith)), ne_eqb t 31 (λ e. omega (arith, e))) refl

named_few : (k : ℕ) → is_named k ≡ true → fewest k ≡ 0
unfolding fewest
named_few k h =
    let l = leb-true 32 k (and_true (leb 32 k) _ h).0 in
    rw (within_not 25 26 k (inr (omega arith)), within_not 19 24 k (inr (omega arith)), ne_eqb k 31 (λ e. omega (arith, e))) refl

-- an entry with its parts has as many children as its kind wants
parts_within : (page : List ℕ) (n t o : ℕ) → parts_at page n t o ≡ true
    → (fewest (kind_at page o) ≤ children_at page o) × (children_at page o ≤ most (kind_at page o))
unfolding parts_at
parts_within page n t o h = go (is_named (kind_at page o)) refl (and_true (is_stored (kind_at page o)) _ h).1
  where
    go : (b : Bool) → is_named (kind_at page o) ≡ b → cond b (eqb (children_at page o) 0 && is_used n (name_at page o))
        (within (fewest (kind_at page o)) (most (kind_at page o)) (children_at page o) && children_below page o t) ≡ true
        → (fewest (kind_at page o) ≤ children_at page o) × (children_at page o ≤ most (kind_at page o))
    go true e p =
        let z : children_at page o ≡ 0 = eqb-true (children_at page o) 0 (and_true (eqb (children_at page o) 0) _ p).0 in
        (rw (named_few (kind_at page o) e) (omega arith), rw z (omega arith))
    go false e p =
        let w = and_true (leb (fewest (kind_at page o)) (children_at page o)) _ (and_true (within (fewest (kind_at page o)) (most (kind_at page o)) (children_at page o)) _ p).0 in
        (leb-true (fewest (kind_at page o)) (children_at page o) w.0, leb-true (children_at page o) (most (kind_at page o)) w.1)

-- ---- reading a type

pub kind_fixed : (page : List ℕ) (t : ℕ) → t < fixed_max → t ≡ kind_of page t
unfolding kind_of
kind_fixed page t h = rw (lt-ltb t fixed_max h) refl

pub kind_entry : (page : List ℕ) (t : ℕ) → fixed_max ≤ t → kind_at page (place_of page t) ≡ kind_of page t
unfolding kind_of
kind_entry page t h = rw (le-ltb t fixed_max h) refl

pub arity_fixed : (page : List ℕ) (t : ℕ) → t < fixed_max → 0 ≡ arity page t
unfolding arity
arity_fixed page t h = rw (lt-ltb t fixed_max h) refl

pub arity_entry : (page : List ℕ) (t : ℕ) → fixed_max ≤ t → children_at page (place_of page t) ≡ arity page t
unfolding arity
arity_entry page t h = rw (le-ltb t fixed_max h) refl

module _ (page : List ℕ) (f : Formed page) where
  pub all_good : (j : ℕ) → j < count_of page → Good page f.names j
  all_good j l = good page f.names j ((whole page f.names f.form).good j l)

  pub types_few : types_in page ≤ types_max
  types_few = omega (arith, (whole page f.names f.form).few)

  pub end_inside : offset page (count_of page) ≤ length page
  unfolding offset
  end_inside = go (count_of page) refl
    where
      go : (k : ℕ) → count_of page ≡ k → offset page k ≤ length page
      go zero e = (whole page f.names f.form).two
      go (suc k) e = (all_good k (omega (arith, e))).inside

  module _ (t : ℕ) (u : t < types_in page) where
    -- it has as many children as its kind wants
    pub arity_within : (fewest (kind_of page t) ≤ arity page t) × (arity page t ≤ most (kind_of page t))
    arity_within = go (ltb t fixed_max) refl
      where
        go : (b : Bool) → ltb t fixed_max ≡ b → (fewest (kind_of page t) ≤ arity page t) × (arity page t ≤ most (kind_of page t))
        go true e =
            let l = ltb-true t fixed_max e in
            rw (← arity_fixed page t l, ← kind_fixed page t l, fixed_few t l) (omega arith, omega arith)
        go false e =
            let l = ltb-false t fixed_max e in
            rw (← arity_entry page t l, ← kind_entry page t l)
            (parts_within page f.names (fixed_max + (t - fixed_max)) (place_of page t) (all_good (t - fixed_max) (omega arith)).parts)

    pub few_children : arity page t ≤ children_max
    few_children = omega (arith, arity_within.1, most_few (kind_of page t))

    -- an entry lies in the page, and its offset in the table
    module _ (l : fixed_max ≤ t) where
      pub entry_inside : place_of page t + size_at page (place_of page t) ≤ length page
      entry_inside = (all_good (t - fixed_max) (omega arith)).inside

      pub head_inside : place_of page t + head_bytes ≤ length page
      head_inside = omega (arith, entry_inside, size_head page (place_of page t))

    -- a type with a child is an entry; the child lies in it, and below it
    module _ (i : ℕ) (h : i < arity page t) where
      pub child_above : fixed_max ≤ t
      child_above = go (ltb t fixed_max) refl
        where
          go : (b : Bool) → ltb t fixed_max ≡ b → fixed_max ≤ t
          go true e = absurd (omega (arith, arity_fixed page t (ltb-true t fixed_max e)))
          go false e = ltb-false t fixed_max e

      pub child_inside : place_of page t + head_bytes + child_bytes * i + 2 ≤ length page
      child_inside =
          let g = all_good (t - fixed_max) (omega (arith, child_above)) in
          let p = (parts_children page f.names (fixed_max + (t - fixed_max)) (place_of page t) g.parts).0 in
          omega (arith, g.inside, p, arity_entry page t child_above)

      pub child_lower : child_of page t i < t
      unfolding child_of
      child_lower =
          let g = all_good (t - fixed_max) (omega (arith, child_above)) in
          let p = (parts_children page f.names (fixed_max + (t - fixed_max)) (place_of page t) g.parts).1 in
          let e : fixed_max + (t - fixed_max) ≡ t = omega (arith, child_above) in
          rw e at (child_below page (place_of page t) (fixed_max + (t - fixed_max)) i p (rw (arity_entry page t child_above) h))

    -- a type with a name is an entry, and the name lies in it
    module _ (h : is_named (kind_of page t) ≡ true) where
      pub name_above : fixed_max ≤ t
      name_above = go (ltb t fixed_max) refl
        where
          go : (b : Bool) → ltb t fixed_max ≡ b → fixed_max ≤ t
          go true e =
              let k : is_named t ≡ true = rw (kind_fixed page t (ltb-true t fixed_max e)) h in
              absurd (omega (arith, ltb-true t fixed_max e, leb-true 32 t (and_true (leb 32 t) _ k).0))
          go false e = ltb-false t fixed_max e

      pub name_inside : place_of page t + head_bytes + name_bytes ≤ length page
      name_inside = omega (arith, entry_inside name_above, size_named page (place_of page t) (rw (kind_entry page t name_above) h))

-- ---- the fact that a `Store` keeps: names that a table can give are enough for its form

used_most : (n s : ℕ) → is_used n s ≡ true → is_used names_max s ≡ true
unfolding is_used
used_most n s h = let u = (and_true (ltb s n) _ h).1 in rw u refl

parts_most : (page : List ℕ) (n t o : ℕ) → parts_at page n t o ≡ true → parts_at page names_max t o ≡ true
unfolding parts_at
parts_most page n t o h = go (is_named (kind_at page o)) refl (and_true (is_stored (kind_at page o)) _ h)
  where
    go : (b : Bool) → is_named (kind_at page o) ≡ b
        → (is_stored (kind_at page o) ≡ true) × (cond b (eqb (children_at page o) 0 && is_used n (name_at page o))
        (within (fewest (kind_at page o)) (most (kind_at page o)) (children_at page o) && children_below page o t) ≡ true)
        → (is_stored (kind_at page o) && cond (is_named (kind_at page o)) (eqb (children_at page o) 0 && is_used names_max (name_at page o))
        (within (fewest (kind_at page o)) (most (kind_at page o)) (children_at page o) && children_below page o t)) ≡ true
    go true e p =
        let u = and_true (eqb (children_at page o) 0) _ p.1 in
        rw (p.0, e, u.0, used_most n (name_at page o) u.1) refl
    go false e p = rw (p.0, e) p.1

good_most : (page : List ℕ) (n j : ℕ) → good_at page n j ≡ true → good_at page names_max j ≡ true
unfolding good_at
good_most page n j h =
    let a = and_true (leb (offset page (suc j)) (length page)) _ h in
    let b = and_true (parts_at page n (fixed_max + j) (offset page j)) _ a.1 in
    rw (a.0, parts_most page n (fixed_max + j) (offset page j) b.0) b.1

formed_most : (page : List ℕ) (n : ℕ) → formed page n ≡ true → formed page names_max ≡ true
unfolding formed
formed_most page n h =
    let a = and_true (leb count_bytes (length page)) _ h in
    let b = and_true (leb (count_of page) entries_max) _ a.1 in
    let d = and_true (all_to (count_of page) (good_at page n)) _ b.1 in
    rw (a.0, b.0, all_each (count_of page) (good_at page names_max) (λ j l. good_most page n j (all_at (good_at page n) (count_of page) j d.0 l))) d.1

pub held_by : {page offsets : List ℕ} → ∥ Held page offsets ∥₁ → Held page offsets
held_by {page} {offsets} t = record {
  sound = record { names = names_max; form = ∥∥₁_elim t (Bool-set _ _) (λ h. formed_most page h.sound.names h.sound.form) };
  size = ∥∥₁_elim t (ℕ_set _ _) (λ h. h.size);
  places = λ k l. ∥∥₁_elim t (ℕ_set _ _) (λ h. h.places k l);
}

-- and a store with its tables, which a maker keeps
pub measured_by : {page offsets ds : List ℕ} → ∥ Measured page offsets ds ∥₁ → Measured page offsets ds
measured_by {page} {offsets} {ds} t = record {
  held = held_by (∥∥₁_map t (λ h. h.held));
  size = ∥∥₁_elim t (ℕ_set _ _) (λ h. h.size);
  known = ∥∥₁_elim t (hlevel props) (λ h. h.known);
}

-- so its page is a store in form
pub formed_by : {page offsets ds : List ℕ} → ∥ Measured page offsets ds ∥₁ → Formed page
formed_by t = (measured_by t).held.sound
