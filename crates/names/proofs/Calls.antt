-- What the calls on a table of names come to, one law for each return. Assumes nothing.
use Rattle.std.proofs.Common.{Option, Some, None, Ok, Err, MatchOption}
use mathlib.Core.Path.{◌≡◌, refl, sym, ◌∙◌, ap}
use mathlib.Core.Bool.{Bool, true, false, ◌&&◌, not, cond}
use mathlib.Core.List.{List, [], ◌∷◌}
use Prim.Native.Nat.{ℕ, zero, suc, ◌+◌, ◌<◌, ◌≤◌}
use native.Mathlib.Nat.{le_refl}
use native.Mathlib.Omega.{arith}
use lib.ListN.{length, drop, set, replicate}
use lib.Seq.{paste-zero}
use lib.Dec.{leb}
use borrow.Author.Tests.{le-leb, lt-leb, lt-ltb, le-ltb, leb-true, not-false}
use Rattle.refusals.specs.declared.Refusal.{Refusal}
use Rattle.refusals.specs.declared.Refusal.TheVariants.{Broken, Unused, Malformed, Full}
use Rattle.refusals.specs.Lowest.{◌when◌}
use Rattle.refusals.proofs.Lowest.{first_holds, one_ok, one_err}
use Rattle.pages.specs.Pad.{padded}
use Rattle.pages.specs.Quant.{all_to}
use Rattle.pages.specs.Bytes.{zeros, count_bytes, count_of, bytes_of, put}
use Rattle.pages.proofs.Quant.{all_at, and_true}
use Rattle.pages.proofs.Put.{put_cons, put_length}
use Rattle.names.specs.Table.{names_max, name_max, well_named, offset, name_at, number_of, good_at, formed}
use Rattle.names.specs.Calls.{lent_broken, used_of, used_answer, is_used, empty_verdict, empty_page, is_known, roomy, with_name, add_verdict, add_answer, page_after, find_verdict, find_answer, read_verdict, read_answer}

-- ---- a table in form

pub record Form (page : List ℕ) : Type 0 where
  pub two : count_bytes ≤ length page
  pub few : count_of page ≤ names_max
  pub each : all_to (count_of page) (good_at page) ≡ true
  pub clear : zeros (drop (offset page (count_of page)) page) ≡ true

pub form : (page : List ℕ) → formed page ≡ true → Form page
unfolding formed
form page h =
    let a = and_true _ _ h in
    let b = and_true _ _ a.1 in
    let d = and_true _ _ b.1 in
    record { two = leb-true _ _ a.0; few = leb-true _ _ b.0; each = d.0; clear = d.1 }

good_in : (page : List ℕ) (n : ℕ) → good_at page n ≡ true → offset page (suc n) ≤ length page
unfolding good_at
good_in page n g = leb-true _ _ (and_true _ _ g).0

good_named : (page : List ℕ) (i : ℕ) → good_at page i ≡ true → well_named (name_at page i) ≡ true
unfolding good_at
good_named page i g =
    let a = and_true (leb (offset page (suc i)) (length page)) (well_named (name_at page i) && leb i (number_of page i (name_at page i))) g in
    (and_true (well_named (name_at page i)) (leb i (number_of page i (name_at page i))) a.1).0

-- the names up to any in use lie in the page
pub fits_to : (page : List ℕ) → Form page → (n : ℕ) → n ≤ count_of page → offset page n ≤ length page
unfolding offset
fits_to page f zero h = f.two
fits_to page f (suc n) h = good_in page n (all_at (good_at page) (count_of page) n f.each h)

pub name_small : (name : List ℕ) → well_named name ≡ true → (1 ≤ length name) × (length name ≤ name_max)
unfolding well_named
name_small name w = let a = and_true _ _ (and_true _ _ w).0 in (leb-true _ _ a.0, leb-true _ _ a.1)

-- a name in use is a name
pub in_use_named : (page : List ℕ) → Form page → (k : ℕ) → k < count_of page → well_named (name_at page k) ≡ true
in_use_named page f k h = good_named page k (all_at (good_at page) (count_of page) k f.each h)

-- ---- making a table

-- ---- names that are lent or not

pub lent_form : (page : List ℕ) → lent_broken (Some page) ≡ false → Form page
unfolding lent_broken
lent_form page h = form page (not-false (formed page) h)

-- what an answer of `used_in` says of the names, and what a refusal does
module _ (names : Option (List ℕ)) where
  pub used_ok : (n : ℕ) → Ok n ≡ used_answer names → (lent_broken names ≡ false) × (n ≡ used_of names)
  unfolding used_answer
  used_ok n e = one_ok Broken (lent_broken names) (used_of names) n e

  pub used_err : (r : Refusal) → Err r ≡ used_answer names → (lent_broken names ≡ true) × (r ≡ Broken)
  unfolding used_answer
  used_err r e = one_err Broken (lent_broken names) (used_of names) r e

-- no more numbers are in use than there can be
pub used_few : (names : Option (List ℕ)) → lent_broken names ≡ false → used_of names ≤ names_max
unfolding used_of
used_few None h = le_refl names_max
used_few (Some page) h = (lent_form page h).few

module _ (page : List ℕ) where
  pub empty_short : length page < count_bytes → (Err Broken ≡ empty_verdict page) × (page ≡ empty_page page)
  unfolding empty_verdict empty_page
  empty_short h = (rw (lt-ltb (length page) count_bytes h), rw (lt-ltb (length page) count_bytes h))

  pub empty_made : count_bytes ≤ length page → (Ok tt ≡ empty_verdict page) × (replicate (length page) 0 ≡ empty_page page)
  unfolding empty_verdict empty_page
  empty_made h = (rw (le-ltb (length page) count_bytes h), rw (le-ltb (length page) count_bytes h))

-- ---- adding a name

one_byte : (l : List ℕ) (at x : ℕ) → at + 1 ≤ length l → set l at x ≡ put l at (x ∷ [])
one_byte l at x h = ap (λ (r : List ℕ). set r at x) (paste-zero l (at + 1) []) ∙ put_cons l at x [] (omega arith)

module _ (limit : ℕ) (page name : List ℕ) where
  refused_add : (r : Refusal) → add_verdict limit page name ≡ Err r → (Err r ≡ add_answer limit page name) × (page ≡ page_after limit page name)
  unfolding add_answer page_after
  refused_add r v = (rw v, rw v)

  passed_add : (known : Bool) → is_known page name ≡ known → add_verdict limit page name ≡ Ok tt
      → (Ok (number_of page (count_of page) name) ≡ add_answer limit page name) × (cond known page (with_name page name) ≡ page_after limit page name)
  unfolding add_answer page_after
  passed_add known k v = (rw v, rw (v, k))

  pub add_broken : formed page ≡ false → (Err Broken ≡ add_answer limit page name) × (page ≡ page_after limit page name)
  unfolding add_verdict
  add_broken f = refused_add Broken v
    where
      v : add_verdict limit page name ≡ Err Broken
      v = rw f (first_holds Broken ((Malformed when not (well_named name)) ∷ (Full when (not (is_known page name) && not (roomy limit page name))) ∷ []) refl)

  module _ (f : formed page ≡ true) where
    pub add_malformed : well_named name ≡ false → (Err Malformed ≡ add_answer limit page name) × (page ≡ page_after limit page name)
    unfolding add_verdict
    add_malformed w = refused_add Malformed v
      where
        v : add_verdict limit page name ≡ Err Malformed
        v = rw (f, w) (first_holds Malformed ((Full when (not (is_known page name) && not (roomy limit page name))) ∷ []) refl)

    module _ (w : well_named name ≡ true) (n k : ℕ) (e : n ≡ count_of page) (q : k ≡ number_of page n name) where
      pub add_known : k < n → (Ok k ≡ add_answer limit page name) × (page ≡ page_after limit page name)
      unfolding add_verdict
      add_known l = rw (← e, ← q) at (passed_add true (rw (← e, ← q) (lt-ltb k n l)) v)
        where
          v : add_verdict limit page name ≡ Ok tt
          v = rw (f, w, ← e, ← q, lt-ltb k n l)

      module _ (new : n ≤ k) where
        not_known : is_known page name ≡ false
        not_known = rw (← e, ← q) (le-ltb k n new)

        full : roomy limit page name ≡ false → (Err Full ≡ add_answer limit page name) × (page ≡ page_after limit page name)
        unfolding add_verdict
        full r = refused_add Full v
          where
            v : add_verdict limit page name ≡ Err Full
            v = rw (f, w, not_known, r)

        pub add_many : limit ≤ n → (Err Full ≡ add_answer limit page name) × (page ≡ page_after limit page name)
        unfolding roomy
        add_many h = full r
          where
            r : roomy limit page name ≡ false
            r = rw (← e, le-ltb n limit h)

        module _ (h : n < limit) (end : ℕ) (o : end ≡ offset page n) where
          pub add_short : length page < end + 1 + length name → (Err Full ≡ add_answer limit page name) × (page ≡ page_after limit page name)
          unfolding roomy
          add_short s = full r
            where
              r : roomy limit page name ≡ false
              r = rw (← e, lt-ltb n limit h, ← o, lt-leb (end + 1 + length name) (length page) s)

          pub add_new : k ≡ n → end + 1 + length name ≤ length page → (Ok n ≡ add_answer limit page name) × (put (put (put page (end + 1) name) end (length name ∷ [])) 0 (bytes_of (n + 1)) ≡ page_after limit page name)
          unfolding add_verdict roomy with_name
          add_new kn s = let z = passed_add false not_known v in (rw (← e, ← q, kn) at z.0, there ∙ z.1)
            where
              v : add_verdict limit page name ≡ Ok tt
              v = rw (f, w, not_known, ← e, lt-ltb n limit h, ← o, le-leb (end + 1 + length name) (length page) s)

              there : put (put (put page (end + 1) name) end (length name ∷ [])) 0 (bytes_of (n + 1)) ≡ with_name page name
              there =
                  let lp : length (put page (end + 1) name) ≡ length page = put_length page (end + 1) name (omega arith) in
                  let j : put (put page (end + 1) name) end (length name ∷ []) ≡ put page end (length name ∷ name) =
                  sym (one_byte (put page (end + 1) name) end (length name) (omega arith)) ∙ put_cons page end (length name) name (omega arith) in
                  rw (j, ← e, ← o)

-- ---- looking for a name

module _ (page name : List ℕ) where
  pub find_broken : formed page ≡ false → Err Broken ≡ find_answer page name
  unfolding find_answer find_verdict
  find_broken f = rw v
    where
      v : find_verdict page name ≡ Err Broken
      v = rw f (first_holds Broken ((Malformed when not (well_named name)) ∷ []) refl)

  module _ (f : formed page ≡ true) where
    pub find_malformed : well_named name ≡ false → Err Malformed ≡ find_answer page name
    unfolding find_answer find_verdict
    find_malformed w = rw (f, w)

    -- what `find` answers
    pub find_given : well_named name ≡ true → (n : ℕ) → n ≡ count_of page → (r : Option ℕ) → MatchOption r (number_of page n name ≡ n) (λ k. (k < n) × (k ≡ number_of page n name))
        → Ok r ≡ find_answer page name
    unfolding find_answer find_verdict
    find_given w n e (Some k) h = rw (f, w, ← e, ← h.1, lt-ltb k n h.0)
    find_given w n e None h = rw (f, w, ← e, h, le-ltb n n (omega arith))

-- ---- reading a name

module _ (page : List ℕ) (k : ℕ) where
  pub read_broken : formed page ≡ false → Err Broken ≡ read_answer page k
  unfolding read_answer read_verdict
  read_broken f = rw v
    where
      v : read_verdict page k ≡ Err Broken
      v = rw f (first_holds Broken ((Unused when not (is_used (count_of page) k)) ∷ []) refl)

  module _ (f : formed page ≡ true) (n : ℕ) (e : n ≡ count_of page) where
    pub read_unused : is_used n k ≡ false → Err Unused ≡ read_answer page k
    unfolding read_answer read_verdict
    read_unused h = rw (f, ← e, h)

    pub read_name : is_used n k ≡ true → Ok (padded name_max (name_at page k)) ≡ read_answer page k
    unfolding read_answer read_verdict
    read_name h = rw (f, ← e, h)
