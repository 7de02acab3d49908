-- The form of a store, one entry after another, and what is left in the tables. Assumes nothing.
use Rattle.std.specs.Prelude.{Option, IfOk}
use Rattle.std.proofs.Common.{Ok, Err}
use mathlib.Core.Path.{◌≡◌, refl, sym, ◌∙◌, ap, subst}
use mathlib.Core.Bool.{Bool, true, false, ◌&&◌, not, cond}
use mathlib.Core.List.{List, ◌++◌}
use Prim.Native.Nat.{ℕ, suc, ◌+◌, ◌<◌, ◌≤◌}
use native.Mathlib.Numerals.{add-one}
use native.Mathlib.Omega.{arith}
use lib.Dec.{T}
use lib.ListN.{length, get_or, take, drop, set, replicate, length-set}
use lib.Seq.{take_at}
use borrow.Author.Tests.{le-leb, lt-leb}
use Rattle.refusals.specs.Numbers.{Verdict}
use Rattle.refusals.specs.declared.Refusal.TheVariants.{Broken}
use Rattle.pages.specs.Quant.{any_to, all_to, first_to}
use Rattle.pages.specs.Bytes.{zeros, count_bytes, count_of}
use Rattle.pages.proofs.Quant.{all_none, all_more, all_failed, any_none, any_more, first_none, first_at}
use Rattle.chains.specs.Prints.{prints_max}
use Rattle.names.specs.Calls.{lent_broken, used_of}
use Rattle.kinds.specs.Kinds.{fixed_max}
use Rattle.types.specs.Store.{entries_max, depth_max, size_at, offset, depth_at, depths, parts_at, good_at, formed, Reached}
use Rattle.types.specs.Types.{Measured}
use Rattle.types.specs.Calls.{form_verdict}
use Rattle.types.specs.Survey.{whole_at, new_at, Placed, Chained, counted, bad_at, good_to, filled, offsets_left, depths_left, opened_offsets, opened_depths}
use Rattle.types.proofs.Placing.{offset_start, offset_next}
use Rattle.types.proofs.Form.{good_both, depth_is, whole_parts}
use Rattle.types.proofs.Filled.{depths_length, places_next, depths_next, filled_at}
use Rattle.types.proofs.Prints.{chained_none}

-- what `survey` promises
abbrev Surveyed : List ℕ → ℕ → List ℕ → List ℕ → Verdict → List ℕ → List ℕ → Type 0
Surveyed page n os₀ ds₀ r os ds =
    (r ≡ form_verdict page n) × IfOk r (λ _. Measured page os ds) × (os ≡ offsets_left page n os₀) × (ds ≡ depths_left page n ds₀)

-- a no promises nothing that a yes does
no_more : {A : Type 0} → false ≡ true → A
no_more h = absurd (subst T (sym h) tt)

-- its verdict
pub form_broken : (page : List ℕ) (n : ℕ) → formed page n ≡ false → Err Broken ≡ form_verdict page n
unfolding form_verdict
form_broken page n f = rw f

pub form_passed : (page : List ℕ) (n : ℕ) → formed page n ≡ true → Ok tt ≡ form_verdict page n
unfolding form_verdict
form_passed page n f = rw f

-- ---- a page whose entries are not looked at

module _ (page : List ℕ) (n : ℕ) (os₀ ds₀ : List ℕ) where
  unlooked : counted page ≡ false → false ≡ formed page n → Surveyed page n os₀ ds₀ (Err Broken) os₀ ds₀
  unfolding offsets_left depths_left
  unlooked c f = (form_broken page n (sym f), tt, rw c, rw c)

  pub survey_short : length page < count_bytes → Surveyed page n os₀ ds₀ (Err Broken) os₀ ds₀
  unfolding formed counted
  survey_short h = unlooked (rw (lt-leb count_bytes (length page) h)) (rw (lt-leb count_bytes (length page) h))

  pub survey_many : count_bytes ≤ length page → (k : ℕ) → k ≡ count_of page → entries_max < k → Surveyed page n os₀ ds₀ (Err Broken) os₀ ds₀
  unfolding formed counted
  survey_many two k is h =
      unlooked (rw (le-leb count_bytes (length page) two, ← is, lt-leb k entries_max h))
      (rw (le-leb count_bytes (length page) two, ← is, lt-leb k entries_max h))

-- ---- a page of k entries that are looked at, the tables having come as os₀ and ds₀

pub record Looked (page : List ℕ) (k : ℕ) (os₀ ds₀ : List ℕ) : Type 0 where
  pub two : count_bytes ≤ length page
  pub is : k ≡ count_of page
  pub few : k ≤ entries_max
  pub room : length os₀ ≡ suc entries_max
  pub size : length ds₀ ≡ entries_max

module _ {page : List ℕ} {k : ℕ} {os₀ ds₀ : List ℕ} (c : Looked page k os₀ ds₀) (n : ℕ) where
  looked : counted page ≡ true
  unfolding counted
  looked = rw (le-leb count_bytes (length page) c.two, ← c.is, le-leb k entries_max c.few)

  formed_rest : (b : Bool) → all_to k (good_at page n) ≡ b → (b && zeros (drop (offset page k) page)) ≡ formed page n
  unfolding formed
  formed_rest b h = rw (le-leb count_bytes (length page) c.two, ← c.is, le-leb k entries_max c.few, h)

  -- the tables, where j entries are good before the first that is not
  left : (j : ℕ) → first_to k (bad_at page n) ≡ j
      → (filled (offset page) (suc j) os₀ ≡ offsets_left page n os₀) × (depths page j ++ drop j ds₀ ≡ depths_left page n ds₀)
  unfolding offsets_left depths_left good_to
  left j e = (rw (looked, ← c.is, e), rw (looked, ← c.is, e))

-- where the test stands: the first j entries are good, and entry j begins at o
pub record Going (page : List ℕ) (n k : ℕ) (os₀ ds₀ heads links os ds : List ℕ) (o j : ℕ) : Type 0 where
  pub look : Looked page k os₀ ds₀
  pub within_k : j ≤ k
  pub at : o ≡ offset page j
  pub inside : o ≤ length page
  pub room : length os ≡ suc entries_max
  pub placed : os ≡ filled (offset page) j os₀
  pub size : length ds ≡ entries_max
  pub known : ds ≡ depths page j ++ drop j ds₀
  pub chained : Chained page heads links j
  pub good : all_to j (good_at page n) ≡ true
  pub none_bad : any_to j (bad_at page n) ≡ false

pub going_start : {page : List ℕ} {k : ℕ} {os₀ ds₀ : List ℕ} (c : Looked page k os₀ ds₀) (n : ℕ) (heads links : List ℕ)
    → heads ≡ replicate prints_max 0 → links ≡ replicate entries_max 0 → Going page n k os₀ ds₀ heads links os₀ ds₀ count_bytes 0
unfolding depths
going_start {page} c n heads links e f = record {
  look = c;
  within_k = omega arith;
  at = offset_start page;
  inside = c.two;
  room = c.room;
  placed = refl;
  size = c.size;
  known = refl;
  chained = chained_none page heads links e f;
  good = all_none (good_at page n);
  none_bad = any_none (bad_at page n);
}

module _ {page : List ℕ} {n k : ℕ} {os₀ ds₀ heads links os ds : List ℕ} {o j : ℕ} (g : Going page n k os₀ ds₀ heads links os ds o j) where
  -- the offset of entry j, or of the end, is written down
  placed_here : set os j o ≡ filled (offset page) (suc j) os₀
  placed_here = places_next (offset page) j os₀ os o g.placed (omega (arith, g.within_k, g.look.few, g.look.room)) g.at

  place_at : (i : ℕ) → i ≤ j → get_or (set os j o) i 0 ≡ offset page i
  place_at i l = rw placed_here (filled_at (offset page) (suc j) (drop (suc j) os₀) i (omega arith))

  depths_known : take j ds ≡ depths page j
  depths_known = rw g.known (take_at (depths page j) (drop j ds₀) j (depths_length page j))

  pub going_room : j < length os
  going_room = omega (arith, g.room, g.within_k, g.look.few)

  module _ (h : j < k) where
    pub going_reached : Reached page ds j o
    going_reached = record { at = g.at; inside = g.inside; few = omega (arith, g.look.few); size = g.size; known = depths_known }

    -- after the offset of entry j
    pub going_placed : Placed page (set os j o) j
    going_placed = record { inside = rw (← g.at) g.inside; room = omega (arith, length-set os j o, going_room); places = place_at }

    failed : good_at page n j ≡ false → Surveyed page n os₀ ds₀ (Err Broken) (set os j o) ds
    failed b =
        let l = left g.look n j (first_at (bad_at page n) k j h g.none_bad (ap not b)) in
        (form_broken page n (sym (formed_rest g.look n false (all_failed (good_at page n) k j h b))), tt, placed_here ∙ l.0, g.known ∙ l.1)

    pub going_broken : whole_at page n j ≡ false → Surveyed page n os₀ ds₀ (Err Broken) (set os j o) ds
    going_broken w = failed (rw (good_both page n j, w))

    module _ (w : whole_at page n j ≡ true) where
      pub going_parts : (o + size_at page o ≤ length page) × (parts_at page n (fixed_max + j) o ≡ true) × (depth_at page ds o ≤ depth_max)
      going_parts = whole_parts page ds j o going_reached n w

      pub going_in : offset page (suc j) ≤ length page
      going_in = rw (← add-one j, ← offset_next page j, ← g.at) going_parts.0

      pub going_equal : new_at page j ≡ false → Surveyed page n os₀ ds₀ (Err Broken) (set os j o) ds
      going_equal b = failed (rw (good_both page n j, w, b))

      pub going_next : new_at page j ≡ true → (d p : ℕ) → d ≡ depth_at page ds o → p ≡ o + size_at page o
          → (heads' links' : List ℕ) → Chained page heads' links' (suc j) → Going page n k os₀ ds₀ heads' links' (set os j o) (set ds j d) p (j + 1)
      going_next b d p e f heads' links' c =
          let y : depth_at page ds o ≡ depth_at page (depths page j) (offset page j) =
          rw (← g.at) (depth_is page ds j o going_reached n going_parts.1) in
          record {
            look = g.look;
            within_k = omega arith;
            at = f ∙ rw g.at (offset_next page j);
            inside = rw f going_parts.0;
            room = length-set os j o ∙ g.room;
            placed = rw (add-one j) placed_here;
            size = length-set ds j d ∙ g.size;
            known = rw (add-one j) (depths_next page j ds₀ ds d g.known (omega (arith, g.look.few, g.look.size)) (e ∙ y));
            chained = rw (add-one j) c;
            good = all_more (good_at page n) j g.good (rw (good_both page n j, w, b));
            none_bad = any_more (bad_at page n) j g.none_bad (rw (good_both page n j, w, b));
          }

  module _ (h : k ≤ j) where
    all : j ≡ k
    all = omega (arith, g.within_k)

    left_all : (filled (offset page) (suc j) os₀ ≡ offsets_left page n os₀) × (depths page j ++ drop j ds₀ ≡ depths_left page n ds₀)
    left_all = left g.look n j (rw (← all) (first_none (bad_at page n) j g.none_bad))

    form_is : (b : Bool) → b ≡ zeros (drop o page) → b ≡ formed page n
    form_is b z = z ∙ ap (λ (x : ℕ). zeros (drop x page)) (g.at ∙ ap (offset page) all) ∙ formed_rest g.look n true (rw all at g.good)

    going_dirty : false ≡ zeros (drop o page) → Surveyed page n os₀ ds₀ (Err Broken) (set os k o) ds
    going_dirty z = rw (← all) (form_broken page n (sym (form_is false z)), tt, placed_here ∙ left_all.0, g.known ∙ left_all.1)

    going_clean : true ≡ zeros (drop o page) → Surveyed page n os₀ ds₀ (Ok tt) (set os k o) ds
    going_clean z = rw (← all) (form_passed page n f, measured, placed_here ∙ left_all.0, g.known ∙ left_all.1)
      where
        f : formed page n ≡ true
        f = sym (form_is true z)

        counted_all : j ≡ count_of page
        counted_all = all ∙ g.look.is

        measured : Measured page (set os j o) ds
        measured = record {
          held = record {
            sound = record { names = n; form = f };
            size = length-set os j o ∙ g.room;
            places = λ i m. place_at i (omega (arith, counted_all));
          };
          size = g.size;
          known = rw (← counted_all) depths_known;
        }

    -- with all entries looked at, zeros behind the last decide
    pub going_end : (b : Bool) → b ≡ zeros (drop o page) → Surveyed page n os₀ ds₀ (cond b (Ok tt) (Err Broken)) (set os k o) ds
    going_end true z = going_clean z
    going_end false z = going_dirty z

-- ---- names and store

module _ (page : List ℕ) (names : Option (List ℕ)) (os ds : List ℕ) where
  pub unopened : lent_broken names ≡ true → (os ≡ opened_offsets page names os) × (ds ≡ opened_depths page names ds)
  unfolding opened_offsets opened_depths
  unopened l = (rw l, rw l)

  pub opened_is : lent_broken names ≡ false → (n : ℕ) → n ≡ used_of names
      → (offsets_left page n os ≡ opened_offsets page names os) × (depths_left page n ds ≡ opened_depths page names ds)
  unfolding opened_offsets opened_depths
  opened_is l n is = (rw (l, ← is), rw (l, ← is))
