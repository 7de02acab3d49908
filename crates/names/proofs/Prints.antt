-- Names with equal bytes have equal prints; so a name is among the first n exactly if it is in the chain of its print. Assumes nothing.
use mathlib.Core.Path.{◌≡◌, refl, sym, ◌∙◌, ap}
use mathlib.Core.Bool.{Bool, true, false}
use mathlib.Core.List.{List}
use Prim.Native.Nat.{ℕ, ◌+◌, ◌<◌, ◌≤◌}
use native.Mathlib.Nat.{not-suc-le-zero}
use native.Mathlib.Omega.{arith}
use lib.ListN.{length, get_or, set, replicate, take, drop, length-set, length-replicate}
use lib.Seq.{get_or-set_same, get_or-set_other}
use lib.Dec.{eqb, leb}
use borrow.Author.Tests.{le-leb, lt-leb, eqb-true, eqb-false}
use Rattle.pages.specs.Bytes.{eqs}
use Rattle.pages.specs.Quant.{any_to, all_to}
use Rattle.pages.proofs.Quant.{all_none, all_more, first_none, first_below}
use Rattle.pages.proofs.Bytes.{eqs_true}
use Rattle.chains.specs.Last.{last_below, Heads}
use Rattle.chains.specs.Prints.{prints_max, print_of}
use Rattle.chains.proofs.Grow.{heads_none, heads_more, links_none, links_more}
use Rattle.names.specs.Table.{names_max, offset, name_at, named, number_of, good_at, well_named}
use Rattle.names.specs.Prints.{print_at, Chained}
use Rattle.names.proofs.Table.{offset_suc, step_in, name_there, good_name}

-- ---- the chain of a print

pub same_print : (page name : List ℕ) (j : ℕ) → named page name j ≡ true → print_at page j ≡ print_of name
unfolding named
same_print page name j e = ap print_of (eqs_true (name_at page j) name e)

module _ (page offsets links : List ℕ) (n k : ℕ) (c : Chained page n offsets links) (h : k < n) where
  -- where a name stands that is compared
  pub compared_in : get_or offsets k 0 + 1 + get_or page (get_or offsets k 0) 0 ≤ length page
  compared_in = step_in page k (get_or offsets k 0) n (c.offset_at k h) h c.inside

  pub compared : (name : List ℕ) → eqs (take (get_or page (get_or offsets k 0) 0) (drop (get_or offsets k 0 + 1) page)) name ≡ named page name k
  unfolding named
  compared name = ap (λ l. eqs l name) (name_there page k (get_or offsets k 0) (c.offset_at k h))

-- ---- the tables of the first i names, which are good

pub record Tables (page : List ℕ) (i at : ℕ) (heads links offsets : List ℕ) : Type 0 where
  pub stands : at ≡ offset page i
  pub good : all_to i (good_at page) ≡ true
  pub prints : length heads ≡ prints_max
  pub places : length links ≡ names_max
  pub notes : length offsets ≡ names_max
  pub head_at : Heads (print_at page) heads i
  pub chain : Chained page i offsets links

pub tables_none : (page heads links offsets : List ℕ) → 2 ≤ length page → heads ≡ replicate prints_max 0 → links ≡ replicate names_max 0 → offsets ≡ replicate names_max 0
    → Tables page 0 2 heads links offsets
unfolding offset
tables_none page heads links offsets h e f g =
    let k : length links ≡ names_max = ap length f ∙ length-replicate {A = ℕ} names_max 0 in
    let m : length offsets ≡ names_max = ap length g ∙ length-replicate {A = ℕ} names_max 0 in
    record {
      stands = refl;
      good = all_none (good_at page);
      prints = ap length e ∙ length-replicate {A = ℕ} prints_max 0;
      places = k;
      notes = m;
      head_at = rw e (heads_none (print_at page) prints_max);
      chain = record { inside = h; noted = omega arith; linked = omega arith; offset_at = λ j l. absurd (not-suc-le-zero l); link_at = links_none (print_at page) links };
    }

-- the part of the page where name i stands
module _ (page : List ℕ) (i at end : ℕ) (heads links offsets : List ℕ) (t : Tables page i at heads links offsets) (e : end ≡ at + 1 + get_or page at 0) (h : end ≤ length page) where
  module _ (name : List ℕ) (is : name ≡ name_at page i) (w : well_named name ≡ true) where
    judged : good_at page i ≡ leb i (number_of page i name)
    judged = good_name page i at end t.stands e h name is w (number_of page i name) refl

    pub known_name : (found : Bool) → found ≡ any_to i (named page name) → found ≡ true → good_at page i ≡ false
    known_name found f a = judged ∙ lt-leb i _ (first_below _ i (sym f ∙ a))

    new_name : any_to i (named page name) ≡ false → good_at page i ≡ true
    new_name a = judged ∙ le-leb i _ (let z = first_none _ i a in omega arith)

    module _ (print : ℕ) (pr : print ≡ print_of name) (pl : print < prints_max) where
      printed : print ≡ print_at page i
      printed = pr ∙ ap print_of is

      pub head_is : (head : ℕ) → head ≡ get_or heads print 0 → head ≡ last_below (print_at page) i (print_of name)
      head_is head f = f ∙ t.head_at print (omega (arith, t.prints)) ∙ ap (last_below (print_at page) i) pr

      pub tables_more : (found : Bool) → found ≡ any_to i (named page name) → found ≡ false → i < names_max
          → (heads' links' offsets' : List ℕ) → heads' ≡ set heads print (i + 1) → links' ≡ set links i (get_or heads print 0) → offsets' ≡ set offsets i at
          → Tables page (i + 1) end heads' links' offsets'
      tables_more found f a l heads' links' offsets' eh el eo =
          rw (eh, el, eo) record {
            stands = next;
            good = all_more (good_at page) i t.good (new_name (sym f ∙ a));
            prints = length-set heads print (i + 1) ∙ t.prints;
            places = length-set links i (get_or heads print 0) ∙ t.places;
            notes = length-set offsets i at ∙ t.notes;
            head_at = rw printed (heads_more (print_at page) heads i t.head_at (omega (arith, printed, t.prints)));
            chain = record {
              inside = rw (← next) h;
              noted = omega (arith, length-set offsets i at, t.notes);
              linked = omega (arith, length-set links i (get_or heads print 0), t.places);
              offset_at = noted;
              link_at = links_more (print_at page) links i (get_or heads print 0) t.chain.link_at (omega (arith, t.places)) (t.head_at print (omega (arith, t.prints)) ∙ ap (last_below (print_at page) i) printed);
            };
          }
        where
          next : end ≡ offset page (i + 1)
          next = rw (e, t.stands) (sym (offset_suc page i))

          noted : (j : ℕ) → j < i + 1 → get_or (set offsets i at) j 0 ≡ offset page j
          noted j k = go (eqb j i) refl
            where
              go : (x : Bool) → eqb j i ≡ x → get_or (set offsets i at) j 0 ≡ offset page j
              go true f = rw (eqb-true j i f, get_or-set_same offsets i at 0 (omega (arith, t.notes))) t.stands
              go false f =
                  let g = eqb-false j i f in
                  rw (get_or-set_other offsets i j at 0 g) (t.chain.offset_at j (omega arith))
