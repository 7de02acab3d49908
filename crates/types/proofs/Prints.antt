-- Entries with equal bytes have equal prints; so an entry is equal to one before it exactly if it is to one of the chain of its print.
-- Assumes nothing.
use mathlib.Core.Path.{◌≡◌, refl, sym, ◌∙◌, ap}
use mathlib.Core.Bool.{Bool, true, false, not}
use mathlib.Core.List.{List}
use Prim.Native.Nat.{ℕ, suc, ◌+◌, ◌-◌, ◌<◌, ◌≤◌}
use native.Mathlib.Nat.{le_refl}
use native.Mathlib.Numerals.{add-one}
use native.Mathlib.Omega.{arith}
use lib.ListN.{length, get_or, set, replicate, take, drop, length-set, length-replicate}
use borrow.Author.Tests.{le-leb, lt-leb}
use Rattle.pages.specs.Bytes.{eqs}
use Rattle.pages.specs.Quant.{any_to}
use Rattle.pages.proofs.Quant.{first_none, first_below}
use Rattle.pages.proofs.Bytes.{eqs_true}
use Rattle.chains.specs.Last.{last_below}
use Rattle.chains.specs.Prints.{prints_max, print_of}
use Rattle.chains.proofs.Grow.{heads_none, heads_more, links_none, links_more}
use Rattle.types.specs.Store.{entries_max, size_at, entry_at, offset, is_entry}
use Rattle.types.specs.Survey.{new_at, print_at, Placed, Chained}
use Rattle.types.proofs.Placing.{offset_next, offset_le, entry_part}

pub same_print : (page entry : List ℕ) (i : ℕ) → is_entry page entry i ≡ true → print_at page i ≡ print_of entry
same_print page entry i e = ap print_of (eqs_true (entry_at page (offset page i)) entry e)

-- an entry that is compared
module _ (page offsets : List ℕ) (j k : ℕ) (t : Placed page offsets j) (h : k < j) where
  start_is : get_or offsets k 0 ≡ offset page k
  start_is = t.places k (omega arith)

  end_is : get_or offsets (k + 1) 0 ≡ get_or offsets k 0 + size_at page (get_or offsets k 0)
  end_is = t.places (k + 1) (omega arith) ∙ rw (start_is, offset_next page k) refl

  pub part_ordered : get_or offsets k 0 ≤ get_or offsets (k + 1) 0
  part_ordered = omega (arith, end_is)

  pub part_in : get_or offsets (k + 1) 0 ≤ length page
  part_in = omega (arith, t.places (k + 1) (omega arith), offset_le page (k + 1) j (omega arith), t.inside)

  pub compared : (entry : List ℕ) → eqs (take (get_or offsets (k + 1) 0 - get_or offsets k 0) (drop (get_or offsets k 0) page)) entry ≡ is_entry page entry k
  compared entry = rw (entry_part page (get_or offsets k 0) (get_or offsets (k + 1) 0) end_is, start_is) refl

-- ---- the chains, from none on, an entry more at a time

pub chained_none : (page heads links : List ℕ) → heads ≡ replicate prints_max 0 → links ≡ replicate entries_max 0 → Chained page heads links 0
chained_none page heads links e f = record {
  prints = ap length e ∙ length-replicate {A = ℕ} prints_max 0;
  linked = ap length f ∙ length-replicate {A = ℕ} entries_max 0;
  head_at = rw e (heads_none (print_at page) prints_max);
  link_at = links_none (print_at page) links;
}

module _ (page heads links : List ℕ) (j : ℕ) (t : Chained page heads links j) (print : ℕ) (is : print ≡ print_at page j) (pl : print < prints_max) where
  pub head_is : (entry : List ℕ) → print ≡ print_of entry → (head : ℕ) → head ≡ get_or heads print 0 → head ≡ last_below (print_at page) j (print_of entry)
  head_is entry e head f = f ∙ t.head_at print (omega (arith, t.prints)) ∙ ap (last_below (print_at page) j) e

  pub chained_more : j < entries_max → (heads' links' : List ℕ) → heads' ≡ set heads print (j + 1) → links' ≡ set links j (get_or heads print 0)
      → Chained page heads' links' (suc j)
  chained_more l heads' links' eh el =
      rw (eh, el, ← add-one j) record {
        prints = length-set heads print (j + 1) ∙ t.prints;
        linked = length-set links j (get_or heads print 0) ∙ t.linked;
        head_at = rw is (heads_more (print_at page) heads j t.head_at (omega (arith, is, t.prints)));
        link_at = links_more (print_at page) links j (get_or heads print 0) t.link_at (omega (arith, t.linked)) (t.head_at print (omega (arith, t.prints)) ∙ ap (last_below (print_at page) j) is);
      }

-- ---- entry j

module _ (page offsets : List ℕ) (j : ℕ) (t : Placed page offsets j) where
  here : get_or offsets j 0 ≡ offset page j
  here = t.places j (le_refl j)

  pub entry_in : offset page (suc j) ≤ length page → get_or offsets j 0 + size_at page (get_or offsets j 0) ≤ length page
  entry_in l = rw (here, offset_next page j, add-one j) l

  pub entry_is : (r : ℕ) → r ≡ size_at page (get_or offsets j 0) → take (get_or offsets j 0 + r - get_or offsets j 0) (drop (get_or offsets j 0) page) ≡ entry_at page (offset page j)
  entry_is r e = rw (← here) (entry_part page (get_or offsets j 0) (get_or offsets j 0 + r) (ap (λ (x : ℕ). get_or offsets j 0 + x) e))

-- it is new if it is not among those before it
pub new_is : (page : List ℕ) (j : ℕ) (entry : List ℕ) → entry ≡ entry_at page (offset page j) → (found : Bool) → found ≡ any_to j (is_entry page entry)
    → not found ≡ new_at page j
new_is page j entry e found f = go found (rw e at f)
  where
    go : (b : Bool) → b ≡ any_to j (is_entry page (entry_at page (offset page j))) → not b ≡ new_at page j
    go true a = sym (lt-leb j _ (first_below _ j (sym a)))
    go false a = sym (le-leb j _ (let z = first_none _ j (sym a) in omega arith))
