-- The table in a page: its form, and what is written. Assumes nothing.
use mathlib.Core.Path.{◌≡◌, refl, sym, ◌∙◌}
use mathlib.Core.Bool.{true, false}
use mathlib.Core.List.{List}
use Prim.Native.Nat.{ℕ, ◌-◌, ◌*◌, ◌<◌, ◌≤◌}
use native.Mathlib.Nat.{sub-zero}
use native.Mathlib.Omega.{arith}
use lib.Dec.{leb}
use lib.ListN.{length, take, drop, replicate, length-take, length-drop}
use borrow.Author.Tests.{le-leb, lt-leb, leb-true}
use Rattle.pages.specs.Bytes.{zeros, count_bytes, count_of, bytes_of, low_bytes, put}
use Rattle.pages.specs.Pad.{pad}
use Rattle.pages.proofs.Quant.{and_true}
use Rattle.pages.proofs.Bytes.{and_false}
use Rattle.pages.proofs.Pad.{put_pad}
use Rattle.pages.proofs.Low.{low_same}
use Rattle.names.specs.Table.{names_max}
use Rattle.groups.specs.Groups.{Below}
use Rattle.pairs.specs.Table.{pairs_max, pair_bytes}
use Rattle.pairs.specs.Table as tables
use Rattle.pairs.specs.Page.{parents_at, size_of, parents_in, table_in, holds, Held, formed, with_table}
use Rattle.pairs.specs.declared.ConversionTable.{ConversionTable}
use Rattle.pairs.proofs.Table.{Form, form}

-- ---- a page that holds a table

module _ (page : List ℕ) where
  pub held_short : length page < count_bytes → false ≡ holds page
  unfolding holds
  held_short h =
      let l : length page < size_of (count_of page) = omega arith in
      rw (lt-leb (size_of (count_of page)) (length page) l) (sym (and_false (leb (count_of page) pairs_max)))

  pub held_many : (k : ℕ) → k ≡ count_of page → pairs_max < k → false ≡ holds page
  unfolding holds
  held_many k e h = rw (← e, lt-leb k pairs_max h)

  module _ (k : ℕ) (e : k ≡ count_of page) (few : k ≤ pairs_max) where
    pub held_cut : length page < size_of k → false ≡ holds page
    unfolding holds
    held_cut h = rw (← e, le-leb k pairs_max few, lt-leb (size_of k) (length page) h)

    pub held_rest : size_of k ≤ length page → zeros (drop (size_of k) page) ≡ holds page
    unfolding holds
    held_rest h = rw (← e, le-leb k pairs_max few, le-leb (size_of k) (length page) h)

pub held_parts : (page : List ℕ) → holds page ≡ true → Held page
unfolding holds
held_parts page e =
    let a = and_true (leb (count_of page) pairs_max) _ e in
    let b = and_true (leb (size_of (count_of page)) (length page)) _ a.1 in
    record { few = leb-true _ _ a.0; room = leb-true _ _ b.0 }

pub held_zeros : (page : List ℕ) → holds page ≡ true → zeros (drop (size_of (count_of page)) page) ≡ true
unfolding holds
held_zeros page e = (and_true (leb (size_of (count_of page)) (length page)) _ (and_true (leb (count_of page) pairs_max) _ e).1).1

-- ---- the table read from such a page

pub table_read : (page : List ℕ) (k at : ℕ) → k ≡ count_of page → at ≡ parents_at k → k ≤ pairs_max → size_of k ≤ length page → (bodies parents : List ℕ)
    → bodies ≡ put (replicate (pair_bytes * pairs_max) 0) 0 (take (at - count_bytes) (drop count_bytes page))
    → parents ≡ parents_in page
    → ◌≡◌ {A = ConversionTable} (record { count = k; pairs = bodies; parents = parents }) (table_in page)
unfolding table_in
table_read page k at e is few room bodies parents eb ep =
    let x : at - count_bytes ≡ pair_bytes * k = omega arith in
    let lx : length (take (pair_bytes * k) (drop count_bytes page)) ≤ pair_bytes * pairs_max = simp (length-take, length-drop) (omega arith) in
    let b : bodies ≡ pad (pair_bytes * pairs_max) 0 (take (pair_bytes * k) (drop count_bytes page)) =
    eb ∙ rw x (put_pad (pair_bytes * pairs_max) (take (pair_bytes * k) (drop count_bytes page)) lx) in
    rw (b, ep, e)

-- ---- the form, by its parts

module _ (page : List ℕ) (n : ℕ) where
  pub count_in : (table_in page).count ≡ count_of page
  unfolding table_in
  count_in = refl

  pub form_held : holds page ≡ true → tables.formed (table_in page) n ≡ formed page n
  unfolding formed
  form_held h = rw h

  pub form_unheld : holds page ≡ false → false ≡ formed page n
  unfolding formed
  form_unheld h = rw h

  -- a page in form holds its table, and that is in form
  pub formed_parts : formed page n ≡ true → (holds page ≡ true) × Form (table_in page) n
  unfolding formed
  formed_parts e = let a = and_true (holds page) (tables.formed (table_in page) n) e in (a.0, form (table_in page) n a.1)

  pub formed_held : formed page n ≡ true → Held page
  formed_held e = held_parts page (formed_parts e).0

-- ---- a table written

-- parents that a page can hold are bytes
pub low_below : (p : List ℕ) → length p ≡ names_max → Below names_max p → low_bytes p ≡ p
low_below p n b = low_same p (λ i l. let k = b i (omega (arith, n)) in omega arith)

pub table_written : (page : List ℕ) (t : ConversionTable) (at : ℕ) → at ≡ parents_at t.count → (one two three : List ℕ)
    → one ≡ put page count_bytes (take (pair_bytes * t.count - 0) (drop 0 t.pairs)) → two ≡ put one at t.parents → three ≡ put two 0 (bytes_of t.count)
    → three ≡ with_table page t
unfolding with_table
table_written page t at is one two three a b c = c ∙ rw (b, a, is, sub-zero)

-- ---- the parents read
