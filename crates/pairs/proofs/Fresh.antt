-- A fresh table is in form and lists nothing, by value (`fresh_formed`) and in a page (`empty_formed`), and a page of zeros is no table (`zeros_unformed`).
-- Assumes nothing.
use mathlib.Core.Path.{◌≡◌, refl, sym, ◌∙◌, ap}
use mathlib.Core.Bool.{Bool, true, false, ◌&&◌}
use mathlib.Core.List.{List, []}
use Prim.Native.Nat.{ℕ, ◌+◌, ◌*◌, ◌≤◌}
use native.Mathlib.Omega.{arith}
use lib.ListN.{length, get_or, drop, replicate, length-replicate}
use lib.Seq.{get_or-take, get_or-drop}
use borrow.Author.Tests.{le-leb}
use Rattle.pages.specs.Bytes.{zeros, count_bytes, count_of, put}
use Rattle.pages.specs.Quant.{all_to}
use Rattle.pages.proofs.Quant.{and_true, all_none}
use Rattle.pages.proofs.Bytes.{zeros_made, made_at, zeros_drop}
use Rattle.pages.proofs.Put.{put_length, put_before, put_part, put_drop}
use Rattle.names.specs.Table.{names_max}
use Rattle.groups.specs.Groups.{enter_all, selves, parents_of}
use Rattle.groups.proofs.UnionFind.{length_selves, get_d_selves}
use Rattle.pairs.specs.Table.{pairs_max, pair_bytes, pairs_in, listed, used_at, fresh_table}
use Rattle.pairs.specs.Table as tables
use Rattle.pairs.specs.Page.{size_of, parents_in, table_in, listed_in, holds, formed}
use Rattle.pairs.specs.Calls.{empty_page}
use Rattle.pairs.proofs.Table.{Form, form}
use Rattle.pairs.proofs.Calls.{empty_made}
use Rattle.pairs.proofs.Grown.{form_formed}

-- ---- a fresh table by value

pub fresh_formed : (n : ℕ) → (tables.formed fresh_table n ≡ true) × (listed fresh_table ≡ [])
unfolding pairs_in parents_of enter_all
fresh_formed n = (form_formed fresh_table n (record { few = omega arith; given = refl; used = all_none (used_at (replicate (pair_bytes * pairs_max) 0) n) }), refl)

-- ---- a fresh page

module _ (len : ℕ) (long : size_of 0 ≤ len) where
  page : List ℕ
  page = put (replicate len 0) count_bytes (selves 0 names_max)

  size : length {A = ℕ} (replicate len 0) ≡ len
  size = length-replicate len 0

  fits : count_bytes + length (selves 0 names_max) ≤ length {A = ℕ} (replicate len 0)
  fits = omega (arith, long, size, length_selves 0 names_max)

  page_length : length page ≡ len
  unfolding page
  page_length = put_length (replicate len 0) count_bytes (selves 0 names_max) fits ∙ size

  page_count : count_of page ≡ 0
  unfolding page
  page_count =
      let a = put_before (replicate len 0) count_bytes (selves 0 names_max) fits 0 (omega arith) ∙ made_at len 0 in
      let b = put_before (replicate len 0) count_bytes (selves 0 names_max) fits 1 (omega arith) ∙ made_at len 1 in
      omega (arith, a, b)

  page_listed : listed_in page ≡ []
  unfolding table_in pairs_in
  page_listed = ap (pairs_in (table_in page).pairs) page_count

  page_parents : parents_in page ≡ selves 0 names_max
  unfolding page
  page_parents = rw page_count (put_part (replicate len 0) count_bytes (selves 0 names_max) fits names_max (length_selves 0 names_max))

  page_given : (table_in page).parents ≡ parents_of names_max (listed_in page)
  unfolding parents_of enter_all
  page_given = rw page_listed (unfold table_in in page_parents)

  page_form : (n : ℕ) → Form (table_in page) n
  page_form n = record { few = few; given = page_given; used = used }
    where
      few : (table_in page).count ≤ pairs_max
      few = unfold table_in in (omega (arith, page_count))

      used : all_to (table_in page).count (used_at (table_in page).pairs n) ≡ true
      used =
          let c : (table_in page).count ≡ 0 = unfold table_in in page_count in
          ap (λ (k : ℕ). all_to k (used_at (table_in page).pairs n)) c ∙ all_none (used_at (table_in page).pairs n)

  page_rest : zeros (drop (size_of 0) page) ≡ true
  unfolding page
  page_rest =
      rw (put_drop (replicate len 0) count_bytes (selves 0 names_max) fits (size_of 0) (omega (arith, length_selves 0 names_max)))
      (zeros_drop (replicate len 0) (size_of 0) (zeros_made len))

  page_formed_lem : (n : ℕ) → formed page n ≡ true
  unfolding formed holds
  page_formed_lem n =
      let l : size_of 0 ≤ length page = omega (arith, long, page_length) in
      rw (page_count, le-leb (size_of 0) (length page) l, page_rest) (form_formed (table_in page) n (page_form n))

-- a page that is long enough becomes a table in form, which lists no pair
pub empty_formed : (page : List ℕ) → size_of 0 ≤ length page → (n : ℕ) → (formed (empty_page page) n ≡ true) × (listed_in (empty_page page) ≡ [])
empty_formed l long n =
    let made = sym (empty_made l long).1 in
    (rw made (unfold page in (page_formed_lem (length l) long n)), rw made (unfold page in (page_listed (length l) long)))

-- ---- zeros

-- a page of zeros, of any length, is no table in form: symbol 1 would have the parent 0, which no pair gives
pub zeros_unformed : (len n : ℕ) → formed (replicate len 0) n ≡ false
unfolding formed
zeros_unformed len n = go (formed (replicate len 0) n) refl
  where
    go : (b : Bool) → (holds (replicate len 0) && tables.formed (table_in (replicate len 0)) n) ≡ b
        → (holds (replicate len 0) && tables.formed (table_in (replicate len 0)) n) ≡ false
    go false e = e
    go true e = absurd (never (form (table_in (replicate len 0)) n (and_true (holds (replicate len 0)) (tables.formed (table_in (replicate len 0)) n) e).1))
      where
        none : count_of (replicate len 0) ≡ 0
        none = let a = made_at len 0 in let b = made_at len 1 in omega (arith, a, b)

        nobody : listed_in (replicate len 0) ≡ []
        nobody = unfold table_in pairs_in in (ap (pairs_in (table_in (replicate len 0)).pairs) none)

        zero! : get_or (parents_in (replicate len 0)) 1 0 ≡ 0
        zero! =
            get_or-take names_max (drop (count_bytes + pair_bytes * count_of (replicate len 0)) (replicate len 0)) 1 0 (omega arith)
            ∙ get_or-drop (count_bytes + pair_bytes * count_of (replicate len 0)) (replicate len 0) 1 0
            ∙ made_at len (count_bytes + pair_bytes * count_of (replicate len 0) + 1)

        never : Form (table_in (replicate len 0)) n → ⊥
        never f =
            let p : parents_in (replicate len 0) ≡ selves 0 names_max = unfold table_in parents_of enter_all in (f.given ∙ ap (parents_of names_max) nobody) in
            let one : get_or (selves 0 names_max) 1 0 ≡ 1 = get_d_selves 0 names_max 1 (omega arith) in
            let z : get_or (selves 0 names_max) 1 0 ≡ 0 = rw p at zero! in
            omega (arith, one, z)
