-- A table stays in form: with one more pair, and written into a page. What it then lists is what it listed, and that pair.
-- Assumes nothing.
use mathlib.Core.Path.{◌≡◌, refl, sym, ◌∙◌, ap, ap₂, subst}
use mathlib.Core.Bool.{true}
use mathlib.Core.List.Memᴰ
use mathlib.Core.List.{List, [], ◌∷◌, ◌++◌, Memᴰ}
use mathlib.Core.Logic.{⊎_elim}
use Prim.Native.Nat.{ℕ, zero, suc, ◌+◌, ◌*◌, ◌/◌, ◌%◌, ◌<◌, ◌≤◌}
use native.Mathlib.Nat.{add-zero}
use native.Mathlib.Omega.{arith}
use lib.ListN.{length, get_or, take, drop, length-take, length-drop}
use lib.Seq.{get_or-take, get_or-drop, ext_get_or}
use borrow.Author.Tests.{le-leb}
use Rattle.pages.specs.Quant.{all_to}
use Rattle.pages.specs.Bytes.{zeros, count_bytes, count_of, bytes_of, put}
use Rattle.pages.specs.Pad.{pad}
use Rattle.pages.proofs.Quant.{and_true, all_at, all_more, all_cong}
use Rattle.pages.proofs.Bytes.{eqs_refl}
use Rattle.pages.proofs.Put.{put_length, put_before, put_part, put_in, put_drop, put_after, put_front}
use Rattle.pages.proofs.Pad.{get_d_pad, length_pad, pad_front}
use Rattle.names.specs.Table.{names_max}
use Rattle.names.specs.Calls.{is_used}
use Rattle.names.proofs.Used.{used_below, used_is, used_more}
use Rattle.groups.specs.Groups.{Pair, pair, Within, parents_of, Below}
use Rattle.groups.proofs.UnionFind.{parents_below}
use Rattle.groups.proofs.Walks.{length_parents}
use Rattle.pairs.specs.Table.{pairs_max, pair_bytes, body_of, pair_at, pairs_in, listed, both_used, used_at, formed, with_pair}
use Rattle.pairs.specs.Page.{parents_at, size_of, bodies_in, parents_in, table_in, listed_in, holds, Held, with_table}
use Rattle.pairs.specs.Page as pages
use Rattle.pairs.specs.declared.ConversionTable.{ConversionTable}
use Rattle.pairs.proofs.Table.{pairs_next, both_below, Form}

-- ---- what pairs are listed

-- bodies that agree on the bytes of k pairs list the same k pairs
pub same_pairs : (k : ℕ) (l m : List ℕ) → ((i : ℕ) → i < pair_bytes * k → get_or l i 0 ≡ get_or m i 0) → pairs_in l k ≡ pairs_in m k
unfolding pairs_in
same_pairs zero l m h = refl
same_pairs (suc k) l m h =
    let a = same_pairs k l m (λ i lt. h i (omega arith)) in
    let s = h (pair_bytes * k) (omega arith) in
    let b = h (pair_bytes * k + 1) (omega arith) in
    rw (a, s, b)

-- pairs whose symbols are in use have symbols below their number
pub within_listed : (n : ℕ) (bodies : List ℕ) (k : ℕ) → ((i : ℕ) → i < k → used_at bodies n i ≡ true) → Within n (pairs_in bodies k)
unfolding Within pairs_in
within_listed n bodies zero h q m = absurd (Memᴰ.not-nil m)
within_listed n bodies (suc k) h q m =
    ⊎_elim (λ o. within_listed n bodies k (λ i l. h i (omega arith)) q o)
    (λ (o : Memᴰ q (pair_at bodies k ∷ [])). subst (λ (r : Pair). (r.symbol < n) × (r.base < n)) (sym (Memᴰ.eq_of_singleton o)) (last (h k (omega arith)))) (Memᴰ.append_cases (pairs_in bodies k) m)
  where
    last : used_at bodies n k ≡ true → ((pair_at bodies k).symbol < n) × ((pair_at bodies k).base < n)
    last u =
        let a = and_true (is_used n (pair_at bodies k).symbol) (is_used n (pair_at bodies k).base) u in
        ((used_below n (pair_at bodies k).symbol a.0).0, (used_below n (pair_at bodies k).base a.1).0)

-- ---- the form

pub form_formed : (t : ConversionTable) (n : ℕ) → Form t n → formed t n ≡ true
unfolding formed
form_formed t n f = rw (le-leb t.count pairs_max f.few, f.used, f.given) (eqs_refl (parents_of names_max (listed t)))

pub form_within : (t : ConversionTable) (n : ℕ) → Form t n → Within n (listed t)
form_within t n f = within_listed n t.pairs t.count (λ i l. all_at (used_at t.pairs n) t.count i f.used l)

-- what is in use among n numbers is in use among m, if n is at most m
pub more_used : (n m : ℕ) (q : Pair) → n ≤ m → both_used n q ≡ true → both_used m q ≡ true
more_used n m q h u =
    let a = and_true (is_used n q.symbol) (is_used n q.base) u in
    rw (used_more n m q.symbol h a.0, used_more n m q.base h a.1)

-- of any number in use, those of a table in form are symbols that a table can have
pub form_below : (t : ConversionTable) (n : ℕ) → Form t n → Below names_max t.parents
form_below t n f = subst (Below names_max) (sym f.given) (parents_below names_max (listed t) (within_listed names_max t.pairs t.count every))
  where
    every : (i : ℕ) → i < t.count → used_at t.pairs names_max i ≡ true
    every i l =
        let q = pair_at t.pairs i in
        let b = both_below n q (all_at (used_at t.pairs n) t.count i f.used l) in
        rw (used_is names_max q.symbol b.0 b.0, used_is names_max q.base b.1 b.1)

-- pairs of symbols below n are pairs of symbols below m
pub within_all : (n m : ℕ) → n ≤ m → (ps : List Pair) → Within n ps → Within m ps
unfolding Within
within_all n m h ps w q i = let o = w q i in let a : q.symbol < m = omega (arith, o.0) in let b : q.base < m = omega (arith, o.1) in (a, b)

-- ---- with one more pair

module _ (t : ConversionTable) (s f b : ℕ) (sized : length t.pairs ≡ pair_bytes * pairs_max) (few : t.count < pairs_max) where
  fits : pair_bytes * t.count + length (body_of s f b) ≤ length t.pairs
  fits = omega (arith, sized)

  old : (i : ℕ) → i < pair_bytes * t.count → get_or (put t.pairs (pair_bytes * t.count) (body_of s f b)) i 0 ≡ get_or t.pairs i 0
  old i l = put_before t.pairs (pair_bytes * t.count) (body_of s f b) fits i l

  new : pair_at (put t.pairs (pair_bytes * t.count) (body_of s f b)) t.count ≡ pair s b
  new =
      let x : get_or (put t.pairs (pair_bytes * t.count) (body_of s f b)) (pair_bytes * t.count) 0 ≡ s =
      rw add-zero at (put_in t.pairs (pair_bytes * t.count) (body_of s f b) fits 0 (omega arith)) in
      let y : get_or (put t.pairs (pair_bytes * t.count) (body_of s f b)) (pair_bytes * t.count + 1) 0 ≡ b =
      put_in t.pairs (pair_bytes * t.count) (body_of s f b) fits 1 (omega arith) in
      ap₂ pair x y

  -- the pair is listed behind those that were
  pub listed_more : listed (with_pair t s f b) ≡ listed t ++ (pair s b ∷ [])
  unfolding with_pair
  listed_more =
      pairs_next (put t.pairs (pair_bytes * t.count) (body_of s f b)) t.count
      ∙ ap₂ (λ (ps : List Pair) (q : Pair). ps ++ (q ∷ [])) (same_pairs t.count (put t.pairs (pair_bytes * t.count) (body_of s f b)) t.pairs old) new

  pub sized_more : length (with_pair t s f b).pairs ≡ pair_bytes * pairs_max
  unfolding with_pair
  sized_more = put_length t.pairs (pair_bytes * t.count) (body_of s f b) fits ∙ sized

  all_more_used : (n : ℕ) → Form t n → both_used n (pair s b) ≡ true → all_to (t.count + 1) (used_at (put t.pairs (pair_bytes * t.count) (body_of s f b)) n) ≡ true
  all_more_used n fm u =
      let same : (i : ℕ) → i < t.count → used_at t.pairs n i ≡ used_at (put t.pairs (pair_bytes * t.count) (body_of s f b)) n i =
      λ i l. ap (both_used n) (sym (ap₂ pair (old (pair_bytes * i) (omega arith)) (old (pair_bytes * i + 1) (omega arith)))) in
      all_more (used_at (put t.pairs (pair_bytes * t.count) (body_of s f b)) n) t.count
      (sym (all_cong (used_at t.pairs n) (used_at (put t.pairs (pair_bytes * t.count) (body_of s f b)) n) t.count same) ∙ fm.used) (ap (both_used n) new ∙ u)

  -- the table is in form still
  pub form_more : (n : ℕ) → Form t n → both_used n (pair s b) ≡ true → Form (with_pair t s f b) n
  form_more n fm u = record { few = counted; given = up; used = unfold with_pair in (all_more_used n fm u) }
    where
      counted : (with_pair t s f b).count ≤ pairs_max
      counted = unfold with_pair in (omega arith)

      up : (with_pair t s f b).parents ≡ parents_of names_max (listed (with_pair t s f b))
      up = rw listed_more (unfold with_pair in refl)

-- ---- written into a page

module _ (page : List ℕ) (t : ConversionTable) (n : ℕ) (fm : Form t n) (sized : length t.pairs ≡ pair_bytes * pairs_max) (room : size_of t.count ≤ length page)
  where
    k : ℕ
    k = t.count

    bodies : List ℕ
    bodies = take (pair_bytes * t.count) t.pairs

    bodies_length : length bodies ≡ pair_bytes * k
    unfolding bodies k
    bodies_length = simp length-take (omega (arith, sized, fm.few))

    parents_length : length t.parents ≡ names_max
    parents_length = rw fm.given (length_parents names_max (listed t))

    one : List ℕ
    one = put page count_bytes bodies

    one_fits : count_bytes + length bodies ≤ length page
    unfolding k
    one_fits = omega (arith, room, bodies_length)

    one_length : length one ≡ length page
    unfolding one
    one_length = put_length page count_bytes bodies one_fits

    two : List ℕ
    two = put one (parents_at k) t.parents

    two_fits : parents_at k + length t.parents ≤ length one
    unfolding k
    two_fits = omega (arith, room, parents_length, one_length)

    two_length : length two ≡ length page
    unfolding two
    two_length = put_length one (parents_at k) t.parents two_fits ∙ one_length

    after : List ℕ
    after = put two 0 (bytes_of k)

    after_fits : 0 + length (bytes_of k) ≤ length two
    unfolding k
    after_fits = omega (arith, room, two_length)

    after_length : length after ≡ length page
    unfolding after
    after_length = put_length two 0 (bytes_of k) after_fits ∙ two_length

    after_is : with_table page t ≡ after
    unfolding with_table after two one bodies k
    after_is = refl

    after_count : count_of after ≡ k
    unfolding after
    after_count =
        let h : get_or (put two 0 (bytes_of k)) 0 0 ≡ k / 256 = put_in two 0 (bytes_of k) after_fits 0 (omega arith) in
        let l : get_or (put two 0 (bytes_of k)) 1 0 ≡ k % 256 = put_in two 0 (bytes_of k) after_fits 1 (omega arith) in
        omega arith

    -- the bytes of the pairs
    after_body : (i : ℕ) → i < pair_bytes * k → get_or after (count_bytes + i) 0 ≡ get_or t.pairs i 0
    unfolding after two one bodies
    after_body i l =
        put_after two 0 (bytes_of k) after_fits (count_bytes + i) (omega arith)
        ∙ put_before one (parents_at k) t.parents two_fits (count_bytes + i) (omega arith)
        ∙ put_in page count_bytes bodies one_fits i (omega (arith, bodies_length))
        ∙ unfold k in (get_or-take (pair_bytes * t.count) t.pairs i 0 l)

    table_body : (i : ℕ) → i < pair_bytes * k → get_or (table_in after).pairs i 0 ≡ get_or t.pairs i 0
    unfolding table_in k
    table_body i l =
        let c : count_of after ≡ t.count = after_count in
        get_d_pad (pair_bytes * pairs_max) 0 (bodies_in after) i (omega (arith, fm.few))
        ∙ get_or-take (pair_bytes * count_of after) (drop count_bytes after) i 0 (omega (arith, c))
        ∙ get_or-drop count_bytes after i 0
        ∙ after_body i l

    table_count : (table_in after).count ≡ t.count
    unfolding table_in k
    table_count = after_count

    after_listed : listed_in after ≡ listed t
    unfolding k
    after_listed = ap (pairs_in (table_in after).pairs) table_count ∙ same_pairs t.count (table_in after).pairs t.pairs table_body

    after_parents : parents_in after ≡ t.parents
    unfolding after two
    after_parents =
        rw (after_count, put_drop two 0 (bytes_of k) after_fits (parents_at k) (omega arith)) (put_part one (parents_at k) t.parents two_fits names_max parents_length)

    after_used : all_to (count_of after) (used_at (table_in after).pairs n) ≡ true
    unfolding k
    after_used =
        let same : (i : ℕ) → i < t.count → used_at (table_in after).pairs n i ≡ used_at t.pairs n i =
        λ i l. ap (both_used n) (ap₂ pair (table_body (pair_bytes * i) (omega arith)) (table_body (pair_bytes * i + 1) (omega arith))) in
        rw after_count (all_cong (used_at (table_in after).pairs n) (used_at t.pairs n) t.count same ∙ fm.used)

    after_form : Form (table_in after) n
    after_form = record { few = unfold table_in in few; given = rw after_listed (unfold table_in in (after_parents ∙ fm.given)); used = unfold table_in in after_used }
      where
        few : count_of after ≤ pairs_max
        few = rw after_count (unfold k in fm.few)

    written_after : (i : ℕ) → i < pair_bytes * t.count → get_or (bodies_in after) i 0 ≡ get_or t.pairs i 0
    unfolding k
    written_after i l =
        let c : count_of after ≡ t.count = after_count in
        get_or-take (pair_bytes * count_of after) (drop count_bytes after) i 0 (omega (arith, c)) ∙ get_or-drop count_bytes after i 0 ∙ after_body i l

    pub written_length : length (with_table page t) ≡ length page
    written_length = rw after_is after_length

    -- what stands behind the table stays
    pub written_far : (m : ℕ) → size_of t.count ≤ m → drop m (with_table page t) ≡ drop m page
    unfolding k after two one
    written_far m l =
        rw after_is (
        put_drop two 0 (bytes_of k) after_fits m (omega (arith, l))
        ∙ put_drop one (parents_at k) t.parents two_fits m (omega (arith, l, parents_length))
        ∙ put_drop page count_bytes bodies one_fits m (omega (arith, l, bodies_length))
        )

    pub written_count : count_of (with_table page t) ≡ t.count
    unfolding k
    written_count = rw after_is after_count

    -- the bytes of its pairs are the table's
    pub written_bodies : bodies_in (with_table page t) ≡ take (pair_bytes * t.count) t.pairs
    unfolding bodies k
    written_bodies =
        let c : count_of after ≡ t.count = after_count in
        let l : length (bodies_in after) ≡ pair_bytes * t.count = simp (length-take, length-drop) (omega (arith, c, room, after_length)) in
        rw after_is (ext_get_or 0 (bodies_in after) (take (pair_bytes * t.count) t.pairs) (l ∙ sym bodies_length)
        (λ i h. written_after i (omega (arith, l)) ∙ sym (get_or-take (pair_bytes * t.count) t.pairs i 0 (omega (arith, l)))))

    -- the page lists what the table lists
    pub written_listed : listed_in (with_table page t) ≡ listed t
    written_listed = rw after_is after_listed

    -- the page is in form, if zeros follow
    pub written_formed : zeros (drop (size_of t.count) page) ≡ true → pages.formed (with_table page t) n ≡ true
    unfolding pages.formed holds k after two one
    written_formed z =
        let d : drop (size_of k) after ≡ drop (size_of k) page =
        put_drop two 0 (bytes_of k) after_fits (size_of k) (omega arith)
        ∙ put_drop one (parents_at k) t.parents two_fits (size_of k) (omega (arith, parents_length))
        ∙ put_drop page count_bytes bodies one_fits (size_of k) (omega (arith, bodies_length)) in
        let r : size_of k ≤ length after = omega (arith, room, after_length) in
        rw (after_is, after_count, le-leb k pairs_max fm.few, le-leb (size_of k) (length after) r, d, z) (form_formed (table_in after) n after_form)

-- the bytes of a table's pairs, with one more
pub bodies_more : (page : List ℕ) (s f b : ℕ) → Held page → count_of page < pairs_max
    → take (pair_bytes * (with_pair (table_in page) s f b).count) (with_pair (table_in page) s f b).pairs ≡ bodies_in page ++ body_of s f b
unfolding with_pair table_in
bodies_more page s f b h few =
    let big = pair_bytes * pairs_max in
    let k = pair_bytes * count_of page in
    let l : length (bodies_in page) ≡ k = simp (length-take, length-drop) (omega (arith, h.room)) in
    let p : length (pad big 0 (bodies_in page)) ≡ big = length_pad big 0 (bodies_in page) in
    let fits : k + length (body_of s f b) ≤ length (pad big 0 (bodies_in page)) = omega (arith, p, few) in
    let e : pair_bytes * (count_of page + 1) ≡ k + length (body_of s f b) = omega arith in
    let front : take k (pad big 0 (bodies_in page)) ≡ bodies_in page = pad_front big (bodies_in page) k l (omega arith) in
    rw e (put_front (pad big 0 (bodies_in page)) k (body_of s f b) fits ∙ ap (λ (x : List ℕ). x ++ body_of s f b) front)
