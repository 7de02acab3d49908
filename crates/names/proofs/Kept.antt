-- A table in form stays in form: `empty_formed` of a fresh one, `added_formed` of whatever is added, refused names among them;
-- and a name that was added is read under its number (`with_name_lem`). Assumes nothing.
use Rattle.std.proofs.Common.{Ok, Err}
use mathlib.Core.Path.{◌≡◌, refl, sym, ◌∙◌, ap}
use mathlib.Core.Bool.{Bool, true, false, ◌&&◌, not, cond}
use mathlib.Core.List.{List, [], ◌∷◌, ◌++◌}
use Prim.Native.Nat.{ℕ, zero, suc, ◌+◌, ◌/◌, ◌%◌, ◌<◌, ◌≤◌}
use native.Mathlib.Omega.{arith}
use native.Mathlib.Numerals.{add-one}
use native.Mathlib.Nat.{le_refl, div-add-mod'}
use lib.ListN.{length, get_or, take, drop, replicate, length-take, length-drop, length-replicate}
use lib.Seq.{take_at, drop-drop, get_or-take, get_or-drop, ext_get_or}
use lib.Dec.{leb, ltb}
use borrow.Author.Tests.{le-leb, ltb-false, ltb-true, leb-true, not-false}
use Rattle.refusals.specs.Lowest.{◌when◌, unless_refused}
use Rattle.refusals.specs.declared.Refusal.TheVariants.{Broken, Malformed, Full}
use Rattle.refusals.specs.Numbers.{Verdict}
use Rattle.refusals.proofs.Lowest.{passed_parts}
use Rattle.pages.specs.Quant.{all_to}
use Rattle.pages.specs.Bytes.{eqs, zeros, count_bytes, count_of, bytes_of, put}
use Rattle.pages.proofs.Quant.{all_cong, first_cong, all_more, and_true}
use Rattle.pages.proofs.Bytes.{zeros_made, zeros_drop}
use Rattle.pages.proofs.Put.{put_length, put_before, put_after, put_in, put_drop, put_at}
use Rattle.names.specs.Table.{names_max, well_named, offset, name_at, named, number_of, good_at, formed}
use Rattle.names.specs.Calls.{empty_page, is_known, roomy, with_name, add_verdict, page_after}
use Rattle.names.proofs.Table.{offset_ge, offset_lt}
use Rattle.names.proofs.Calls.{Form, form, empty_made}

-- ---- one more name

module _ (page name : List ℕ) (f : Form page) (w : well_named name ≡ true) (new : count_of page ≤ number_of page (count_of page) name) (few : count_of page < names_max)
    (room : offset page (count_of page) + 1 + length name ≤ length page) where
  inner : List ℕ
  inner = put page (offset page (count_of page)) (length name ∷ name)

  full : List ℕ
  full = put (put page (offset page (count_of page)) (length name ∷ name)) 0 (bytes_of (count_of page + 1))

  two : count_bytes ≤ offset page (count_of page)
  two = offset_ge page (count_of page)

  li : length inner ≡ length page
  unfolding inner
  li = put_length page (offset page (count_of page)) (length name ∷ name) (omega arith)

  ro : 0 + length (bytes_of (count_of page + 1)) ≤ length inner
  ro = let t = f.two in omega (arith, li, t)

  full_length : length full ≡ length page
  unfolding full inner
  full_length = put_length inner 0 (bytes_of (count_of page + 1)) ro ∙ li

  low : (i : ℕ) → count_bytes ≤ i → i < offset page (count_of page) → get_or full i 0 ≡ get_or page i 0
  unfolding full inner
  low i h k = put_after inner 0 (bytes_of (count_of page + 1)) ro i h ∙ put_before page (offset page (count_of page)) (length name ∷ name) (omega arith) i k

  size_there : get_or full (offset page (count_of page)) 0 ≡ length name
  unfolding full inner
  size_there =
      let z : offset page (count_of page) + 0 ≡ offset page (count_of page) = omega arith in
      put_after inner 0 (bytes_of (count_of page + 1)) ro (offset page (count_of page)) two ∙ rw z at (put_in page (offset page (count_of page)) (length name ∷ name) (omega arith) 0 (omega arith))

  name_there : take (length name) (drop (offset page (count_of page) + 1) full) ≡ name
  unfolding full inner
  name_there =
      let d : drop (offset page (count_of page) + 1) inner ≡ name ++ drop (offset page (count_of page) + length (length name ∷ name)) page =
      sym (drop-drop 1 (offset page (count_of page)) inner) ∙ ap (drop 1) (put_at page (offset page (count_of page)) (length name ∷ name) (omega arith)) in
      ap (take (length name)) (put_drop inner 0 (bytes_of (count_of page + 1)) ro (offset page (count_of page) + 1) (omega (arith, two)) ∙ d) ∙ take_at name (drop (offset page (count_of page) + length (length name ∷ name)) page) (length name) refl

  rest : drop (offset page (count_of page) + 1 + length name) full ≡ drop (offset page (count_of page) + 1 + length name) page
  unfolding full inner
  rest =
      put_drop inner 0 (bytes_of (count_of page + 1)) ro (offset page (count_of page) + 1 + length name) (omega (arith, two))
      ∙ put_drop page (offset page (count_of page)) (length name ∷ name) (omega arith) (offset page (count_of page) + 1 + length name) (omega arith)

  full_count : count_of full ≡ count_of page + 1
  unfolding full inner
  full_count =
      let a : get_or full 0 0 ≡ (count_of page + 1) / 256 = put_in inner 0 (bytes_of (count_of page + 1)) ro 0 (omega arith) in
      let b : get_or full 1 0 ≡ (count_of page + 1) % 256 = put_in inner 0 (bytes_of (count_of page + 1)) ro 1 (omega arith) in
      rw (a, b) (div-add-mod' (count_of page + 1) 256)

  offset_same : (i : ℕ) → i ≤ count_of page → offset full i ≡ offset page i
  unfolding offset
  offset_same zero h = refl
  offset_same (suc i) h =
      let e = offset_same i (omega arith) in
      let l = offset_lt page i (count_of page) h in
      rw (e, low (offset page i) (offset_ge page i) (omega (arith, l)))

  name_same : (i : ℕ) → i < count_of page → name_at full i ≡ name_at page i
  unfolding name_at
  name_same i h =
      let l = offset_lt page i (count_of page) h in
      let g = low (offset page i) (offset_ge page i) (omega (arith, l)) in
      rw (offset_same i (omega arith), g)
      (ext_get_or 0 (take (get_or page (offset page i) 0) (drop (offset page i + 1) full)) (take (get_or page (offset page i) 0) (drop (offset page i + 1) page)) (simp (length-take, length-drop, full_length))
      (λ j k.
      let m : j < get_or page (offset page i) 0 = omega (arith, simp length-take at k) in
      get_or-take (get_or page (offset page i) 0) (drop (offset page i + 1) full) j 0 m ∙ get_or-drop (offset page i + 1) full j 0
      ∙ low (offset page i + 1 + j) (omega (arith, offset_ge page i)) (omega (arith, l, m))
      ∙ sym (get_or-take (get_or page (offset page i) 0) (drop (offset page i + 1) page) j 0 m ∙ get_or-drop (offset page i + 1) page j 0)))

  number_same : (i : ℕ) (x : List ℕ) → i ≤ count_of page → number_of full i x ≡ number_of page i x
  unfolding named
  number_same i x h = first_cong (named full x) (named page x) i (λ j l. ap (λ (y : List ℕ). eqs y x) (name_same j (omega arith)))

  good_same : (i : ℕ) → i < count_of page → good_at full i ≡ good_at page i
  unfolding good_at
  good_same i h = rw (offset_same (suc i) h, full_length, name_same i h, number_same i (name_at page i) (omega arith))

  new_name : name_at full (count_of page) ≡ name
  unfolding name_at
  new_name = rw (offset_same (count_of page) (le_refl (count_of page)), size_there) name_there

  next_offset : offset full (suc (count_of page)) ≡ offset page (count_of page) + 1 + length name
  unfolding offset
  next_offset = rw (offset_same (count_of page) (le_refl (count_of page)), size_there)

  good_new : good_at full (count_of page) ≡ true
  unfolding good_at
  good_new =
      rw (next_offset, full_length, new_name, number_same (count_of page) name (le_refl (count_of page)), le-leb (offset page (count_of page) + 1 + length name) (length page) room, w, le-leb (count_of page) (number_of page (count_of page) name) new)

  full_formed : formed full ≡ true
  unfolding formed
  full_formed =
      let a : all_to (count_of page + 1) (good_at full) ≡ true = all_more (good_at full) (count_of page) (all_cong (good_at full) (good_at page) (count_of page) good_same ∙ f.each) good_new in
      let o : offset full (count_of page + 1) ≡ offset page (count_of page) + 1 + length name = rw (add-one (count_of page)) next_offset in
      let c : offset page (count_of page) + (1 + length name) ≡ offset page (count_of page) + 1 + length name = omega arith in
      let z : zeros (drop (offset page (count_of page) + 1 + length name) page) ≡ true =
      rw (← c) (ap zeros (sym (drop-drop (1 + length name) (offset page (count_of page)) page)) ∙ zeros_drop (drop (offset page (count_of page)) page) (1 + length name) f.clear) in
      rw (full_count, o, rest, full_length, le-leb count_bytes (length page) f.two, le-leb (count_of page + 1) names_max (omega arith), a, z)

  pub with_formed : formed (with_name page name) ≡ true
  unfolding with_name full
  with_formed = full_formed

  -- the new name is read under its number
  pub with_name_lem : name_at (with_name page name) (count_of page) ≡ name
  unfolding with_name full
  with_name_lem = new_name

-- ---- whatever is added

room_parts : (limit : ℕ) (page name : List ℕ) → roomy limit page name ≡ true → (count_of page < limit) × (offset page (count_of page) + 1 + length name ≤ length page)
unfolding roomy
room_parts limit page name r =
    let z = and_true (ltb (count_of page) limit) (leb (offset page (count_of page) + 1 + length name) (length page)) r in
    (ltb-true (count_of page) limit z.0, leb-true (offset page (count_of page) + 1 + length name) (length page) z.1)

pub added_formed : (limit : ℕ) (page name : List ℕ) → limit ≤ names_max → formed page ≡ true → formed (page_after limit page name) ≡ true
unfolding page_after add_verdict
added_formed limit page name few f = by (add_verdict limit page name) refl (is_known page name) refl
  where
    roomed : roomy limit page name ≡ true → well_named name ≡ true → count_of page ≤ number_of page (count_of page) name → formed (with_name page name) ≡ true
    roomed r w n = let z = room_parts limit page name r in with_formed page name (form page f) w n (omega (arith, z.0, few)) z.1

    by : (v : Verdict) → add_verdict limit page name ≡ v → (k : Bool) → is_known page name ≡ k → formed (unless_refused v (cond k page (with_name page name)) page) ≡ true
    by (Err r) e k o = f
    by (Ok _) e true o = f
    by (Ok _) e false o =
        let a = passed_parts Broken (not (formed page)) ((Malformed when not (well_named name)) ∷ (Full when (not (is_known page name) && not (roomy limit page name))) ∷ []) e in
        let b = passed_parts Malformed (not (well_named name)) ((Full when (not (is_known page name) && not (roomy limit page name))) ∷ []) a.1 in
        let d = passed_parts Full (not (is_known page name) && not (roomy limit page name)) [] b.1 in
        let r : roomy limit page name ≡ true = not-false (roomy limit page name) (rw o at d.0) in
        let w : well_named name ≡ true = not-false (well_named name) b.0 in
        roomed r w (ltb-false (number_of page (count_of page) name) (count_of page) o)

-- ---- a fresh table

fresh : (n : ℕ) → count_bytes ≤ n → formed (replicate n 0) ≡ true
unfolding formed all_to offset
fresh zero h = absurd (omega arith)
fresh (suc zero) h = absurd (omega arith)
fresh (suc (suc n)) h = rw (length-replicate {A = ℕ} (suc (suc n)) 0, le-leb count_bytes (suc (suc n)) h) (zeros_made n)

pub empty_formed : (page : List ℕ) → count_bytes ≤ length page → formed (empty_page page) ≡ true
empty_formed page h = rw (← (empty_made page h).1) (fresh (length page) h)
