-- A store in form with one more entry is in form, and every type that it had reads as before. Assumes nothing.
use mathlib.Core.Path.{◌≡◌, refl, sym, ◌∙◌, ap, ap₂}
use mathlib.Core.Logic.{⊎_elim}
use mathlib.Core.Bool.{Bool, true, false, ◌&&◌, cond}
use mathlib.Core.List.{List, [], ◌∷◌, ◌++◌}
use Prim.Native.Nat.{ℕ, zero, suc, ◌+◌, ◌-◌, ◌*◌, ◌/◌, ◌%◌, ◌<◌, ◌≤◌}
use native.Mathlib.Numerals.{add-one}
use native.Mathlib.Nat.{le_refl, eq-or-lt_of_le, div-add-mod'}
use native.Mathlib.Omega.{arith}
use lib.Dec.{ltb, eqb}
use lib.ListN.{length, get_or, take, drop, length-drop, set, length-set}
use lib.Seq.{get_or-take, get_or-drop, ext_get_or, length-take-le, drop-drop, take-length, take-suc, take-set-le, get_or-set_same, get_or-set_other}
use borrow.Author.Tests.{le-leb, ltb-true, ltb-false}
use Rattle.pages.specs.Quant.{all_to}
use Rattle.pages.specs.Bytes.{eqs, zeros, within, count_bytes, count_of, bytes_of, put}
use Rattle.pages.proofs.Quant.{all_cong, all_more, all_each, first_cong}
use Rattle.pages.proofs.Bytes.{zeros_drop, number_alike}
use Rattle.pages.proofs.Put.{put_length, put_before, put_after, put_in, put_drop}
use Rattle.names.specs.Calls.{is_used}
use Rattle.kinds.specs.Kinds.{fixed_max, is_named, is_stored, fewest, most}
use Rattle.types.specs.Store.{entries_max, depth_max, head_bytes, child_bytes, name_bytes, children_at, kind_at, child_at, name_at, size_at, entry_at, offset, depth_in, larger, deepest, depth_at, depths, is_below, parts_at, is_entry, equal_to, good_at, formed, Formed}
use Rattle.types.specs.Types.{types_in, place_of, kind_of, arity, child_of, name_of, Measured}
use Rattle.types.specs.Making.{Enterable, depth_of, with_entry, Grows}
use Rattle.types.proofs.Placing.{size_named, size_children, size_head, offset_start, offset_le, offset_in}
use Rattle.types.proofs.Form.{parts_children}
use Rattle.types.proofs.Types.{whole, Good, all_good, kind_fixed, kind_entry, arity_fixed, arity_entry, child_above, name_above}

-- ---- an entry that stands at o in q as it stands at u in p

module _ (q p : List ℕ) (o u : ℕ) (same : (i : ℕ) → i < size_at p u → get_or q (o + i) 0 ≡ get_or p (u + i) 0) where
  pub children_alike : children_at q o ≡ children_at p u
  children_alike =
      let e : o + 0 ≡ o = omega arith in
      let f : u + 0 ≡ u = omega arith in
      rw (e, f) at (same 0 (omega (arith, size_head p u)))

  pub kind_alike : kind_at q o ≡ kind_at p u
  kind_alike = same 1 (omega (arith, size_head p u))

  pub size_alike : size_at q o ≡ size_at p u
  unfolding size_at
  size_alike = rw (kind_alike, children_alike) refl

  pub child_alike : (i : ℕ) → head_bytes + child_bytes * i + 2 ≤ size_at p u → child_at q o i ≡ child_at p u i
  child_alike i h =
      let a : o + head_bytes + child_bytes * i ≡ o + (head_bytes + child_bytes * i) = omega arith in
      let b : u + head_bytes + child_bytes * i ≡ u + (head_bytes + child_bytes * i) = omega arith in
      let d : o + (head_bytes + child_bytes * i) + 1 ≡ o + (head_bytes + child_bytes * i + 1) = omega arith in
      let e : u + (head_bytes + child_bytes * i) + 1 ≡ u + (head_bytes + child_bytes * i + 1) = omega arith in
      rw (a, b, d, e) (ap₂ (λ (x y : ℕ). x * 256 + y) (same (head_bytes + child_bytes * i) (omega arith)) (same (head_bytes + child_bytes * i + 1) (omega arith)))

  pub name_alike : is_named (kind_at p u) ≡ true → name_at q o ≡ name_at p u
  name_alike h = number_alike q p (o + head_bytes) (u + head_bytes) name_bytes (λ i l.
      let a : o + head_bytes + i ≡ o + (head_bytes + i) = omega arith in
      let b : u + head_bytes + i ≡ u + (head_bytes + i) = omega arith in
      rw (a, b) (same (head_bytes + i) (omega (arith, size_named p u h))))

  pub entry_alike : o + size_at p u ≤ length q → u + size_at p u ≤ length p → entry_at q o ≡ entry_at p u
  entry_alike lq lp =
      rw size_alike
      (ext_get_or 0 (take (size_at p u) (drop o q)) (take (size_at p u) (drop u p)) (part q o lq ∙ sym (part p u lp))
      (λ i k.
      let m : i < size_at p u = omega (arith, k, part q o lq) in
      get_or-take (size_at p u) (drop o q) i 0 m ∙ get_or-drop o q i 0 ∙ same i m ∙ sym (get_or-take (size_at p u) (drop u p) i 0 m ∙ get_or-drop u p i 0)))
    where
      part : (l : List ℕ) (x : ℕ) → x + size_at p u ≤ length l → length (take (size_at p u) (drop x l)) ≡ size_at p u
      part l x h = length-take-le (size_at p u) (drop x l) (omega (arith, length-drop x l))

  below_alike : (t k : ℕ) → head_bytes + child_bytes * k ≤ size_at p u → all_to k (is_below q o t) ≡ all_to k (is_below p u t)
  below_alike t k h = all_cong (is_below q o t) (is_below p u t) k (λ i l. ap (λ (x : ℕ). ltb x t) (child_alike i (omega arith)))

  pub parts_alike : (n t : ℕ) → parts_at q n t o ≡ parts_at p n t u
  unfolding parts_at
  parts_alike n t = rw (kind_alike, children_alike) (go (is_named (kind_at p u)) refl)
    where
      go : (b : Bool) → is_named (kind_at p u) ≡ b
          → (is_stored (kind_at p u) && cond b (eqb (children_at p u) 0 && is_used n (name_at q o))
          (within (fewest (kind_at p u)) (most (kind_at p u)) (children_at p u) && all_to (children_at p u) (is_below q o t)))
          ≡ (is_stored (kind_at p u) && cond b (eqb (children_at p u) 0 && is_used n (name_at p u))
          (within (fewest (kind_at p u)) (most (kind_at p u)) (children_at p u) && all_to (children_at p u) (is_below p u t)))
      go true e = rw (name_alike e) refl
      go false e = rw (below_alike t (children_at p u) (omega (arith, size_children p u e))) refl

  deepest_alike : (ds : List ℕ) (k : ℕ) → head_bytes + child_bytes * k ≤ size_at p u → deepest q ds o k ≡ deepest p ds u k
  unfolding deepest
  deepest_alike ds zero h = refl
  deepest_alike ds (suc k) h = ap₂ (λ (x y : ℕ). larger x (depth_in ds y)) (deepest_alike ds k (omega arith)) (child_alike k (omega arith))

  pub depth_alike : (ds : List ℕ) → head_bytes + child_bytes * children_at p u ≤ size_at p u → depth_at q ds o ≡ depth_at p ds u
  depth_alike ds h = ap suc (rw children_alike (deepest_alike ds (children_at p u) h))

-- ---- a store that has grown

module _ (p q : List ℕ) (f : Formed p) (g : Grows p q) where
  -- entry j stands where it stood
  module _ (j : ℕ) (h : j < count_of p) where
    entry_there : (i : ℕ) → i < size_at p (offset p j) → get_or q (offset p j + i) 0 ≡ get_or p (offset p j + i) 0
    entry_there i l =
        g.same (offset p j + i) (omega (arith, offset_start p, offset_le p 0 j (omega arith)))
        (omega (arith, offset_in p j (count_of p) (offset p (count_of p)) h (le_refl (offset p (count_of p)))))

  pub offset_grown : (j : ℕ) → j ≤ count_of p → offset q j ≡ offset p j
  unfolding offset
  offset_grown zero h = refl
  offset_grown (suc j) h = rw (offset_grown j (omega arith), size_alike q p (offset p j) (offset p j) (entry_there j h)) refl

  module _ (j : ℕ) (h : j < count_of p) where
    old : Good p f.names j
    old = all_good p f j h

    pub entry_grown : entry_at q (offset q j) ≡ entry_at p (offset p j)
    entry_grown =
        rw (offset_grown j (omega arith))
        (entry_alike q p (offset p j) (offset p j) (entry_there j h) (omega (arith, g.size, old.inside)) old.inside)

    parts_grown : (n t : ℕ) → parts_at q n t (offset q j) ≡ parts_at p n t (offset p j)
    parts_grown n t = rw (offset_grown j (omega arith)) (parts_alike q p (offset p j) (offset p j) (entry_there j h) n t)

    depth_grown : (ds : List ℕ) → depth_at q ds (offset q j) ≡ depth_at p ds (offset p j)
    depth_grown ds =
        rw (offset_grown j (omega arith))
        (depth_alike q p (offset p j) (offset p j) (entry_there j h) ds (parts_children p f.names (fixed_max + j) (offset p j) old.parts).0)

  pub depths_grown : (j : ℕ) → j ≤ count_of p → depths q j ≡ depths p j
  unfolding depths
  depths_grown zero h = refl
  depths_grown (suc j) h = rw (depths_grown j (omega arith), depth_grown j h (depths p j)) refl

  pub equal_grown : (j : ℕ) (entry : List ℕ) → j ≤ count_of p → equal_to q j entry ≡ equal_to p j entry
  equal_grown j entry h =
      first_cong (is_entry q entry) (is_entry p entry) j (λ i l. ap (λ (x : List ℕ). eqs x entry) (entry_grown i (omega arith)))

  good_grown : (n j : ℕ) → j < count_of p → good_at q n j ≡ good_at p n j
  unfolding good_at
  good_grown n j h =
      rw (offset_grown (suc j) h, g.size, parts_grown j h n (fixed_max + j), entry_grown j h, equal_grown j (entry_at p (offset p j)) (omega arith), depths_grown j (omega arith), depth_grown j h (depths p j)) refl

  -- every type reads as before
  module _ (t : ℕ) (u : t < types_in p) where
    place_grown : fixed_max ≤ t → place_of q t ≡ place_of p t
    place_grown l = offset_grown (t - fixed_max) (omega arith)

    there : fixed_max ≤ t → (i : ℕ) → i < size_at p (place_of p t) → get_or q (place_of p t + i) 0 ≡ get_or p (place_of p t + i) 0
    there l = entry_there (t - fixed_max) (omega arith)

    pub kind_grown : kind_of q t ≡ kind_of p t
    kind_grown = go (ltb t fixed_max) refl
      where
        go : (b : Bool) → ltb t fixed_max ≡ b → kind_of q t ≡ kind_of p t
        go true e = let l = ltb-true t fixed_max e in sym (kind_fixed q t l) ∙ kind_fixed p t l
        go false e =
            let l = ltb-false t fixed_max e in
            sym (kind_entry q t l) ∙ rw (place_grown l) (kind_alike q p (place_of p t) (place_of p t) (there l)) ∙ kind_entry p t l

    pub arity_grown : arity q t ≡ arity p t
    arity_grown = go (ltb t fixed_max) refl
      where
        go : (b : Bool) → ltb t fixed_max ≡ b → arity q t ≡ arity p t
        go true e = let l = ltb-true t fixed_max e in sym (arity_fixed q t l) ∙ arity_fixed p t l
        go false e =
            let l = ltb-false t fixed_max e in
            sym (arity_entry q t l) ∙ rw (place_grown l) (children_alike q p (place_of p t) (place_of p t) (there l)) ∙ arity_entry p t l

    pub child_grown : (i : ℕ) → i < arity p t → child_of q t i ≡ child_of p t i
    unfolding child_of
    child_grown i h =
        let l = child_above p f t u i h in
        let k = (parts_children p f.names (fixed_max + (t - fixed_max)) (place_of p t) (all_good p f (t - fixed_max) (omega arith)).parts).0 in
        rw (place_grown l) (child_alike q p (place_of p t) (place_of p t) (there l) i (omega (arith, k, arity_entry p t l)))

    pub name_grown : is_named (kind_of p t) ≡ true → name_of q t ≡ name_of p t
    unfolding name_of
    name_grown h =
        let l = name_above p f t u h in
        rw (place_grown l) (name_alike q p (place_of p t) (place_of p t) (there l) (rw (kind_entry p t l) h))

pub grows_refl : (p : List ℕ) → Grows p p
grows_refl p = record { size = refl; more = le_refl (count_of p); same = λ i h k. refl }

pub grows_trans : (p q r : List ℕ) → Formed p → Grows p q → Grows q r → Grows p r
grows_trans p q r f g h = record {
  size = h.size ∙ g.size;
  more = omega (arith, g.more, h.more);
  same = λ i a b.
      h.same i a (omega (arith, b, offset_grown p q f g (count_of p) (le_refl (count_of p)), offset_le q (count_of p) (count_of q) g.more)) ∙ g.same i a b;
}

-- ---- one more entry

module _ (page entry : List ℕ) (f : Formed page) (e : Enterable page entry f) (new : count_of page ≤ equal_to page (count_of page) entry)
    (flat : depth_of page entry ≤ depth_max) (few : count_of page < entries_max) (room : offset page (count_of page) + length entry ≤ length page) where
  inner : List ℕ
  inner = put page (offset page (count_of page)) entry

  full : List ℕ
  full = put (put page (offset page (count_of page)) entry) 0 (bytes_of (count_of page + 1))

  two : count_bytes ≤ offset page (count_of page)
  two = omega (arith, offset_start page, offset_le page 0 (count_of page) (omega arith))

  inner_length : length inner ≡ length page
  unfolding inner
  inner_length = put_length page (offset page (count_of page)) entry room

  count_room : 0 + length (bytes_of (count_of page + 1)) ≤ length inner
  count_room = omega (arith, inner_length, two, room)

  full_length : length full ≡ length page
  unfolding full inner
  full_length = put_length inner 0 (bytes_of (count_of page + 1)) count_room ∙ inner_length

  full_count : count_of full ≡ count_of page + 1
  unfolding full inner
  full_count =
      let a : get_or full 0 0 ≡ (count_of page + 1) / 256 = put_in inner 0 (bytes_of (count_of page + 1)) count_room 0 (omega arith) in
      let b : get_or full 1 0 ≡ (count_of page + 1) % 256 = put_in inner 0 (bytes_of (count_of page + 1)) count_room 1 (omega arith) in
      rw (a, b) (div-add-mod' (count_of page + 1) 256)

  full_grows : Grows page full
  unfolding full inner
  full_grows = record {
    size = full_length;
    more = omega (arith, full_count);
    same = λ i h k.
        put_after inner 0 (bytes_of (count_of page + 1)) count_room i h ∙ put_before page (offset page (count_of page)) entry room i k;
  }

  last : offset full (count_of page) ≡ offset page (count_of page)
  last = offset_grown page full f full_grows (count_of page) (le_refl (count_of page))

  new_there : (i : ℕ) → i < size_at entry 0 → get_or full (offset page (count_of page) + i) 0 ≡ get_or entry (0 + i) 0
  unfolding full inner
  new_there i h =
      let z : 0 + i ≡ i = omega arith in
      rw z
      (put_after inner 0 (bytes_of (count_of page + 1)) count_room (offset page (count_of page) + i) (omega (arith, two))
      ∙ put_in page (offset page (count_of page)) entry room i (omega (arith, e.whole)))

  new_size : size_at full (offset page (count_of page)) ≡ length entry
  new_size = size_alike full entry (offset page (count_of page)) 0 new_there ∙ e.whole

  new_entry : entry_at full (offset page (count_of page)) ≡ entry
  new_entry =
      entry_alike full entry (offset page (count_of page)) 0 new_there (omega (arith, full_length, room, e.whole)) (omega (arith, e.whole))
      ∙ rw e.whole (take-length entry)

  next : offset full (suc (count_of page)) ≡ offset page (count_of page) + length entry
  unfolding offset
  next = rw (last, new_size) refl

  new_depth : depth_at full (depths page (count_of page)) (offset page (count_of page)) ≡ depth_of page entry
  unfolding depth_of
  new_depth =
      depth_alike full entry (offset page (count_of page)) 0 new_there (depths page (count_of page))
      (parts_children entry f.names (types_in page) 0 e.parts).0

  good_new : good_at full f.names (count_of page) ≡ true
  unfolding good_at
  good_new =
      rw (
        next,
        last,
        full_length,
        le-leb (offset page (count_of page) + length entry) (length page) room,
        parts_alike full entry (offset page (count_of page)) 0 new_there f.names (types_in page),
        e.parts,
        new_entry,
        equal_grown page full f full_grows (count_of page) entry (le_refl (count_of page)),
        le-leb (count_of page) (equal_to page (count_of page) entry) new,
        depths_grown page full f full_grows (count_of page) (le_refl (count_of page)),
        new_depth,
        le-leb (depth_of page entry) depth_max flat,
      )
      refl

  after : drop (offset page (count_of page) + length entry) full ≡ drop (offset page (count_of page) + length entry) page
  unfolding full inner
  after =
      put_drop inner 0 (bytes_of (count_of page + 1)) count_room (offset page (count_of page) + length entry) (omega (arith, two))
      ∙ put_drop page (offset page (count_of page)) entry room (offset page (count_of page) + length entry) (le_refl (offset page (count_of page) + length entry))

  rest : zeros (drop (offset page (count_of page) + length entry) full) ≡ true
  rest =
      ap zeros after ∙ ap zeros (sym (drop-drop (length entry) (offset page (count_of page)) page))
      ∙ zeros_drop (drop (offset page (count_of page)) page) (length entry) (whole page f.names f.form).clear

  full_formed : formed full f.names ≡ true
  unfolding formed
  full_formed =
      let w = whole page f.names f.form in
      let a : all_to (count_of page) (good_at full f.names) ≡ true =
      all_each (count_of page) (good_at full f.names) (λ j l. good_grown page full f full_grows f.names j l ∙ w.good j l) in
      let b : all_to (count_of page + 1) (good_at full f.names) ≡ true = all_more (good_at full f.names) (count_of page) a good_new in
      let o : offset full (count_of page + 1) ≡ offset page (count_of page) + length entry = rw (add-one (count_of page)) next in
      rw (full_count, o, full_length, le-leb count_bytes (length page) w.two, le-leb (count_of page + 1) entries_max (omega arith), b) rest

  full_sound : Formed full
  full_sound = record { names = f.names; form = full_formed }

  -- the tables with one more place filled
  full_measured : (os ds : List ℕ) → Measured page os ds
      → Measured full (set os (count_of page + 1) (offset page (count_of page) + length entry)) (set ds (count_of page) (depth_of page entry))
  unfolding depths
  full_measured os ds m = record {
    held = record {
      sound = full_sound;
      size = length-set os (count_of page + 1) (offset page (count_of page) + length entry) ∙ m.held.size;
      places = λ k l. ⊎_elim
          (λ (x : k ≡ count_of page + 1). rw (x, add-one (count_of page)) (get_or-set_same os (suc (count_of page)) (offset page (count_of page) + length entry) 0 (omega (arith, m.held.size)) ∙ sym next))
          (λ (x : k < count_of page + 1).
          get_or-set_other os (count_of page + 1) k (offset page (count_of page) + length entry) 0 (omega arith)
          ∙ m.held.places k (omega arith) ∙ sym (offset_grown page full f full_grows k (omega arith)))
          (eq-or-lt_of_le {n = k} {m = count_of page + 1} (omega (arith, full_count)));
    };
    size = length-set ds (count_of page) (depth_of page entry) ∙ m.size;
    known =
        rw (full_count, add-one (count_of page))
        (take-suc (set ds (count_of page) (depth_of page entry)) (count_of page) 0 (omega (arith, length-set ds (count_of page) (depth_of page entry), m.size))
        ∙ ap₂ (λ (x : List ℕ) (y : ℕ). x ++ (y ∷ []))
        (take-set-le (count_of page) ds (count_of page) (depth_of page entry) (le_refl (count_of page)) ∙ m.known ∙ sym (depths_grown page full f full_grows (count_of page) (le_refl (count_of page))))
        (get_or-set_same ds (count_of page) (depth_of page entry) 0 (omega (arith, m.size)) ∙ sym new_depth ∙ rw (last, depths_grown page full f full_grows (count_of page) (le_refl (count_of page))) refl));
  }

  -- all this of the page that a new type leaves
  pub with_grows : Grows page (with_entry page entry)
  unfolding with_entry full
  with_grows = full_grows

  pub with_count : count_of (with_entry page entry) ≡ count_of page + 1
  unfolding with_entry full
  with_count = full_count

  pub with_sound : Formed (with_entry page entry)
  unfolding with_entry full
  with_sound = full_sound

  pub with_measured : (os ds : List ℕ) → Measured page os ds
      → Measured (with_entry page entry) (set os (count_of page + 1) (offset page (count_of page) + length entry)) (set ds (count_of page) (depth_of page entry))
  unfolding with_entry full
  with_measured = full_measured

  pub with_entry_lem : entry_at (with_entry page entry) (offset (with_entry page entry) (count_of page)) ≡ entry
  unfolding with_entry full
  with_entry_lem = ap (entry_at full) last ∙ new_entry
