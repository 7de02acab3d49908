-- A type's const form: its entry, and one law for each return. Assumes nothing.
use Rattle.std.proofs.Common.{Ok, Err}
use mathlib.Core.Path.{◌≡◌, refl, sym, ◌∙◌, ap, ap₂}
use mathlib.Core.Bool.{Bool, true, false, ◌&&◌, not, cond}
use mathlib.Core.List.{List, [], ◌∷◌}
use Prim.Native.Nat.{ℕ, zero, suc, ◌+◌, ◌-◌, ◌*◌, ◌<◌, ◌≤◌}
use native.Mathlib.Nat.{not-suc-le-zero, le_of_suc-le-suc}
use native.Mathlib.Omega.{arith}
use lib.Dec.{ltb, eqb}
use lib.ListN.{length, get_or, take, drop, set, length-set, length-drop}
use lib.Seq.{get_or-take, get_or-drop, get_or-set_same, get_or-set_other, length-take-le}
use borrow.Author.Tests.{lt-ltb, le-ltb, ltb-false}
use Rattle.refusals.specs.Lowest.{◌when◌, lowest, answer_of}
use Rattle.refusals.specs.declared.Refusal.{Refusal}
use Rattle.refusals.specs.declared.Refusal.TheVariants.{Depth, Full}
use Rattle.pages.specs.Quant.{all_to}
use Rattle.pages.specs.Bytes.{within, count_of}
use Rattle.pages.specs.Pad.{pad, padded}
use Rattle.pages.specs.declared.Padded.{Padded}
use Rattle.pages.proofs.Quant.{and_true, all_each}
use Rattle.pages.proofs.Bytes.{number_alike}
use Rattle.names.specs.Calls.{is_used}
use Rattle.kinds.specs.Kinds.{fixed_max, is_named, is_stored, fewest, most, const_variant}
use Rattle.kinds.proofs.Const.{Keeps, variant_keeps}
use Rattle.types.specs.Store.{depth_max, head_bytes, child_bytes, name_bytes, children_at, kind_at, child_at, name_at, size_at, entry_at, depth_in, larger, deepest, depth_at, depths, is_below, children_below, parts_at, equal_to, Formed}
use Rattle.types.specs.Types.{types_in, place_of, kind_of, Measured}
use Rattle.types.specs.Making.{entry_max, Enterable, Ready, is_made, depth_of, roomy, enter_verdict, enter_answer, enter_page}
use Rattle.types.specs.Calls.{const_entry, const_answer, const_page}
use Rattle.types.proofs.Placing.{size_head, size_named, size_children, child_below, entry_part}
use Rattle.types.proofs.Width.{name_width}
use Rattle.types.proofs.Form.{parts_children}
use Rattle.types.proofs.Types.{all_good, kind_entry, arity_entry, few_children, entry_inside}
use Rattle.types.proofs.Depth.{entry_flat}
use Rattle.types.proofs.Grown.{kind_alike, size_alike, parts_alike, depth_alike}

-- ---- an entry under another kind that is alike

module _ (e : List ℕ) (two : head_bytes ≤ length e) (g : Keeps (kind_at e 0)) where
  turned : List ℕ
  turned = set e 1 (const_variant (kind_at e 0))

  kind_turned : kind_at turned 0 ≡ const_variant (kind_at e 0)
  unfolding turned
  kind_turned = get_or-set_same e 1 (const_variant (kind_at e 0)) 0 (omega (arith, two))

  same : (i : ℕ) → (i ≡ 1 → ⊥) → get_or turned i 0 ≡ get_or e i 0
  unfolding turned
  same i h = get_or-set_other e 1 i (const_variant (kind_at e 0)) 0 h

  size_turned : size_at turned 0 ≡ size_at e 0
  unfolding size_at
  size_turned = rw (kind_turned, g.named, same 0 (omega arith)) refl

  child_turned : (i : ℕ) → child_at turned 0 i ≡ child_at e 0 i
  child_turned i =
      ap₂ (λ (x y : ℕ). x * 256 + y) (same (0 + head_bytes + child_bytes * i) (omega arith)) (same (0 + head_bytes + child_bytes * i + 1) (omega arith))

  deepest_turned : (ds : List ℕ) (k : ℕ) → deepest turned ds 0 k ≡ deepest e ds 0 k
  unfolding deepest
  deepest_turned ds zero = refl
  deepest_turned ds (suc k) = ap₂ (λ (x y : ℕ). larger x (depth_in ds y)) (deepest_turned ds k) (child_turned k)

  depth_turned : (ds : List ℕ) → depth_at turned ds 0 ≡ depth_at e ds 0
  depth_turned ds = ap suc (rw (same 0 (omega arith)) (deepest_turned ds (children_at e 0)))

  name_turned : name_at turned 0 ≡ name_at e 0
  name_turned = number_alike turned e (0 + head_bytes) (0 + head_bytes) name_bytes (λ i l. same (0 + head_bytes + i) (omega arith))

  parts_turned : (n t u : ℕ) → t ≤ u → parts_at e n t 0 ≡ true → parts_at turned n u 0 ≡ true
  unfolding parts_at
  parts_turned n t u h p =
      rw (kind_turned, g.stored, g.named, g.few, g.many, same 0 (omega arith), name_turned)
      (go (is_named (kind_at e 0)) (and_true (is_stored (kind_at e 0)) _ p).1)
    where
      lower : (i : ℕ) → child_at e 0 i < t → child_at e 0 i < u
      lower i k = omega arith

      go : (b : Bool) → cond b (eqb (children_at e 0) 0 && is_used n (name_at e 0))
          (within (fewest (kind_at e 0)) (most (kind_at e 0)) (children_at e 0) && children_below e 0 t) ≡ true
          → cond b (eqb (children_at e 0) 0 && is_used n (name_at e 0))
          (within (fewest (kind_at e 0)) (most (kind_at e 0)) (children_at e 0) && all_to (children_at e 0) (is_below turned 0 u)) ≡ true
      go true q = q
      go false q =
          let w = and_true (within (fewest (kind_at e 0)) (most (kind_at e 0)) (children_at e 0)) _ q in
          rw w.0
          (all_each (children_at e 0) (is_below turned 0 u)
          (λ i l. rw (child_turned i) (lt-ltb (child_at e 0 i) u (lower i (child_below e 0 t i w.1 l)))))

-- ---- the const entry of a type that is not fixed

-- a place set among those that a list fills
set_pad : (n : ℕ) (xs : List ℕ) (k v : ℕ) → k < length xs → length xs ≤ n → set (pad n 0 xs) k v ≡ pad n 0 (set xs k v)
unfolding pad
set_pad n [] k v h l = absurd (not-suc-le-zero h)
set_pad zero (x ∷ xs) k v h l = absurd (not-suc-le-zero l)
set_pad (suc n) (x ∷ xs) zero v h l = refl
set_pad (suc n) (x ∷ xs) (suc k) v h l = ap (λ (r : List ℕ). x ∷ r) (set_pad n xs k v (le_of_suc-le-suc h) (le_of_suc-le-suc l))

module _ (page : List ℕ) (f : Formed page) (t : ℕ) (l : fixed_max ≤ t) (u : t < types_in page) where
  e : List ℕ
  e = entry_at page (place_of page t)

  e_length : length e ≡ size_at page (place_of page t)
  unfolding e
  e_length = length-take-le (size_at page (place_of page t)) (drop (place_of page t) page) (omega (arith, length-drop (place_of page t) page, entry_inside page f t u l))

  e_there : (i : ℕ) → i < size_at page (place_of page t) → get_or e (0 + i) 0 ≡ get_or page (place_of page t + i) 0
  unfolding e
  e_there i h =
      let z : 0 + i ≡ i = omega arith in
      rw z (get_or-take (size_at page (place_of page t)) (drop (place_of page t) page) i 0 h ∙ get_or-drop (place_of page t) page i 0)

  e_kind : kind_at e 0 ≡ kind_of page t
  e_kind = kind_alike e page 0 (place_of page t) e_there ∙ kind_entry page t l

  e_parts : parts_at e f.names (fixed_max + (t - fixed_max)) 0 ≡ true
  e_parts = parts_alike e page 0 (place_of page t) e_there f.names (fixed_max + (t - fixed_max)) ∙ (all_good page f (t - fixed_max) (omega arith)).parts

  e_keeps : Keeps (kind_at e 0)
  unfolding parts_at
  e_keeps = variant_keeps (kind_at e 0) (and_true (is_stored (kind_at e 0)) _ e_parts).0

  e_two : head_bytes ≤ length e
  e_two = omega (arith, e_length, size_head page (place_of page t))

  turned_is : turned e e_two e_keeps ≡ const_entry page t
  unfolding turned const_entry e
  turned_is = rw e_kind refl

  pub const_length : length (const_entry page t) ≡ size_at page (place_of page t)
  unfolding const_entry e
  const_length = length-set e 1 (const_variant (kind_of page t)) ∙ e_length

  pub const_small : size_at page (place_of page t) ≤ entry_max
  const_small = go (is_named (kind_at page (place_of page t))) refl
    where
      go : (b : Bool) → is_named (kind_at page (place_of page t)) ≡ b → size_at page (place_of page t) ≤ entry_max
      go true h = omega (arith, size_named page (place_of page t) h, name_width)
      go false h = omega (arith, size_children page (place_of page t) h, arity_entry page t l, few_children page f t u)

  -- the part of the page that it is copied from
  module _ (at size : ℕ) (p : at ≡ place_of page t) (s : size ≡ size_at page at) where
    pub const_part : take (at + size - at) (drop at page) ≡ entry_at page (place_of page t)
    const_part = entry_part page at (at + size) (omega (arith, s)) ∙ ap (entry_at page) p

    pub const_size : size ≡ size_at page (place_of page t)
    const_size = s ∙ ap (size_at page) p

    pub const_fits : length (take (at + size - at) (drop at page)) ≤ entry_max
    unfolding e
    const_fits = omega (arith, ap length const_part, e_length, const_small)

  -- it can be entered
  const_enterable : Enterable page (const_entry page t) f
  const_enterable = record {
    whole = rw (← turned_is) (size_turned e e_two e_keeps ∙ size_alike e page 0 (place_of page t) e_there ∙ sym const_length ∙ ap length (sym turned_is));
    parts = rw (← turned_is) (parts_turned e e_two e_keeps f.names (fixed_max + (t - fixed_max)) (types_in page) (omega arith) e_parts);
  }

  -- it is as deep as the type, and so not too deep
  const_flat : depth_of page (const_entry page t) ≤ depth_max
  unfolding depth_of
  const_flat =
      let ds = depths page (count_of page) in
      let p = (parts_children page f.names (fixed_max + (t - fixed_max)) (place_of page t) (all_good page f (t - fixed_max) (omega arith)).parts).0 in
      let d : depth_at (const_entry page t) ds 0 ≡ depth_at page ds (place_of page t) =
      rw (← turned_is) (depth_turned e e_two e_keeps ds ∙ depth_alike e page 0 (place_of page t) e_there ds p) in
      rw d (entry_flat page f (t - fixed_max) (omega arith))

  -- so only a number or a place can be missing (10)
  pub const_full : (r : Refusal) → enter_answer page (const_entry page t) ≡ Err r → r ≡ Full
  unfolding enter_answer enter_verdict
  const_full r h =
      go (not (is_made page (const_entry page t))) (not (roomy page (const_entry page t)))
      (rw (le-ltb depth_max (depth_of page (const_entry page t)) const_flat) at h)
    where
      go : (a b : Bool) → answer_of (lowest ((Depth when (a && false)) ∷ (Full when (a && b)) ∷ [])) (fixed_max + equal_to page (count_of page) (const_entry page t)) ≡ Err r → r ≡ Full
      go true true h = cc
      go true false h = let z : ◌≡◌ {A = ℕ} 0 1 = cc in absurd (omega arith)
      go false b h = let z : ◌≡◌ {A = ℕ} 0 1 = cc in absurd (omega arith)

  -- and is written like this
  pub const_made : (v : ℕ) → v ≡ const_variant (kind_at page (place_of page t))
      → ◌≡◌ {A = Padded entry_max} (record { size = length (entry_at page (place_of page t)); bytes = set (pad entry_max 0 (entry_at page (place_of page t))) 1 v })
      (padded entry_max (const_entry page t))
  unfolding const_entry e
  const_made v h =
      let k : v ≡ const_variant (kind_of page t) = h ∙ ap const_variant (kind_entry page t l) in
      let s : length e ≤ entry_max = omega (arith, e_length, const_small) in
      λ i. record {
        size = sym (length-set e 1 (const_variant (kind_of page t))) i;
        bytes = (ap (set (pad entry_max 0 e) 1) k ∙ set_pad entry_max e 1 (const_variant (kind_of page t)) (omega (arith, e_two)) s) i;
      }

-- ---- the call

module _ (page os ds : List ℕ) (m : Measured page os ds) (t : ℕ) where
  pub const_fixed : t < fixed_max → (r : ℕ) → r ≡ const_variant t
      → (Ok r ≡ const_answer page t) × (page ≡ const_page page t) × (Measured page os ds)
  unfolding const_answer const_page
  const_fixed h r e = (rw (lt-ltb t fixed_max h, e) refl, rw (lt-ltb t fixed_max h) refl, m)

  pub const_ready : fixed_max ≤ t → t < types_in page → Ready page os ds (const_entry page t)
  const_ready l u = record { measured = m; enterable = const_enterable page m.held.sound t l u }

  -- 7 is never its refusal
  pub const_refused : t < types_in page → (r : Refusal) → const_answer page t ≡ Err r → r ≡ Full
  unfolding const_answer
  const_refused u r h = go (ltb t fixed_max) refl
    where
      go : (b : Bool) → ltb t fixed_max ≡ b → r ≡ Full
      go true e = let w : Ok (const_variant t) ≡ Err r = rw e at h in let z : ◌≡◌ {A = ℕ} 0 1 = cc in absurd (omega arith)
      go false e = const_full page m.held.sound t (ltb-false t fixed_max e) u r (rw e at h)

  pub const_entered : fixed_max ≤ t → (enter_answer page (const_entry page t) ≡ const_answer page t) × (enter_page page (const_entry page t) ≡ const_page page t)
  unfolding const_answer const_page
  const_entered h = (rw (le-ltb t fixed_max h) refl, rw (le-ltb t fixed_max h) refl)
