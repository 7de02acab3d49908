-- A type that was entered is found again in every store that grows out of the one it left. Assumes nothing.
use Rattle.std.proofs.Common.{Result, Ok, Err}
use mathlib.Core.Path.{◌≡◌, refl, ◌∙◌, ap, sym}
use mathlib.Core.Bool.{Bool, true, false, not}
use mathlib.Core.List.{List, [], ◌∷◌}
use Prim.Native.Nat.{ℕ, ◌+◌, ◌<◌, ◌≤◌}
use native.Mathlib.Omega.{arith}
use lib.Dec.{ltb, leb}
use lib.ListN.{length}
use borrow.Author.Tests.{lt-ltb, ltb-true, ltb-false, leb-true, not-false}
use Rattle.refusals.specs.Lowest.{◌when◌, lowest}
use Rattle.refusals.specs.declared.Refusal.{Refusal}
use Rattle.refusals.specs.declared.Refusal.TheVariants.{Depth, Full}
use Rattle.refusals.specs.Numbers.{Verdict}
use Rattle.refusals.proofs.Lowest.{passed_parts, answer_of_ok}
use Rattle.pages.specs.Bytes.{eqs, count_of}
use Rattle.pages.specs.Quant.{any_to}
use Rattle.pages.proofs.Quant.{and_true, any_cong, first_at, first_le, first_found, first_missed}
use Rattle.pages.proofs.Bytes.{eqs_refl}
use Rattle.kinds.specs.Kinds.{fixed_max}
use Rattle.types.specs.Store.{entries_max, depth_max, offset, is_entry, equal_to, Formed}
use Rattle.types.specs.Types.{types_in}
use Rattle.types.specs.Making.{Enterable, is_made, depth_of, roomy, with_entry, enter_verdict, enter_answer, enter_page, Grows}
use Rattle.types.proofs.Grown.{entry_grown, grows_refl, with_grows, with_count, with_sound, with_entry_lem}

-- ---- what a type that was made left

-- two answers that are one number
pub at_inj : (t u : ℕ) → ◌≡◌ {A = Result ℕ Refusal} (Ok t) (Ok u) → t ≡ u
at_inj t u e = cc

module _ (page entry : List ℕ) (f : Formed page) (e : Enterable page entry f) where
  -- it was there, or it is new, at no great depth and with a place
  pub record Fresh : Type 0 where
    pub new : count_of page ≤ equal_to page (count_of page) entry
    pub flat : depth_of page entry ≤ depth_max
    pub few : count_of page < entries_max
    pub room : offset page (count_of page) + length entry ≤ length page

  pub data Case : Type 0 where
    there : equal_to page (count_of page) entry < count_of page → enter_page page entry ≡ page → Case
    fresh : Fresh → enter_page page entry ≡ with_entry page entry → Case

  made_there : is_made page entry ≡ true → equal_to page (count_of page) entry < count_of page
  unfolding is_made
  made_there m = ltb-true (equal_to page (count_of page) entry) (count_of page) m

  page_there : is_made page entry ≡ true → enter_page page entry ≡ page
  unfolding enter_page enter_verdict
  page_there m = rw m refl

  made_new : is_made page entry ≡ false → enter_verdict page entry ≡ Ok tt → Fresh
  unfolding enter_verdict is_made roomy
  made_new m v =
      let w : lowest ((Depth when ltb depth_max (depth_of page entry)) ∷ (Full when not (roomy page entry)) ∷ []) ≡ (Ok tt) = rw m at v in
      let a = passed_parts Depth (ltb depth_max (depth_of page entry)) ((Full when not (roomy page entry)) ∷ []) w in
      let b = passed_parts Full (not (roomy page entry)) [] a.1 in
      let r = and_true (ltb (count_of page) entries_max) (leb (offset page (count_of page) + length entry) (length page)) (not-false (roomy page entry) b.0) in
      record {
        new = ltb-false (equal_to page (count_of page) entry) (count_of page) m;
        flat = ltb-false depth_max (depth_of page entry) a.0;
        few = ltb-true (count_of page) entries_max r.0;
        room = leb-true (offset page (count_of page) + length entry) (length page) r.1;
      }

  page_refused : (r : Refusal) → enter_verdict page entry ≡ Err r → enter_page page entry ≡ page
  unfolding enter_page
  page_refused r v = rw v refl

  page_new : is_made page entry ≡ false → enter_verdict page entry ≡ Ok tt → enter_page page entry ≡ with_entry page entry
  unfolding enter_page
  page_new m v = rw (v, m) refl

  pub entered_how : (t : ℕ) → enter_answer page entry ≡ Ok t → (fixed_max + equal_to page (count_of page) entry ≡ t) × Case
  unfolding enter_answer
  entered_how t h = let z = answer_of_ok (enter_verdict page entry) (fixed_max + equal_to page (count_of page) entry) t (sym h) in (sym z.1, how z.0)
    where
      how : enter_verdict page entry ≡ Ok tt → Case
      how v = go (is_made page entry) refl v
        where
          go : (b : Bool) → is_made page entry ≡ b → enter_verdict page entry ≡ Ok tt → Case
          go true m v = there (made_there m) (page_there m)
          go false m v = fresh (made_new m v) (page_new m v)

  -- whatever comes of it, the store grows, and stays in form
  pub enter_grows : Grows page (enter_page page entry) × Formed (enter_page page entry)
  enter_grows = go (is_made page entry) refl (enter_verdict page entry) refl
    where
      stays : enter_page page entry ≡ page → Grows page (enter_page page entry) × Formed (enter_page page entry)
      stays q = rw q (grows_refl page, f)

      go : (b : Bool) → is_made page entry ≡ b → (v : Verdict) → enter_verdict page entry ≡ v → Grows page (enter_page page entry) × Formed (enter_page page entry)
      go true m v h = stays (page_there m)
      go false m (Err r) h = stays (page_refused r h)
      go false m (Ok _) h =
          let z = made_new m h in
          rw (page_new m h) (with_grows page entry f e z.new z.flat z.few z.room, with_sound page entry f e z.new z.flat z.few z.room)

  -- what was entered has a number in use
  pub enter_used : (t : ℕ) → enter_answer page entry ≡ Ok t → t < types_in (enter_page page entry)
  enter_used t h = let z = entered_how t h in go z.0 z.1
    where
      go : fixed_max + equal_to page (count_of page) entry ≡ t → Case → t < types_in (enter_page page entry)
      go n (there l q) = rw q (omega (arith, n, l))
      go n (fresh z q) =
          rw (q, with_count page entry f e z.new z.flat z.few z.room) (omega (arith, n, first_le (is_entry page entry) (count_of page)))

  -- and is found under it in every store that grows out of the one it left
  module _ (t : ℕ) (h : enter_answer page entry ≡ Ok t) (q : List ℕ) (g : Grows (enter_page page entry) q) (fq : Formed q) where
    found_at : (i : ℕ) → i < count_of (enter_page page entry) → any_to i (is_entry (enter_page page entry) entry) ≡ false
        → is_entry (enter_page page entry) entry i ≡ true → fixed_max + i ≡ t → (enter_answer q entry ≡ Ok t) × (enter_page q entry ≡ q)
    unfolding enter_answer enter_page enter_verdict is_made
    found_at i l miss hit n =
        let same : (j : ℕ) → j < count_of (enter_page page entry) → is_entry q entry j ≡ is_entry (enter_page page entry) entry j =
        λ j k. ap (λ (x : List ℕ). eqs x entry) (entry_grown (enter_page page entry) q enter_grows.1 g j k) in
        let below : i < count_of q = omega (arith, g.more, l) in
        let at : equal_to q (count_of q) entry ≡ i =
        first_at (is_entry q entry) (count_of q) i below (any_cong (is_entry q entry) (is_entry (enter_page page entry) entry) i (λ j k. same j (omega arith)) ∙ miss) (same i l ∙ hit) in
        let made : ltb (equal_to q (count_of q) entry) (count_of q) ≡ true = rw at (lt-ltb i (count_of q) below) in
        (rw (made, at) (ap Ok n), rw made refl)

    pub enter_again : (enter_answer q entry ≡ Ok t) × (enter_page q entry ≡ q)
    enter_again = let z = entered_how t h in go z.0 z.1
      where
        go : fixed_max + equal_to page (count_of page) entry ≡ t → Case → (enter_answer q entry ≡ Ok t) × (enter_page q entry ≡ q)
        go n (there l p) =
            let z = first_found (is_entry page entry) (count_of page) l in
            found_at (equal_to page (count_of page) entry) (rw p l) (rw p z.0) (rw p z.1) n
        go n (fresh z p) =
            let k : equal_to page (count_of page) entry ≡ count_of page = omega (arith, z.new, first_le (is_entry page entry) (count_of page)) in
            let miss =
            any_cong (is_entry (enter_page page entry) entry) (is_entry page entry) (count_of page)
            (λ j l. ap (λ (x : List ℕ). eqs x entry) (entry_grown page (enter_page page entry) f enter_grows.0 j l))
            ∙ first_missed (is_entry page entry) (count_of page) z.new in
            let hit : is_entry (enter_page page entry) entry (count_of page) ≡ true =
            rw p (rw (with_entry_lem page entry f e z.new z.flat z.few z.room) (eqs_refl entry)) in
            found_at (count_of page) (rw (p, with_count page entry f e z.new z.flat z.few z.room) (omega arith)) miss hit (rw k at n)
