-- Entering a type: one law for each return, and what holds of the store afterwards. Assumes nothing.
use Rattle.std.proofs.Common.{Result, Ok, Err}
use mathlib.Core.Path.{◌≡◌, refl, ◌∙◌, ap}
use mathlib.Core.Bool.{true, false, not}
use mathlib.Core.List.{List, [], ◌∷◌}
use Prim.Native.Nat.{ℕ, ◌+◌, ◌*◌, ◌<◌, ◌≤◌}
use native.Mathlib.Omega.{arith}
use lib.Dec.{ltb}
use lib.ListN.{length, get_or, set}
use borrow.Author.Tests.{lt-ltb, le-ltb, le-leb, lt-leb}
use Rattle.refusals.specs.Lowest.{◌when◌}
use Rattle.refusals.specs.declared.Refusal.{Refusal}
use Rattle.refusals.specs.declared.Refusal.TheVariants.{Depth, Full}
use Rattle.refusals.proofs.Lowest.{first_holds}
use Rattle.pages.specs.Bytes.{count_bytes, count_of, bytes_of, put}
use Rattle.pages.proofs.Quant.{first_le}
use Rattle.kinds.specs.Kinds.{fixed_max}
use Rattle.types.specs.Store.{entries_max, depth_max, head_bytes, child_bytes, children_at, children_below, size_at, offset, depth_at, depths, is_entry, equal_to}
use Rattle.types.specs.Types.{types_in, Measured}
use Rattle.types.specs.Survey.{Placed}
use Rattle.types.specs.Making.{Ready, is_made, depth_of, roomy, with_entry, enter_verdict, enter_answer, enter_page}
use Rattle.types.proofs.Placing.{size_head}
use Rattle.types.proofs.Form.{parts_children, below_more, depth_known}
use Rattle.types.proofs.Types.{whole, end_inside}
use Rattle.types.proofs.Grown.{with_measured}

-- what `enter` promises
abbrev Entered : (page entry after os ds : List ℕ) → Result ℕ Refusal → Type 0
Entered page entry after os ds r = (r ≡ enter_answer page entry) × (after ≡ enter_page page entry) × (Measured after os ds)

module _ (page os ds entry : List ℕ) (r : Ready page os ds entry) where
  -- what the search and the depth ask for
  pub enter_two : count_bytes ≤ length page
  enter_two = (whole page r.measured.held.sound.names r.measured.held.sound.form).two

  pub enter_few : count_of page ≤ entries_max
  enter_few = (whole page r.measured.held.sound.names r.measured.held.sound.form).few

  pub enter_end : (n : ℕ) → n ≡ count_of page → offset page n ≤ length page
  enter_end n e = rw e (end_inside page r.measured.held.sound)

  pub enter_placed : (n : ℕ) → n ≡ count_of page → Placed page os n
  enter_placed n e = record {
    inside = enter_end n e;
    room = omega (arith, r.measured.held.size, enter_few, e);
    places = λ i l. r.measured.held.places i (omega (arith, l, e));
  }

  children : (head_bytes + child_bytes * children_at entry 0 ≤ size_at entry 0) × (children_below entry 0 (types_in page) ≡ true)
  children = parts_children entry r.measured.held.sound.names (types_in page) 0 r.enterable.parts

  pub enter_asks : (0 + head_bytes ≤ length entry) × (0 + head_bytes + child_bytes * children_at entry 0 ≤ length entry)
      × (children_below entry 0 (fixed_max + length ds) ≡ true)
  enter_asks = (
    omega (arith, size_head entry 0, r.enterable.whole),
    omega (arith, children.0, r.enterable.whole),
    below_more entry 0 (types_in page) (fixed_max + length ds) (omega (arith, enter_few, r.measured.size)) children.1,
  )

  pub enter_depth : (d : ℕ) → d ≡ depth_at entry ds 0 → d ≡ depth_of page entry
  unfolding depth_of
  enter_depth d e = e ∙ depth_known ds (depths page (count_of page)) (count_of page) r.measured.known entry 0 children.1

  pub enter_place : (n : ℕ) → n ≡ count_of page → get_or os n 0 ≡ offset page n
  enter_place n is = r.measured.held.places n (omega (arith, is))

  module _ (n k : ℕ) (is : n ≡ count_of page) (at : k ≡ equal_to page n entry) where
    at_count : k ≡ equal_to page (count_of page) entry
    at_count = rw is at at

    pub enter_known : k < n → Entered page entry page os ds (Ok (fixed_max + k))
    unfolding enter_answer enter_page enter_verdict is_made
    enter_known h =
        let m : ltb (equal_to page (count_of page) entry) (count_of page) ≡ true = rw (← at_count, ← is) (lt-ltb k n h) in
        (rw (m, ← at_count) refl, rw m refl, r.measured)

    module _ (h : n ≤ k) where
      is_new_lem : ltb (equal_to page (count_of page) entry) (count_of page) ≡ false
      is_new_lem = rw (← at_count, ← is) (le-ltb k n h)

      next : fixed_max + n ≡ fixed_max + equal_to page (count_of page) entry
      next = rw (← at_count) (omega (arith, at, first_le (is_entry page entry) n))

      refused : (q : Refusal) → enter_verdict page entry ≡ Err q → Entered page entry page os ds (Err q)
      unfolding enter_answer enter_page
      refused q v = (rw v refl, rw v refl, r.measured)

      module _ (d : ℕ) (deep : d ≡ depth_of page entry) where
        pub enter_deep : depth_max < d → Entered page entry page os ds (Err Depth)
        unfolding enter_verdict is_made
        enter_deep l =
            let m : ltb depth_max (depth_of page entry) ≡ true = rw (← deep) (lt-ltb depth_max d l) in
            refused Depth (rw (is_new_lem, m) (first_holds Depth ((Full when not (roomy page entry)) ∷ []) refl))

        module _ (flat : d ≤ depth_max) where
          is_flat : ltb depth_max (depth_of page entry) ≡ false
          is_flat = rw (← deep) (le-ltb depth_max d flat)

          full : roomy page entry ≡ false → Entered page entry page os ds (Err Full)
          unfolding enter_verdict is_made
          full m = refused Full (rw (is_new_lem, is_flat, m) refl)

          pub enter_many : entries_max ≤ n → Entered page entry page os ds (Err Full)
          unfolding roomy
          enter_many l = full (rw (← is, le-ltb n entries_max l) refl)

          module _ (few : n < entries_max) (end : ℕ) (o : end ≡ offset page n) where
            pub enter_short : length page < end + length entry → Entered page entry page os ds (Err Full)
            unfolding roomy
            enter_short l = full (rw (← is, lt-ltb n entries_max few, ← o, lt-leb (end + length entry) (length page) l) refl)

            pub enter_new : end + length entry ≤ length page
                → Entered page entry (put (put page end entry) 0 (bytes_of (n + 1))) (set os (n + 1) (end + length entry)) (set ds n d) (Ok (fixed_max + n))
            unfolding enter_answer enter_page enter_verdict is_made roomy with_entry
            enter_new l =
                let at_end : end ≡ offset page (count_of page) = rw is at o in
                let v : enter_verdict page entry ≡ (Ok tt) =
                rw (is_new_lem, is_flat, ← is, lt-ltb n entries_max few, ← o, le-leb (end + length entry) (length page) l) refl in
                let w = with_measured page entry r.measured.held.sound r.enterable (rw (← at_count, ← is) h) (rw (← deep) flat)
                (rw (← is) few) (rw (← at_end) l) os ds r.measured in
                (rw v (ap Ok next), rw (v, is_new_lem, is, at_end) refl, rw (is, at_end, deep) w)
