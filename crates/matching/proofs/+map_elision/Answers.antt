use mathlib.Core.Path.{◌≡◌, refl, sym, ◌∙◌}
use mathlib.Core.Bool.{true, false}
use native.Mathlib.Omega.{arith}
use Rattle.kinds.specs.Kinds.{is_map}
use Rattle.types.specs.Types.{kind_of}
use Rattle.pages.specs.Quant.{all_to}
use Rattle.pages.proofs.Quant.{and_true, all_none, all_more, all_failed}
use Rattle.matching.specs.Matching.{null_map_elision}
use Rattle.matching.proofs.Memo.{stored_small, recalled, noted_found, found_maps}
use Rattle.matching.proofs.Parts.{two_children}
use Rattle.matching.proofs.Elision.{part_rule, part_array, part_map, elided, map_unlike, map_all, elided_rule, elided_left, elided_right}
use Rattle.types.proofs.Types.{held_by}
use Rattle.matching.proofs.+map_elision.Goals as goal
use Rattle.matching.proofs.+map_elision.Goals.{elide_maps-else-x-ne-NULL-via-then-x-ne-NULL+then-y-ne-NULL+then-not-null_array_elision+else-not-null_map_elision, elide_maps-else-x-ne-NULL-via-then-x-ne-NULL+then-y-ne-NULL+else-not-null_array_elision, elide_maps-else-x-ne-NULL-via-then-x-ne-NULL+else-y-ne-NULL, elide_maps-else-x-ne-NULL-via-else-x-ne-NULL}

pub null_map_elision-returns-then-not-are_maps-clause-value : goal.null_map_elision-returns-then-not-are_maps-clause-value
null_map_elision-returns-then-not-are_maps-clause-value t c =
    map_unlike c.args.store.page.now (held_by c.args.store.held).sound c.args.a c.requires.a_bound.0 c.args.b (sym c.are_maps.ensures ∙ c.if-not-are_maps.true)

pub null_map_elision-recalled-requires : goal.null_map_elision-recalled-requires
null_map_elision-recalled-requires t c =
    let small = stored_small c.args.store.held in
    (small c.args.a c.requires.a_bound.0, small c.args.b c.requires.a_bound.1)

pub null_map_elision-returns-in-Some-clause-value : goal.null_map_elision-returns-in-Some-clause-value
null_map_elision-returns-in-Some-clause-value t c =
    let page = c.args.store.page.now in
    sym (recalled page c.args.memo.now c.requires.noted c.args.a c.args.b c.in-Some.answer true (sym c.in-Some.ensures) refl) ∙ found_maps page c.args.a c.args.b (sym c.are_maps.ensures ∙ c.if-not-are_maps.false)

pub elide_maps-loop-i-init : goal.elide_maps-loop-i-init
elide_maps-loop-i-init t c = (c.requires.noted, all_none _)

pub elide_maps-child_of-x-requires : goal.elide_maps-child_of-x-requires
elide_maps-child_of-x-requires t c =
    let page = c.args.store.page.now in
    let h = and_true (is_map (kind_of page c.args.a)) (is_map (kind_of page c.args.b)) c.requires.maps in
    let w = two_children page (held_by c.args.store.held).sound c.args.a c.requires.a_bound.0 h.0 in
    (c.requires.a_bound.0, omega (arith, c.loop-i-test.true, w))

pub elide_maps-child_of-y-requires : goal.elide_maps-child_of-y-requires
elide_maps-child_of-y-requires t c =
    let page = c.args.store.page.now in
    let h = and_true (is_map (kind_of page c.args.a)) (is_map (kind_of page c.args.b)) c.requires.maps in
    let w = two_children page (held_by c.args.store.held).sound c.args.b c.requires.a_bound.1 h.1 in
    (c.requires.a_bound.1, omega (arith, c.loop-i-test.true, w))

pub elide_maps-null_array_elision-requires-clause-noted : goal.elide_maps-null_array_elision-requires-clause-noted
elide_maps-null_array_elision-requires-clause-noted t c = c.loop-i.invariant.0

pub elide_maps-null_map_elision-requires : goal.elide_maps-null_map_elision-requires
elide_maps-null_map_elision-requires t c =
    let x = c.child_of-x.ensures.1 in
    let y = c.child_of-y.ensures.1 in (
      omega (arith, c.decreases, x),
      (((omega (arith, x, c.requires.a_bound.0), omega (arith, y, c.requires.a_bound.1)), c.null_array_elision.ensures.noted_2)),
    )

pub elide_maps-note-requires : goal.elide_maps-note-requires
elide_maps-note-requires t c =
    let small = stored_small c.args.store.held in
    (small c.args.a c.requires.a_bound.0, small c.args.b c.requires.a_bound.1)

pub elide_maps-returns-then-not-null_map_elision-clause-value : goal.elide_maps-returns-then-not-null_map_elision-clause-value
elide_maps-returns-then-not-null_map_elision-clause-value t c =
    let page = c.args.store.page.now in
    let i = c.loop-i.i in
    let x = c.child_of-x in
    let y = c.child_of-y in
    let rule = part_rule page (null_map_elision page) in
    let s = elided_rule page rule c.args.a c.args.b i x.result y.result x.ensures.0 y.ensures.0 c.if-x-ne-NULL.true c.if-y-ne-NULL.true in
    let m = part_map page (null_map_elision page) x.result y.result (sym c.null_array_elision.ensures.value ∙ c.if-not-null_array_elision.true) in
    let r = s ∙ m ∙ sym c.null_map_elision.ensures.value ∙ c.if-not-null_map_elision.true in
    let f = all_failed (elided page rule c.args.a c.args.b) 2 i c.loop-i-test.true r in
    let h = c.requires.maps in
    sym f ∙ map_all page (held_by c.args.store.held).sound c.args.a c.requires.a_bound.0 c.args.b h

pub elide_maps-returns-then-not-null_map_elision-clause-noted_2 : goal.elide_maps-returns-then-not-null_map_elision-clause-noted_2
elide_maps-returns-then-not-null_map_elision-clause-noted_2 t c =
    let page = c.args.store.page.now in
    let i = c.loop-i.i in
    let x = c.child_of-x in
    let y = c.child_of-y in
    let rule = part_rule page (null_map_elision page) in
    let s = elided_rule page rule c.args.a c.args.b i x.result y.result x.ensures.0 y.ensures.0 c.if-x-ne-NULL.true c.if-y-ne-NULL.true in
    let m = part_map page (null_map_elision page) x.result y.result (sym c.null_array_elision.ensures.value ∙ c.if-not-null_array_elision.true) in
    let r = s ∙ m ∙ sym c.null_map_elision.ensures.value ∙ c.if-not-null_map_elision.true in
    let f = all_failed (elided page rule c.args.a c.args.b) 2 i c.loop-i-test.true r in
    let h = c.requires.maps in
    let e = sym f ∙ map_all page (held_by c.args.store.held).sound c.args.a c.requires.a_bound.0 c.args.b h in
    let n = noted_found page c.null_map_elision.new.memo c.null_map_elision.ensures.noted_2 c.args.a c.args.b false c.requires.a_bound.0 c.requires.a_bound.1
    (e ∙ sym (found_maps page c.args.a c.args.b h)) in
    rw c.note.ensures n

pub elide_maps-loop-i-preserved : goal.elide_maps-loop-i-preserved
elide_maps-loop-i-preserved t c =
    let page = c.args.store.page.now in
    let l = c.loop-i in
    let x = c.child_of-x in
    let y = c.child_of-y in
    let rule = part_rule page (null_map_elision page) in
    let more = all_more (elided page rule c.args.a c.args.b) l.i l.invariant.1 in
    let by = elided_rule page rule c.args.a c.args.b l.i x.result y.result x.ensures.0 y.ensures.0 in
    elim c.else-x-ne-NULL.branch [
      | elide_maps-else-x-ne-NULL-via-then-x-ne-NULL+then-y-ne-NULL+then-not-null_array_elision+else-not-null_map_elision w ↦
          let m = part_map page (null_map_elision page) x.result y.result (sym w.null_array_elision.ensures.value ∙ w.if-not-null_array_elision.true) in
          (rw w.memo-is w.null_map_elision.ensures.noted_2, more (by w.if-x-ne-NULL.true w.if-y-ne-NULL.true ∙ m ∙ sym w.null_map_elision.ensures.value ∙ w.if-not-null_map_elision.false))
      | elide_maps-else-x-ne-NULL-via-then-x-ne-NULL+then-y-ne-NULL+else-not-null_array_elision w ↦
          let m = part_array page (null_map_elision page) x.result y.result (sym w.null_array_elision.ensures.value ∙ w.if-not-null_array_elision.false) in
          (rw w.memo-is w.null_array_elision.ensures.noted_2, more (by w.if-x-ne-NULL.true w.if-y-ne-NULL.true ∙ m))
      | elide_maps-else-x-ne-NULL-via-then-x-ne-NULL+else-y-ne-NULL w ↦
          (rw w.memo-is l.invariant.0, more (elided_right page rule c.args.a c.args.b l.i x.result y.result x.ensures.0 y.ensures.0 w.if-y-ne-NULL.false))
      | elide_maps-else-x-ne-NULL-via-else-x-ne-NULL w ↦
          (rw w.memo-is l.invariant.0, more (elided_left page rule c.args.a c.args.b l.i x.result y.result x.ensures.0 y.ensures.0 w.if-x-ne-NULL.false))
    ]

pub elide_maps-note-requires-2 : goal.elide_maps-note-requires-2
elide_maps-note-requires-2 t c =
    let small = stored_small c.args.store.held in
    (small c.args.a c.requires.a_bound.0, small c.args.b c.requires.a_bound.1)

pub elide_maps-returns-clause-value : goal.elide_maps-returns-clause-value
elide_maps-returns-clause-value t c =
    let page = c.args.store.page.now in
    let l = c.loop-i in
    let h = c.requires.maps in
    let i : l.i ≡ 2 = omega (arith, l.auto.i-end, c.loop-i-test.false) in
    let q : all_to 2 (elided page (part_rule page (null_map_elision page)) c.args.a c.args.b) ≡ true = rw i at l.invariant.1 in
    sym q ∙ map_all page (held_by c.args.store.held).sound c.args.a c.requires.a_bound.0 c.args.b h

pub elide_maps-returns-clause-noted_2 : goal.elide_maps-returns-clause-noted_2
elide_maps-returns-clause-noted_2 t c =
    let page = c.args.store.page.now in
    let l = c.loop-i in
    let h = c.requires.maps in
    let i : l.i ≡ 2 = omega (arith, l.auto.i-end, c.loop-i-test.false) in
    let q : all_to 2 (elided page (part_rule page (null_map_elision page)) c.args.a c.args.b) ≡ true = rw i at l.invariant.1 in
    let e = sym q ∙ map_all page (held_by c.args.store.held).sound c.args.a c.requires.a_bound.0 c.args.b h in
    let n = noted_found page l.memo l.invariant.0 c.args.a c.args.b true c.requires.a_bound.0 c.requires.a_bound.1 (e ∙ sym (found_maps page c.args.a c.args.b h)) in
    rw c.note-2.ensures n
