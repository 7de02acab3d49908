use mathlib.Core.Path.{◌≡◌, refl, sym, ◌∙◌, ap₂}
use mathlib.Core.Bool.{true, false}
use native.Mathlib.Omega.{arith}
use Rattle.pages.specs.Quant.{all_to}
use Rattle.pages.proofs.Quant.{all_none, all_more, all_failed}
use Rattle.matching.specs.Matching.{smaller, null_array_elision}
use Rattle.matching.proofs.Memo.{stored_small, recalled, noted_found, found_sequences}
use Rattle.matching.proofs.Elision.{smaller_is, elided, array_all, array_unlike, elided_rule, elided_left, elided_right}
use Rattle.types.proofs.Types.{held_by}
use Rattle.matching.proofs.+array_elision.Goals as goal
use Rattle.matching.proofs.+array_elision.Goals.{elide_sequences-else-x-ne-NULL-via-then-x-ne-NULL+then-y-ne-NULL+else-not-null_array_elision, elide_sequences-else-x-ne-NULL-via-then-x-ne-NULL+else-y-ne-NULL, elide_sequences-else-x-ne-NULL-via-else-x-ne-NULL}

pub null_array_elision-returns-then-not-are_sequences-clause-value : goal.null_array_elision-returns-then-not-are_sequences-clause-value
null_array_elision-returns-then-not-are_sequences-clause-value t c =
    array_unlike c.args.store.page.now (held_by c.args.store.held).sound c.args.a c.requires.a_bound.0 c.args.b (sym c.are_sequences.ensures ∙ c.if-not-are_sequences.true)

pub null_array_elision-recalled-requires : goal.null_array_elision-recalled-requires
null_array_elision-recalled-requires t c =
    let small = stored_small c.args.store.held in
    (small c.args.a c.requires.a_bound.0, small c.args.b c.requires.a_bound.1)

pub null_array_elision-returns-in-Some-clause-value : goal.null_array_elision-returns-in-Some-clause-value
null_array_elision-returns-in-Some-clause-value t c =
    let page = c.args.store.page.now in
    sym (recalled page c.args.memo.now c.requires.noted c.args.a c.args.b c.in-Some.answer true (sym c.in-Some.ensures) refl) ∙ found_sequences page c.args.a c.args.b (sym c.are_sequences.ensures ∙ c.if-not-are_sequences.false)

pub elide_sequences-loop-i-init : goal.elide_sequences-loop-i-init
elide_sequences-loop-i-init t c = (c.requires.noted, all_none _)

pub elide_sequences-null_array_elision-requires : goal.elide_sequences-null_array_elision-requires
elide_sequences-null_array_elision-requires t c =
    let x = c.child_of-x.ensures.1 in
    let y = c.child_of-y.ensures.1 in (
      omega (arith, c.decreases, x),
      (((omega (arith, x, c.requires.a_bound.0), omega (arith, y, c.requires.a_bound.1)), c.loop-i.invariant.0)),
    )

pub elide_sequences-note-requires : goal.elide_sequences-note-requires
elide_sequences-note-requires t c =
    let small = stored_small c.args.store.held in
    (small c.args.a c.requires.a_bound.0, small c.args.b c.requires.a_bound.1)

pub elide_sequences-returns-then-not-null_array_elision-clause-value : goal.elide_sequences-returns-then-not-null_array_elision-clause-value
elide_sequences-returns-then-not-null_array_elision-clause-value t c =
    let page = c.args.store.page.now in
    let i = c.loop-i.i in
    let x = c.child_of-x in
    let y = c.child_of-y in
    let s = elided_rule page (null_array_elision page) c.args.a c.args.b i x.result y.result x.ensures.0 y.ensures.0 c.if-x-ne-NULL.true c.if-y-ne-NULL.true in
    let r = s ∙ sym c.null_array_elision.ensures.value ∙ c.if-not-null_array_elision.true in
    let f = all_failed (elided page (null_array_elision page) c.args.a c.args.b) c.min-n.result i c.loop-i-test.true r in
    let h = c.requires.sequences in
    let e = c.min-n.ensures ∙ smaller_is _ _ ∙ ap₂ smaller c.arity.ensures.0 c.arity-2.ensures.0 in
    sym f ∙ array_all page (held_by c.args.store.held).sound c.args.a c.requires.a_bound.0 c.args.b c.min-n.result e c.requires.a_bound.1 h

pub elide_sequences-returns-then-not-null_array_elision-clause-noted_2 : goal.elide_sequences-returns-then-not-null_array_elision-clause-noted_2
elide_sequences-returns-then-not-null_array_elision-clause-noted_2 t c =
    let page = c.args.store.page.now in
    let i = c.loop-i.i in
    let x = c.child_of-x in
    let y = c.child_of-y in
    let s = elided_rule page (null_array_elision page) c.args.a c.args.b i x.result y.result x.ensures.0 y.ensures.0 c.if-x-ne-NULL.true c.if-y-ne-NULL.true in
    let r = s ∙ sym c.null_array_elision.ensures.value ∙ c.if-not-null_array_elision.true in
    let f = all_failed (elided page (null_array_elision page) c.args.a c.args.b) c.min-n.result i c.loop-i-test.true r in
    let h = c.requires.sequences in
    let e = c.min-n.ensures ∙ smaller_is _ _ ∙ ap₂ smaller c.arity.ensures.0 c.arity-2.ensures.0 in
    let v = sym f ∙ array_all page (held_by c.args.store.held).sound c.args.a c.requires.a_bound.0 c.args.b c.min-n.result e c.requires.a_bound.1 h in
    let n = noted_found page c.null_array_elision.new.memo c.null_array_elision.ensures.noted_2 c.args.a c.args.b false c.requires.a_bound.0 c.requires.a_bound.1
    (v ∙ sym (found_sequences page c.args.a c.args.b h)) in
    rw c.note.ensures n

pub elide_sequences-loop-i-preserved : goal.elide_sequences-loop-i-preserved
elide_sequences-loop-i-preserved t c =
    let page = c.args.store.page.now in
    let l = c.loop-i in
    let x = c.child_of-x in
    let y = c.child_of-y in
    let rule = null_array_elision page in
    let more = all_more (elided page rule c.args.a c.args.b) l.i l.invariant.1 in
    elim c.else-x-ne-NULL.branch [
      | elide_sequences-else-x-ne-NULL-via-then-x-ne-NULL+then-y-ne-NULL+else-not-null_array_elision w ↦
          let s = elided_rule page rule c.args.a c.args.b l.i x.result y.result x.ensures.0 y.ensures.0 w.if-x-ne-NULL.true w.if-y-ne-NULL.true in
          (rw w.memo-is w.null_array_elision.ensures.noted_2, more (s ∙ sym w.null_array_elision.ensures.value ∙ w.if-not-null_array_elision.false))
      | elide_sequences-else-x-ne-NULL-via-then-x-ne-NULL+else-y-ne-NULL w ↦
          (rw w.memo-is l.invariant.0, more (elided_right page rule c.args.a c.args.b l.i x.result y.result x.ensures.0 y.ensures.0 w.if-y-ne-NULL.false))
      | elide_sequences-else-x-ne-NULL-via-else-x-ne-NULL w ↦
          (rw w.memo-is l.invariant.0, more (elided_left page rule c.args.a c.args.b l.i x.result y.result x.ensures.0 y.ensures.0 w.if-x-ne-NULL.false))
    ]

pub elide_sequences-note-requires-2 : goal.elide_sequences-note-requires-2
elide_sequences-note-requires-2 t c =
    let small = stored_small c.args.store.held in
    (small c.args.a c.requires.a_bound.0, small c.args.b c.requires.a_bound.1)

pub elide_sequences-returns-clause-value : goal.elide_sequences-returns-clause-value
elide_sequences-returns-clause-value t c =
    let page = c.args.store.page.now in
    let l = c.loop-i in
    let i : l.i ≡ c.min-n.result = omega (arith, l.auto.i-end, c.loop-i-test.false) in
    let q : all_to c.min-n.result (elided page (null_array_elision page) c.args.a c.args.b) ≡ true = rw i at l.invariant.1 in
    let h = c.requires.sequences in
    let e = c.min-n.ensures ∙ smaller_is _ _ ∙ ap₂ smaller c.arity.ensures.0 c.arity-2.ensures.0 in
    sym q ∙ array_all page (held_by c.args.store.held).sound c.args.a c.requires.a_bound.0 c.args.b c.min-n.result e c.requires.a_bound.1 h

pub elide_sequences-returns-clause-noted_2 : goal.elide_sequences-returns-clause-noted_2
elide_sequences-returns-clause-noted_2 t c =
    let page = c.args.store.page.now in
    let l = c.loop-i in
    let i : l.i ≡ c.min-n.result = omega (arith, l.auto.i-end, c.loop-i-test.false) in
    let q : all_to c.min-n.result (elided page (null_array_elision page) c.args.a c.args.b) ≡ true = rw i at l.invariant.1 in
    let h = c.requires.sequences in
    let e = c.min-n.ensures ∙ smaller_is _ _ ∙ ap₂ smaller c.arity.ensures.0 c.arity-2.ensures.0 in
    let v = sym q ∙ array_all page (held_by c.args.store.held).sound c.args.a c.requires.a_bound.0 c.args.b c.min-n.result e c.requires.a_bound.1 h in
    let n = noted_found page l.memo l.invariant.0 c.args.a c.args.b true c.requires.a_bound.0 c.requires.a_bound.1
    (v ∙ sym (found_sequences page c.args.a c.args.b h)) in
    rw c.note-2.ensures n
