use Rattle.std.proofs.Common.{◌≡◌, ◌*◌, true, false, sym, ◌∙◌, arith}
use Rattle.types.proofs.Types.{held_by}
use Rattle.marks.specs.Marks.{is_marked}
use Rattle.matching.specs.Memo.{column_of}
use Rattle.matching.proofs.Memo.{stored_small}
use Rattle.matching.proofs.Matching.{noted_refuted}
use Rattle.matching.proofs.is_refuted.Goals as goal

pub are_marked-no-requires : goal.are_marked-no-requires
are_marked-no-requires c =
    let small = stored_small c.args.store.held in
    (small c.args.a c.requires.a_bound.0, small c.args.b c.requires.a_bound.1)

pub note-requires : goal.note-requires
note-requires c =
    let small = stored_small c.args.store.held in
    (small c.args.a c.requires.a_bound.0, small c.args.b c.requires.a_bound.1)

pub returns-clause-noted_2 : goal.returns-clause-noted_2
unfolding column_of
returns-clause-noted_2 c =
    let a = c.args in
    let p = c.requires in
    let e : column_of a.b false ≡ 2 * a.b = omega arith in
    let m : is_marked a.memo.now a.a (column_of a.b false) ≡ true = rw e (sym c.are_marked-no.ensures.0 ∙ c.if-not-no.false) in
    rw c.note.ensures
    (noted_refuted a.store.page.now (held_by a.store.held).sound a.memo.now p.noted a.a p.a_bound.0 a.b p.a_bound.1 m
    (sym c.is_free.ensures ∙ c.if-is_free.false)
    (sym c.are_unions.ensures ∙ c.if-are_unions.false))
