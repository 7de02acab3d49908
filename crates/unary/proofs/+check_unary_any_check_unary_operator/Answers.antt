use Rattle.std.proofs.lemmas.Result.{err_from_is_err_and}
use mathlib.Core.Path.{sym, ◌∙◌, ap, refl}
use borrow.Author.Rules.{rules}
use native.Mathlib.Omega.{arith}
use Rattle.members.proofs.Flattening.{as_many, place_read, member_is}
use Rattle.unary.proofs.Checking.{low, done_plain, done_before, done_low, done_noted}
use Rattle.unary.proofs.Checking.{tried_none, member_low, member_works, member_room, tried_next, tried_stop}
use Rattle.unary.proofs.Checking.{union_asks, union_done}
use Rattle.kinds.specs.Kinds.{is_union}
use Rattle.types.proofs.Types.{formed_by}
use Rattle.unary.proofs.+check_unary_any_check_unary_operator.Goals as goal

pub check_unary_any-loop-x-init : goal.check_unary_any-loop-x-init
check_unary_any-loop-x-init t c =
    ((refl, refl), tried_none c.requires.working (formed_by c.args.maker.now.measured) c.requires.t_value (rw c.store.ensures.0 at c.flatten-n.ensures.0) _ refl)

pub check_unary_any-check_unary_operator-requires : goal.check_unary_any-check_unary_operator-requires
check_unary_any-check_unary_operator-requires t c =
    let a = c.args in
    let w = c.requires.working in
    let f = formed_by c.args.maker.now.measured in
    let h = c.requires.t_value in
    let l = c.loop-x in
    let flat = c.flatten-n in
    let read = place_read a.maker.now.page.now a.t flat.result _ (rw c.store.ensures.0 at flat.ensures) l.x-index c.from-x.result c.loop-x-test.true c.from-x.ensures in
    let is = member_is a.maker.now.page.now a.t flat.result _ (rw c.store.ensures.0 at flat.ensures) l.x-index c.from-x.result read.0 read.1 in
    let m-low = member_low w f h (rw c.store.ensures.0 at flat.ensures.0) l.invariant.1 read.0 is in
    (omega (arith, m-low, c.decreases), member_works w f h (rw c.store.ensures.0 at flat.ensures.0) l.invariant.1 read.0 is)

pub check_unary_any-returns-in_err-r-clause-page_after : goal.check_unary_any-returns-in_err-r-clause-page_after
check_unary_any-returns-in_err-r-clause-page_after t c =
    let a = c.args in
    let w = c.requires.working in
    let f = formed_by c.args.maker.now.measured in
    let h = c.requires.t_value in
    let l = c.loop-x in
    let flat = c.flatten-n in
    let read = place_read a.maker.now.page.now a.t flat.result _ (rw c.store.ensures.0 at flat.ensures) l.x-index c.from-x.result c.loop-x-test.true c.from-x.ensures in
    let is = member_is a.maker.now.page.now a.t flat.result _ (rw c.store.ensures.0 at flat.ensures) l.x-index c.from-x.result read.0 read.1 in
    let p = err_from_is_err_and c.from_residual.result c.from_residual.ensures.1 in
    rw (p.1, p.2) (rw c.in_err-r.was at (tried_stop w f h (rw c.store.ensures.0 at flat.ensures.0) l.invariant.1 read.0 is (c.check_unary_operator.ensures.page_after, c.check_unary_operator.ensures.remembered) c.in_err-r.was).0)

pub check_unary_any-merge-k-requires : goal.check_unary_any-merge-k-requires
check_unary_any-merge-k-requires t c =
    let a = c.args in
    let w = c.requires.working in
    let f = formed_by c.args.maker.now.measured in
    let h = c.requires.t_value in
    let l = c.loop-x in
    let flat = c.flatten-n in
    let read = place_read a.maker.now.page.now a.t flat.result _ (rw c.store.ensures.0 at flat.ensures) l.x-index c.from-x.result c.loop-x-test.true c.from-x.ensures in
    let is = member_is a.maker.now.page.now a.t flat.result _ (rw c.store.ensures.0 at flat.ensures) l.x-index c.from-x.result read.0 read.1 in
    let works = member_works w f h (rw c.store.ensures.0 at flat.ensures.0) l.invariant.1 read.0 is in
    let r-low = done_low works (formed_by l.maker.measured) (c.check_unary_operator.ensures.page_after, c.check_unary_operator.ensures.remembered) c.in_ok-r.was in
    (member_room w f h (rw c.store.ensures.0 at flat.ensures.0) l.invariant.1 read.0 is, r-low)

pub check_unary_any-loop-x-preserved : goal.check_unary_any-loop-x-preserved
check_unary_any-loop-x-preserved t c =
    let a = c.args in
    let w = c.requires.working in
    let f = formed_by c.args.maker.now.measured in
    let h = c.requires.t_value in
    let l = c.loop-x in
    let flat = c.flatten-n in
    let read = place_read a.maker.now.page.now a.t flat.result _ (rw c.store.ensures.0 at flat.ensures) l.x-index c.from-x.result c.loop-x-test.true c.from-x.ensures in
    let is = member_is a.maker.now.page.now a.t flat.result _ (rw c.store.ensures.0 at flat.ensures) l.x-index c.from-x.result read.0 read.1 in
    let same = c.check_unary_operator.ensures.same in
    let next = tried_next w f h (rw c.store.ensures.0 at flat.ensures.0) l.invariant.1 read.0 is (c.check_unary_operator.ensures.page_after, c.check_unary_operator.ensures.remembered) c.in_ok-r.was c.merge-k.ensures c.merge-k.array_long in
    ((same.0 ∙ l.invariant.0.0, same.1 ∙ l.invariant.0.1), next)

pub check_unary_any-enter_union-requires : goal.check_unary_any-enter_union-requires
check_unary_any-enter_union-requires t c =
    let w = c.requires.working in
    let f = formed_by c.args.maker.now.measured in
    let h = c.requires.t_value in
    let l = c.loop-x in
    let flat = c.flatten-n in
    let end = rw (as_many c.args.maker.now.page.now c.args.t flat.result _ (rw c.store.ensures.0 at flat.ensures)) at c.loop-x-test.false in
    union_asks w f h (rw c.store.ensures.0 at flat.ensures.0) l.invariant.1 end

pub check_unary_any-returns-clause-page_after : goal.check_unary_any-returns-clause-page_after
check_unary_any-returns-clause-page_after t c =
    let w = c.requires.working in
    let f = formed_by c.args.maker.now.measured in
    let h = c.requires.t_value in
    let l = c.loop-x in
    let flat = c.flatten-n in
    let end = rw (as_many c.args.maker.now.page.now c.args.t flat.result _ (rw c.store.ensures.0 at flat.ensures)) at c.loop-x-test.false in
    let e = c.enter_union.ensures in
    (union_done w f h (rw c.store.ensures.0 at flat.ensures.0) l.invariant.1 end e.page_after).0

pub check_unary_any-returns-clause-remembered : goal.check_unary_any-returns-clause-remembered
check_unary_any-returns-clause-remembered t c =
    let w = c.requires.working in
    let f = formed_by c.args.maker.now.measured in
    let h = c.requires.t_value in
    let l = c.loop-x in
    let flat = c.flatten-n in
    let end = rw (as_many c.args.maker.now.page.now c.args.t flat.result _ (rw c.store.ensures.0 at flat.ensures)) at c.loop-x-test.false in
    let e = c.enter_union.ensures in
    (union_done w f h (rw c.store.ensures.0 at flat.ensures.0) l.invariant.1 end e.page_after).1

pub check_unary_operator-returns-then-not-is_union-clause-page_after : goal.check_unary_operator-returns-then-not-is_union-clause-page_after
check_unary_operator-returns-then-not-is_union-clause-page_after t c =
    let plain = sym c.is_union.ensures ∙ c.if-not-is_union.true in
    (done_plain c.requires (formed_by c.args.maker.now.measured) (rw c.store.ensures.0 at c.kind_of-kind.ensures) plain (c.from.ensures ∙ c.family_of.ensures)).0

pub check_unary_operator-check_unary_any-requires : goal.check_unary_operator-check_unary_any-requires
check_unary_operator-check_unary_any-requires t c =
    let union = ap is_union (sym (rw c.store.ensures.0 at c.kind_of-kind.ensures)) ∙ sym c.is_union.ensures ∙ c.if-not-is_union.false in
    (omega (arith, c.decreases), (c.requires, union))

pub check_unary_operator-bounds : goal.check_unary_operator-bounds
check_unary_operator-bounds t c = omega (arith, c.requires.remembered.size, low c.requires (formed_by c.args.maker.now.measured))

pub check_unary_operator-offset_bounds-done-t : goal.check_unary_operator-offset_bounds-done-t
check_unary_operator-offset_bounds-done-t t c = omega (arith, low c.requires (formed_by c.args.maker.now.measured))

pub check_unary_operator-returns-in-Some-clause-page_after : goal.check_unary_operator-returns-in-Some-clause-page_after
check_unary_operator-returns-in-Some-clause-page_after t c = rw c.from-in-Some.ensures (done_before c.requires (formed_by c.args.maker.now.measured) c.in-Some.is).0

pub check_unary_operator-offset_bounds-done-t-2 : goal.check_unary_operator-offset_bounds-done-t-2
check_unary_operator-offset_bounds-done-t-2 t c = omega (arith, low c.requires (formed_by c.args.maker.now.measured))

pub check_unary_operator-overflow_cast-done : goal.check_unary_operator-overflow_cast-done
check_unary_operator-overflow_cast-done t c =
    search (rules, done_low c.requires (formed_by c.args.maker.now.measured) (c.check_unary_any.ensures.page_after, c.check_unary_any.ensures.remembered) c.in_ok-r.was)

pub check_unary_operator-bounds-done-t-2 : goal.check_unary_operator-bounds-done-t-2
check_unary_operator-bounds-done-t-2 t c = omega (arith, c.check_unary_any.ensures.remembered.size, low c.requires (formed_by c.args.maker.now.measured))

pub check_unary_operator-returns-clause-remembered : goal.check_unary_operator-returns-clause-remembered
check_unary_operator-returns-clause-remembered t c =
    let e = rw c.in_ok-r.was at c.check_unary_any.ensures.page_after in
    (done_noted c.requires (formed_by c.args.maker.now.measured) (e, c.check_unary_any.ensures.remembered)).1
