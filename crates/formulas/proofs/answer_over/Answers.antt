use mathlib.Core.Path.{◌∙◌}
use borrow.Author.Rules.{rules}
use Rattle.types.proofs.Types.{measured_by}
use Rattle.checked.proofs.Calls.{end_there, grown_back, grown_asks}
use Rattle.members.proofs.Tables.{measured_back}
use Rattle.formulas.proofs.Supplied.{supplied_start}
use Rattle.formulas.proofs.Whole.{formula_grown, store_kept, store_back, measured_as}
use Rattle.formulas.proofs.answer_over.Goals as goal

pub formula-answer-requires : goal.formula-answer-requires
formula-answer-requires g c =
    let single = rw c.store-store.ensures.0 at c.fill_leaves.ensures.leaves in
    let double = rw c.store-store.ensures.0 at c.fill_leaves-2.ensures.leaves in
    search (rules, supplied_start c.args.used c.args.page.now _ _ g.row.N single double)

pub take_back-requires : goal.take_back-requires
take_back-requires g c =
    let page = c.args.page.now in
    let m = c.requires.measured in
    let grown = formula_grown c.args.used _ page m.held.sound c.args.bodies.now c.args.root _ c.in-Err.ensures.store in
    let e = end_there page c.count.result c.place_of-end.result (rw c.store-store.ensures.0 at c.count.ensures) (rw c.store-store.ensures.0 at c.place_of-end.ensures) in
    search (rules, c.in-Err.ensures.same.1.0, grown_asks page _ _ m _ grown.0 c.place_of-end.result e)

pub returns-in-Err-clause-page_after : goal.returns-in-Err-clause-page_after
returns-in-Err-clause-page_after g c =
    let page = c.args.page.now in
    let m = c.requires.measured in
    let grown = formula_grown c.args.used _ page m.held.sound c.args.bodies.now c.args.root _ c.in-Err.ensures.store in
    let e = end_there page c.count.result c.place_of-end.result (rw c.store-store.ensures.0 at c.count.ensures) (rw c.store-store.ensures.0 at c.place_of-end.ensures) in
    let back = grown_back page _ _ m _ grown.0 c.place_of-end.result e in
    let taken = rw (c.front-front.ensures, c.store-store.ensures.0) at c.take_back.ensures in
    let same = store_back c.args.used _ page m.held.sound c.args.bodies.now c.args.root _ c.in-Err.ensures.value in
    search (rules, c.in-Err.ensures.same.1.0, taken, back) ∙ same

pub returns-in-Err-clause-measured_2 : goal.returns-in-Err-clause-measured_2
returns-in-Err-clause-measured_2 g c =
    let page = c.args.page.now in
    let m = c.requires.measured in
    let grown = formula_grown c.args.used _ page m.held.sound c.args.bodies.now c.args.root _ c.in-Err.ensures.store in
    let e = end_there page c.count.result c.place_of-end.result (rw c.store-store.ensures.0 at c.count.ensures) (rw c.store-store.ensures.0 at c.place_of-end.ensures) in
    let back = grown_back page _ _ m _ grown.0 c.place_of-end.result e in
    let taken = rw (c.front-front.ensures, c.store-store.ensures.0) at c.take_back.ensures in
    measured_as (measured_back page _ _ _ m.held.sound grown.0 (measured_by c.formula-answer.new.maker.measured))
    (search (rules, c.in-Err.ensures.same.1.0, taken, back)) (search (rules, c.in-Err.ensures.same.1.1)) (search (rules, c.in-Err.ensures.same.1.1))

pub returns-in_default-clause-page_after : goal.returns-in_default-clause-page_after
returns-in_default-clause-page_after g c =
    let page = c.args.page.now in
    let m = c.requires.measured in
    let kept = store_kept c.args.used _ page m.held.sound c.args.bodies.now c.args.root _ c.in_default.ensures.value in
    search (rules, c.in_default.ensures.same.1.0, c.in_default.ensures.store) ∙ kept

pub returns-in_default-clause-measured_2 : goal.returns-in_default-clause-measured_2
returns-in_default-clause-measured_2 g c =
    measured_as (measured_by c.formula-answer.new.maker.measured) (search (rules, c.in_default.ensures.same.1.0)) (search (rules, c.in_default.ensures.same.1.1)) (search (rules, c.in_default.ensures.same.1.1))
