use Rattle.std.proofs.Common.{Ok, ap}
use mathlib.Core.Path.{◌∙◌}
use Rattle.types.proofs.Types.{measured_by, formed_by}
use Rattle.checked.proofs.Calls.{end_there, grown_back, grown_asks}
use Rattle.operators.proofs.Table.{operator_range}
use Rattle.members.proofs.Tables.{measured_back}
use Rattle.unary.specs.Unary.{check_unary}
use Rattle.answers.proofs.Calls.{unary_used, unary_grown, unary_leaves, unary_is, unary_stopped}
use Rattle.answers.proofs.unary_checked.Goals as goal

pub check_unary-conclusion-requires : goal.check_unary-conclusion-requires
check_unary-conclusion-requires c =
    record { leaves = c.requires.leaves; op_nonzero = ((operator_range c.args.op c.requires.op_value.0).0, c.requires.op_value.1) }

pub unary_answer-requires : goal.unary_answer-requires
unary_answer-requires c =
    let check-unary = c.check_unary-conclusion in
    let pre = c.requires in
    let page = c.args.maker.now.page.now in
    let f = formed_by c.args.maker.now.measured in
    rw c.store.ensures.0 record {
      n_bound = unary_leaves page f c.args.op pre.op_value.0 c.args.x.checked pre.op_value.1 check-unary.result _
          check-unary.ensures.page_after _ c.count-n.result (rw c.store-store.ensures.0 at c.count-n.ensures) pre.leaves;
      checked_bound = unary_used page f c.args.op pre.op_value.0 c.args.x.checked pre.op_value.1 check-unary.result _
          check-unary.ensures.page_after _ c.in-Ok.is;
    }

pub take_back-requires : goal.take_back-requires
take_back-requires c =
    let check-unary = c.check_unary-conclusion in
    let pre = c.requires in
    let page = c.args.maker.now.page.now in
    grown_asks page _ _ (measured_by c.args.maker.now.measured) _
    (unary_grown page (formed_by c.args.maker.now.measured) c.args.op pre.op_value.0 c.args.x.checked pre.op_value.1 check-unary.result _
    check-unary.ensures.page_after) c.place_of-end.result
    (end_there page c.count-n.result c.place_of-end.result (rw c.store-store.ensures.0 at c.count-n.ensures) (rw c.store-store.ensures.0 at c.place_of-end.ensures))

pub returns-in-Ok : goal.returns-in-Ok
returns-in-Ok c =
    let check-unary = c.check_unary-conclusion in
    let unary-answer = c.unary_answer in
    let page = c.args.maker.now.page.now in
    let k =
    unary_is page (check_unary page c.args.op c.args.x.checked) check-unary.result _ check-unary.ensures.page_after
    c.args.op c.args.x.unit _ c.in-Ok.is in
    let e = rw c.store.ensures.0 at unary-answer.ensures in
    record { value = ap Ok e.value ∙ k.0; page_after = k.1; leaves_2 = e.leaves; same = check-unary.ensures.same }

pub returns-in-Err : goal.returns-in-Err
returns-in-Err c =
    let check-unary = c.check_unary-conclusion in
    let take-back = c.take_back in
    let pre = c.requires in
    let page = c.args.maker.now.page.now in
    let grown =
    unary_grown page (formed_by c.args.maker.now.measured) c.args.op pre.op_value.0 c.args.x.checked pre.op_value.1 check-unary.result _ check-unary.ensures.page_after in
    let k =
    unary_stopped page (check_unary page c.args.op c.args.x.checked) check-unary.result _ check-unary.ensures.page_after
    c.args.op c.args.x.unit _ c.in-Err.is in
    let back =
    rw (c.front-front.ensures, c.store-store.ensures.0) at take-back.ensures
    ∙ grown_back page _ _ (measured_by c.args.maker.now.measured) _ grown c.place_of-end.result
    (end_there page c.count-n.result c.place_of-end.result (rw c.store-store.ensures.0 at c.count-n.ensures) (rw c.store-store.ensures.0 at c.place_of-end.ensures)) in record { value = k.0; page_after = back ∙ k.1; leaves_2 = rw back pre.leaves; same = check-unary.ensures.same }

pub invariant_of-maker : goal.invariant_of-maker
invariant_of-maker c =
    let check-unary = c.check_unary-conclusion in
    let pre = c.requires in
    let page = c.args.maker.now.page.now in
    let f = formed_by c.args.maker.now.measured in
    let grown =
    unary_grown page f c.args.op pre.op_value.0 c.args.x.checked pre.op_value.1 check-unary.result _ check-unary.ensures.page_after in
    let back =
    rw (c.front-front.ensures, c.store-store.ensures.0) at c.take_back.ensures
    ∙ grown_back page _ _ (measured_by c.args.maker.now.measured) _ grown c.place_of-end.result
    (end_there page c.count-n.result c.place_of-end.result (rw c.store-store.ensures.0 at c.count-n.ensures) (rw c.store-store.ensures.0 at c.place_of-end.ensures)) in record { measured = ∣ rw back (measured_back page _ _ _ f grown (measured_by check-unary.new.maker.measured)) ∣₁ }
