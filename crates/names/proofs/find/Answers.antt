use mathlib.Core.Path.{◌≡◌, refl, sym, ◌∙◌}
use native.Mathlib.Omega.{arith}
use Rattle.names.proofs.Table.{offset_ge, step_in, step_at, name_there, found_at}
use Rattle.names.specs.Table.{offset}
use Rattle.pages.proofs.Quant.{any_none, any_more, first_none, first_at}
use Rattle.names.proofs.find.Goals as goal

pub loop-i-init : goal.loop-i-init
unfolding offset
loop-i-init c =
    (omega arith, refl, let z = offset_ge c.args.page.now c.args.n in omega (arith, c.requires), any_none _)

pub name_from-requires : goal.name_from-requires
name_from-requires c =
    let loop = c.loop-i in
    step_in c.args.page.now loop.i loop.at c.args.n loop.invariant.1 c.loop-i-test.true c.requires

pub returns-then-same : goal.returns-then-same
returns-then-same c =
    let l = c.loop-i in
    let is = c.name_from.ensures ∙ name_there c.args.page.now l.i l.at l.invariant.1 in
    (c.loop-i-test.true, sym (first_at _ _ l.i c.loop-i-test.true l.invariant.3 (found_at c.args.page.now l.i _ c.args.name.now is _ (sym c.same.ensures ∙ c.if-same.true))))

pub name_end-at-requires : goal.name_end-at-requires
name_end-at-requires c =
    let loop = c.loop-i in
    let z = step_in c.args.page.now loop.i loop.at c.args.n loop.invariant.1 c.loop-i-test.true c.requires in omega arith

pub loop-i-preserved : goal.loop-i-preserved
loop-i-preserved c =
    let l = c.loop-i in
    let p = c.args.page.now in
    let more = c.loop-i-test.true in
    let end = c.name_end-at.ensures in
    let z = step_in p l.i l.at c.args.n l.invariant.1 more c.requires in
    let is = c.name_from.ensures ∙ name_there p l.i l.at l.invariant.1 in
    (omega arith, end ∙ step_at p l.i l.at c.args.n l.invariant.1 more c.requires, omega (arith, end, z), any_more _ _ l.invariant.3 (found_at p l.i _ c.args.name.now is _ (sym c.same.ensures ∙ c.if-same.false)))

pub returns : goal.returns
returns c =
    let loop = c.loop-i in
    let e : loop.i ≡ c.args.n = omega arith in first_none _ _ (rw e at loop.invariant.3)
