use mathlib.Core.Path.{◌≡◌, refl, ◌∙◌}
use native.Mathlib.Omega.{arith}
use Rattle.names.proofs.Table.{offset_ge, step_in, step_at}
use Rattle.names.specs.Table.{offset}
use Rattle.names.proofs.offset_of.Goals as goal

pub loop-i-init : goal.loop-i-init
unfolding offset
loop-i-init c =
    (omega arith, refl, let z = offset_ge c.args.page.now c.args.n in omega (arith, c.requires))

pub name_end-at-requires : goal.name_end-at-requires
name_end-at-requires c =
    let loop = c.loop-i in
    let z = step_in c.args.page.now loop.i loop.at c.args.n loop.invariant.1 c.loop-i-test.true c.requires in omega arith

pub loop-i-preserved : goal.loop-i-preserved
loop-i-preserved c =
    let loop = c.loop-i in
    let loop-test = c.loop-i-test in
    let end = c.name_end-at.ensures in
    let z = step_in c.args.page.now loop.i loop.at c.args.n loop.invariant.1 loop-test.true c.requires in
    (omega arith, end ∙ step_at c.args.page.now loop.i loop.at c.args.n loop.invariant.1 loop-test.true c.requires, omega (arith, end, z))

pub returns : goal.returns
returns c =
    let loop = c.loop-i in
    let e : loop.i ≡ c.args.n = omega arith in rw e at loop.invariant.1
