use Rattle.std.proofs.Common.{ap, ◌∙◌, take_all, arith}
use mathlib.Core.List.{map}
use Rattle.names.specs.Table.{names_max}
use Rattle.groups.specs.Groups.{parents_of}
use Rattle.pairs.specs.Table.{said}
use Rattle.pairs.proofs.Bodies.{said_none, said_next}
use Rattle.pairs.proofs.replayed.Goals as goal

pub loop-i-init : goal.loop-i-init
loop-i-init c = c.own_parents-parents.ensures ∙ said_none c.args.bodies.now

pub loop-i-preserved : goal.loop-i-preserved
loop-i-preserved c =
    let l = c.loop-i in
    c.join.ensures ∙ rw (c.symbols_of-symbol.ensures.0, c.symbols_of-symbol.ensures.1, l.invariant) (said_next c.args.bodies.now l.i c.loop-i-test.true)

pub returns : goal.returns
returns c =
    let l = c.loop-i in
    l.invariant ∙ ap (λ bs. parents_of names_max (map said bs)) (take_all l.i c.args.bodies.now (omega (arith, c.loop-i-test.false)))
