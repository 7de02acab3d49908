use Rattle.std.proofs.Common.{◌-◌, sym, ◌∙◌}
use Rattle.groups.proofs.UnionFind.{walk_stays}
use Rattle.groups.proofs.Walks.{walk_one, walk_none}
use Rattle.groups.proofs.root.Goals as goal

pub returns-then-up-at : goal.returns-then-up-at
returns-then-up-at c =
    let l = c.loop in
    sym (l.invariant ∙ walk_stays (c.args.steps - l.counter) c.args.parents.now l.at (rw c.parent_of-up.ensures at c.if-up-at.true))

pub loop-preserved : goal.loop-preserved
loop-preserved c =
    let l = c.loop in
    l.invariant ∙ walk_one c.args.steps l.counter c.args.parents.now l.at c.loop-test.true ∙ rw c.parent_of-up.ensures

pub returns : goal.returns
returns c =
    let l = c.loop in
    sym (l.invariant ∙ walk_none c.args.steps l.counter c.args.parents.now l.at c.loop-test.false)
