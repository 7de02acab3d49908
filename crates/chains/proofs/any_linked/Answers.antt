use native.Mathlib.Omega.{arith}
use Rattle.chains.proofs.Walk.{walking_start, walking_found, walking_on, walking_end}
use Rattle.chains.proofs.any_linked.Goals as goal

pub loop-k-init : goal.loop-k-init
loop-k-init g c = walking_start _ _ _ c.requires.linked

pub returns-then-test : goal.returns-then-test
returns-then-test g c =
    walking_found _ _ _ c.requires.linked c.loop-k.next c.in-Some.k (omega (arith, c.in-Some.ensures)) c.loop-k.invariant c.if-test.ensures

pub loop-k-preserved : goal.loop-k-preserved
loop-k-preserved g c =
    walking_on _ _ _ c.requires.linked c.loop-k.next c.in-Some.k (omega (arith, c.in-Some.ensures)) c.loop-k.invariant c.if-test.ensures
    c.from-next.result c.from-next.ensures

pub returns : goal.returns
returns g c = walking_end _ _ _ c.loop-k.next (omega (arith, c.in_default.ensures)) c.loop-k.invariant
