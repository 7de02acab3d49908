use mathlib.Core.Path.{sym, ◌∙◌}
use Rattle.groups.specs.Groups.{walk}
use Rattle.answers.specs.Units.{clashes}
use Rattle.answers.proofs.Units.{clash_by}
use Rattle.answers.proofs.add_unit_mismatch.Goals as goal

pub returns-then-is_dimensionless : goal.returns-then-is_dimensionless
unfolding clashes
returns-then-is_dimensionless c = rw (← c.is_dimensionless.ensures, c.if-is_dimensionless.true)

pub returns-then-is_dimensionless-2 : goal.returns-then-is_dimensionless-2
unfolding clashes
returns-then-is_dimensionless-2 c =
    let is-dimensionless = c.is_dimensionless in
    let if1 = c.if-is_dimensionless in
    let is-dimensionless2 = c.is_dimensionless-2 in
    rw (← is-dimensionless.ensures, if1.false, ← is-dimensionless2.ensures, c.if-is_dimensionless-2.true)

pub convertible-requires : goal.convertible-requires
convertible-requires c =
    (rw c.or_empty-a.ensures c.requires.0, rw c.or_empty-b.ensures c.requires.1)

pub returns : goal.returns
returns c =
    clash_by (walk c.args.groups.steps c.args.groups.parents.now) c.args.left.unit c.args.right.unit
    (sym c.is_dimensionless.ensures ∙ c.if-is_dimensionless.false) (sym c.is_dimensionless-2.ensures ∙ c.if-is_dimensionless-2.false) c.convertible.result
    (rw (c.or_empty-a.ensures, c.or_empty-b.ensures) at c.convertible.ensures)
