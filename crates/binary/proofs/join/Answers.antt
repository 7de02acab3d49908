use Rattle.std.proofs.Common.{rules, sym}
use Rattle.std.proofs.lemmas.Option.{cond_some}
use Rattle.pages.proofs.Options.{none_cond}
use Rattle.operators.specs.Outcome.{number_of}
use Rattle.binary.proofs.Tallies.{fails_on, passes_on}
use Rattle.binary.proofs.join.Goals as goal

pub returns-in-Some : goal.returns-in-Some
returns-in-Some c =
    let a = c.args in
    let t = cond_some _ (number_of a.o.checked) c.in-Some.t (sym c.in-Some.ensures) in
    ((λ q e. rw (c.or.ensures, ← t.1) (passes_on a.x a.y a.o a.tally q e t.0)), search rules)

pub returns-in-None : goal.returns-in-None
returns-in-None c =
    let a = c.args in
    ((λ q e. rw c.failed_at.ensures.0 (fails_on a.x a.y a.o a.tally q e (none_cond _ (number_of a.o.checked) c.in-None.ensures))), search rules)
