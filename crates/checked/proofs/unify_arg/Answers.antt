use Rattle.std.specs.Prelude.{option_copied}
use mathlib.Core.Path.{sym, ◌∙◌}
use Rattle.checked.proofs.Calls.{unify_passed, unify_stopped}
use Rattle.checked.proofs.unify_arg.Goals as goal

pub returns-in-Ok : goal.returns-in-Ok
returns-in-Ok c =
    let a = c.args in
    c.kept_by.ensures ∙ unify_passed a.page.now (option_copied a.names) a.bound a.e a.actual c.in-Ok.out (sym c.in-Ok.is ∙ c.unify_tested.ensures)

pub returns-in-Err : goal.returns-in-Err
returns-in-Err c =
    let a = c.args in
    c.refuse.ensures ∙ unify_stopped a.page.now (option_copied a.names) a.bound a.e a.actual c.in-Err.r (sym c.in-Err.is ∙ c.unify_tested.ensures)
