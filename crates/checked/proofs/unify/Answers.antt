use Rattle.std.specs.Prelude.{option_copied}
use mathlib.Core.Path.{◌∙◌}
use Rattle.checked.proofs.Calls.{unify_known}
use Rattle.checked.proofs.unify.Goals as goal

pub returns : goal.returns
returns c =
    let a = c.args in
    c.unify_arg.ensures ∙ unify_known a.page.now (option_copied a.names) a.bound a.e a.a
