use Rattle.std.specs.Prelude.{option_copied}
use Rattle.std.proofs.Common.{sym}
use mathlib.Core.Path.{◌∙◌}
use Rattle.std.proofs.lemmas.Result.{IfOk-at_ok}
use Rattle.calls.proofs.Types.{read_small}
use Rattle.calls.proofs.riddlepoppy_read_type.Goals as goal

pub map-requires : goal.map-requires
map-requires c = λ s e.
    let a = c.args in
    IfOk-at_ok _ (sym c.read_type.ensures ∙ e) (read_small a.page.now (option_copied c.lent_names-names.result) a.t)
