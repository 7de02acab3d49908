use Rattle.std.specs.Prelude.{option_copied}
use Rattle.calls.proofs.Formulas.{formula_few}
use Rattle.calls.proofs.riddlepoppy_check_formula.Goals as goal

pub written_formula-requires : goal.written_formula-requires
written_formula-requires c =
    let a = c.args in
    rw c.check_formula-formula.ensures.0 (formula_few a.page.now (option_copied c.lent_names-names.result) a.table.now a.nodes.now a.root)
