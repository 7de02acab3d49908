use Rattle.std.proofs.Common.{sym}
use Rattle.std.proofs.lemmas.Result.{err_from_is_err_and}
use mathlib.Core.Path.{◌∙◌}
use Rattle.pairs.proofs.Table.{insert_ok, insert_err}
use Rattle.pairs.proofs.insert.Goals as goal

pub returns-in_err-table : goal.returns-in_err-table
returns-in_err-table c =
    let p = err_from_is_err_and c.from_residual.result c.from_residual.ensures.1 in
    let a = c.args in
    let is = insert_err a.table.now a.n a.symbol a.factor a.base _ (sym c.in_err-table.was ∙ c.inserted.ensures) in
    record { verdict = rw (p.1, p.2) is.0; table_after = is.1 }

pub returns : goal.returns
returns c =
    let a = c.args in
    let is = insert_ok a.table.now a.n a.symbol a.factor a.base _ (sym c.in_ok-table.was ∙ c.inserted.ensures) in
    record { verdict = is.0; table_after = is.1 }
