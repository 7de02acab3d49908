use mathlib.Core.Path.{sym, ◌∙◌}
use Rattle.operators.proofs.Table.{row_of_operator}
use Rattle.operators.proofs.row_of.Goals as goal

pub returns-then-is_operator : goal.returns-then-is_operator
returns-then-is_operator c = row_of_operator c.args.op _ (sym c.is_operator.ensures ∙ c.if-is_operator.true)
