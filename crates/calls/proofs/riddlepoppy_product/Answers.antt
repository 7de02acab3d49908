use Rattle.std.proofs.Common.{sym}
use mathlib.Core.Path.{◌∙◌}
use Rattle.std.proofs.lemmas.Result.{IfOk-at_ok}
use Rattle.units.proofs.Calls.{result_few}
use Rattle.calls.proofs.riddlepoppy_product.Goals as goal

pub map-requires : goal.map-requires
map-requires c = λ u e. IfOk-at_ok _ (sym c.product_in.ensures ∙ e) (result_few c.args.quotient _ _)
