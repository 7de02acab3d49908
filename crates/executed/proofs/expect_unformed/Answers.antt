-- By itself, on the left and on the right, a unit out of form is refused with 5. Assumes nothing.
use mathlib.Core.Path.{ap, ◌∙◌}
use mathlib.Core.Bool.{true, false}
use Rattle.refusals.specs.Numbers.{code_of}
use Rattle.units.specs.Calls.{product_answer}
use Rattle.executed.proofs.Wide.{form_five, left_five, right_five}
use Rattle.executed.proofs.expect_unformed.Goals as goal

pub expect_code-requires : goal.expect_code-requires
expect_code-requires c = ap code_of c.unit_form-form.ensures ∙ form_five c.args.u c.requires

pub expect_code-requires-2 : goal.expect_code-requires-2
expect_code-requires-2 c = ap code_of c.product-product.ensures ∙ left_five c.args.u c.requires false c.power-metre.result

pub expect_code-requires-3 : goal.expect_code-requires-3
expect_code-requires-3 c =
    let u = c.args.u in
    ap code_of (c.product-quotient.ensures ∙ ap (λ m. product_answer true m u) c.power-metre.ensures) ∙ right_five u c.requires true
