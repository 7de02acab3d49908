-- Each answer is what the definition computes. Assumes nothing.
use mathlib.Core.Path.{◌≡◌, ap, ap₂, ◌∙◌}
use mathlib.Core.Bool.{true, false}
use mathlib.Core.List.{[], ◌∷◌}
use lib.IntN.{pos}
use Rattle.refusals.specs.Numbers.{code_of}
use Rattle.pages.specs.Pad.{pad}
use Rattle.units.specs.Unit.{term, formed}
use Rattle.units.specs.Product.{product_of, product_verdict}
use Rattle.units.specs.Calls.{unit_of, product_answer}
use Rattle.executed.proofs.expect_units.Goals as goal

pub expect_code-requires : goal.expect_code-requires
unfolding pad formed product_verdict product_of product_answer
expect_code-requires c =
    let e : c.product-quotient.result ≡ product_answer true (unit_of (term 0 (pos 1000) ∷ [])) (unit_of (term 0 (pos 1) ∷ [])) = c.product-quotient.ensures ∙ ap₂ (product_answer true) c.power-large.ensures c.power-metre.ensures in
    ap code_of e

pub expect_code-requires-2 : goal.expect_code-requires-2
unfolding pad formed product_verdict product_of product_answer
expect_code-requires-2 c =
    let e : c.product-product.result ≡ product_answer false (unit_of (term 0 (pos 1000) ∷ [])) (unit_of (term 0 (pos 1) ∷ [])) = c.product-product.ensures ∙ ap₂ (product_answer false) c.power-large.ensures c.power-metre.ensures in
    ap code_of e
