use Rattle.std.proofs.Common.{rules, tests, ap, ◌∙◌, eqb}
use Rattle.std.specs.Prelude.{option_map}
use Rattle.std.proofs.lemmas.Iterator.{YieldsList-from_slice}
use Rattle.std.proofs.lemmas.Iterator.Search.{find_from_yields_List}
use Rattle.pairs.specs.Table.{said}
use Rattle.pairs.specs.Calls.{factor_said}
use Rattle.pairs.proofs.factor_in.Goals as goal

pub returns-in_err-body : goal.returns-in_err-body
returns-in_err-body c =
    let found = find_from_yields_List (λ b. eqb (said b).symbol c.args.symbol) _ _ _ c.find.ensures.ran (YieldsList-from_slice c.args.bodies.now cc) (λ x b q h. search (rules, tests)) in
    c.from_residual.ensures ∙ ap (option_map factor_said) (rw c.in_err-body.was at found)

pub returns : goal.returns
returns c =
    let found = find_from_yields_List (λ b. eqb (said b).symbol c.args.symbol) _ _ _ c.find.ensures.ran (YieldsList-from_slice c.args.bodies.now cc) (λ x b q h. search (rules, tests)) in
    rw (c.factor_of.ensures, c.symbols_of.ensures.1) (ap (option_map factor_said) (rw c.in_ok-body.was at found))
