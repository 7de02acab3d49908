use Rattle.std.proofs.Common.{rules, tests, eqb}
use lib.ListN.{take}
use Rattle.std.proofs.lemmas.Iterator.{YieldsList-from_slice}
use Rattle.std.proofs.lemmas.Iterator.Search.{position_from_yields_List}
use Rattle.pages.proofs.Quant.{found_taken}
use Rattle.bindings.proofs.place_of.Goals as goal

pub returns : goal.returns
returns c =
    let a = c.args in
    let names = a.bindings.names in
    let place = position_from_yields_List (λ x. eqb x a.name) _ _ _ c.position.ensures.ran (YieldsList-from_slice (take a.k names) cc) (λ x b q h. search (rules, tests)) in
    found_taken (λ x. eqb x a.name) 0 a.k names c.position.result (search rules) place
