use Rattle.std.proofs.Common.{rules, tests, ◌≡◌, ◌∙◌}
use lib.Dec.{ltb}
use lib.ListN.{take}
use Rattle.std.specs.List.{list_all}
use Rattle.std.proofs.lemmas.Iterator.{YieldsList-from_slice}
use Rattle.std.proofs.lemmas.Iterator.Search.{all_from_yields_List}
use Rattle.pages.proofs.Quant.{all_taken}
use Rattle.bindings.specs.Bindings.{types_below}
use Rattle.bindings.proofs.are_below.Goals as goal

pub returns : goal.returns
unfolding types_below
returns c =
    let a = c.args in
    let types = a.bindings.types in
    let k = a.bindings.count in
    let all : c.all.result ≡ list_all (λ x. ltb x a.t) (take k types) = all_from_yields_List (λ x. ltb x a.t) _ _ _ c.all.ensures.ran (YieldsList-from_slice (take k types) cc) (λ x b q h. search (rules, tests)) in
    all ∙ all_taken (λ x. ltb x a.t) 0 k types (search rules)
