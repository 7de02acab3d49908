use Rattle.std.proofs.Common.{rules, tests, ◌≡◌, ◌∙◌}
use lib.Dec.{ltb}
use Rattle.std.specs.List.{list_all}
use Rattle.std.proofs.lemmas.Iterator.{YieldsList-from_slice}
use Rattle.std.proofs.lemmas.Iterator.Search.{all_from_yields_List}
use Rattle.types.proofs.Calls.{below_listed}
use Rattle.types.proofs.all_below.Goals as goal

pub returns : goal.returns
returns c =
    let t = c.args.t in
    let children = c.args.children.now in
    let all : c.all.result ≡ list_all (λ x. ltb x t) children = all_from_yields_List (λ x. ltb x t) _ _ _ c.all.ensures.ran (YieldsList-from_slice children cc) (λ x b q h. search (rules, tests)) in
    all ∙ below_listed t children
