use Rattle.std.proofs.Common.{rules, tests, arith, ◌≡◌, ◌∙◌, refl}
use Rattle.std.specs.List.{range_with_len, list_all}
use Rattle.std.proofs.iter.Serving.{serving}
use Rattle.std.proofs.lemmas.Iterator.{YieldsList-from_range, serves_from_Range}
use Rattle.std.proofs.lemmas.Iterator.Search.{all_from_yields_List}
use Rattle.pages.proofs.Ranges.{all_ranged}
use Rattle.types.specs.Store.{is_below}
use Rattle.types.proofs.are_below.Goals as goal

pub all-requires-clause-callable : goal.all-requires-clause-callable
all-requires-clause-callable c =
    serves_from_Range (λ i q h. search (rules, tests)) (λ i low high. search (rules, serving))

pub returns : goal.returns
returns c =
    let a = c.args in
    let test = is_below a.page.now a.o a.t in
    let all : c.all.result ≡ list_all test (range_with_len 0 a.k) = all_from_yields_List test _ _ _ c.all.ensures.ran (YieldsList-from_range 0 a.k a.k refl (omega arith)) (λ x b q h. search (rules, tests)) in
    all ∙ all_ranged test a.k
