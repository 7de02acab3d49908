use Rattle.std.proofs.Common.{rules, tests, arith, ◌≡◌, ◌<◌, sym, ◌∙◌, refl}
use Rattle.std.specs.List.{range_with_len, list_all}
use Rattle.std.proofs.lemmas.Iterator.{YieldsList-from_range, serves_from_Range}
use Rattle.std.proofs.lemmas.Iterator.Search.{all_from_yields_List}
use Rattle.pages.proofs.Ranges.{all_ranged}
use borrow.Author.Tests.{lt-leb}
use Rattle.bindings.specs.Bindings.{bindings_max, good_binding}
use Rattle.bindings.proofs.Bound.{formed_many, formed_rest}
use Rattle.bindings.proofs.is_formed.Goals as goal

pub all-requires-clause-callable : goal.all-requires-clause-callable
all-requires-clause-callable c =
    serves_from_Range (λ i q h. search (rules, tests)) (λ i low high. let few : i < bindings_max = omega (arith, high, c.if-bindings-le-BINDINGS.true) in search few)

pub returns-then-bindings-le-BINDINGS : goal.returns-then-bindings-le-BINDINGS
returns-then-bindings-le-BINDINGS c =
    let a = c.args in
    let test = good_binding a.n a.t a.bindings in
    let all : c.all.result ≡ list_all test (range_with_len 0 a.bindings.count) = all_from_yields_List test _ _ _ c.all.ensures.ran (YieldsList-from_range 0 a.bindings.count a.bindings.count refl (omega arith)) (λ x b q h. search (rules, tests)) in
    formed_rest a.n a.t a.bindings c.if-bindings-le-BINDINGS.true c.all.result (sym (all ∙ all_ranged test a.bindings.count))

pub returns-else-bindings-le-BINDINGS : goal.returns-else-bindings-le-BINDINGS
returns-else-bindings-le-BINDINGS c =
    let a = c.args in
    lt-leb a.bindings.count bindings_max c.if-bindings-le-BINDINGS.false ∙ formed_many a.n a.t a.bindings c.if-bindings-le-BINDINGS.false
