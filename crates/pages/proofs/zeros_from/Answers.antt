use Rattle.std.proofs.Common.{rules, ◌≡◌, ap, sym, ◌∙◌, length, le_refl, tests}
use Rattle.std.specs.List.{list_all}
use Rattle.std.proofs.lemmas.Iterator.{YieldsList-from_slice}
use Rattle.std.proofs.lemmas.Iterator.Search.{all_from_yields_List}
use Rattle.std.proofs.lemmas.Slice.{between_to_end}
use Rattle.pages.specs.Bytes.{zeros}
use Rattle.pages.proofs.Blocks.{zeros_cut}
use Rattle.pages.proofs.zeros_from.Goals as goal

pub returns-then-all : goal.returns-then-all
returns-then-all c =
    let a = c.args in
    let k = c.as_chunks in
    let all : c.all.result ≡ list_all zeros k.result.0.now = all_from_yields_List zeros _ _ _ c.all.ensures.ran (YieldsList-from_slice k.result.0.now cc) (λ x b q h. search (rules, tests)) in
    let e = sym all ∙ c.if-all.true in
    c.bits_of.ensures ∙ (rw e at (zeros_cut _ k.result.0.now k.result.1.now _ k.ensures.front k.ensures.back)) ∙ ap zeros (between_to_end a.page.now a.at (length a.page.now) (le_refl _))

pub returns-else-all : goal.returns-else-all
returns-else-all c =
    let a = c.args in
    let k = c.as_chunks in
    let all : c.all.result ≡ list_all zeros k.result.0.now = all_from_yields_List zeros _ _ _ c.all.ensures.ran (YieldsList-from_slice k.result.0.now cc) (λ x b q h. search (rules, tests)) in
    let e = sym all ∙ c.if-all.false in
    c.if-all.false ∙ (rw e at (zeros_cut _ k.result.0.now k.result.1.now _ k.ensures.front k.ensures.back)) ∙ ap zeros (between_to_end a.page.now a.at (length a.page.now) (le_refl _))
