use Rattle.std.proofs.Common.{rules, tests, ◌≡◌, ◌∙◌, ap, ℕ}
use lib.ListN.{take}
use Rattle.std.specs.List.{list_all}
use Rattle.std.proofs.lemmas.Iterator.{YieldsList-from_slice}
use Rattle.std.proofs.lemmas.Iterator.Search.{all_from_yields_List}
use Rattle.names.specs.Calls.{is_used}
use Rattle.units.specs.Unit.{in_use}
use Rattle.units.specs.Calls.{terms, filled}
use Rattle.units.proofs.Used.{used_taken}
use Rattle.units.proofs.is_used.Goals as goal

pub returns : goal.returns
returns c =
    let u = c.args.u in
    let n = c.args.n in
    let k = c.filled_in.result in
    let all : c.all.result ≡ list_all (is_used n) (take k u.symbols) = all_from_yields_List (is_used n) _ _ _ c.all.ensures.ran (YieldsList-from_slice (take k u.symbols) cc) (λ x b q h. search (rules, tests)) in
    let e : k ≡ filled u = c.filled_in.ensures.0 in
    all ∙ used_taken n k u.symbols u.exponents (search rules) ∙ ap (λ (m : ℕ). in_use n (terms m 0 u.symbols u.exponents)) e
