use Rattle.std.proofs.Common.{rules, tests, ◌≡◌, ◌∙◌}
use Rattle.std.specs.List.{list_all}
use Rattle.std.proofs.lemmas.Iterator.{YieldsList-from_slice}
use Rattle.std.proofs.lemmas.Iterator.Search.{all_from_yields_List}
use Rattle.pages.proofs.Quant.{all_listed}
use Rattle.names.specs.Table.{name_byte}
use Rattle.names.proofs.Table.{named_all}
use Rattle.names.proofs.is_name.Goals as goal

pub returns-then-not-is_digit : goal.returns-then-not-is_digit
returns-then-not-is_digit c =
    let name = c.args.name.now in
    let all : c.all.result ≡ list_all name_byte name = all_from_yields_List name_byte _ _ _ c.all.ensures.ran (YieldsList-from_slice name cc) (λ x b q h. search (rules, tests)) in
    all ∙ all_listed name_byte 0 name ∙ named_all name (search rules) (search rules) (search rules)
