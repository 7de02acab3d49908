use mathlib.Core.Path.{sym, ◌∙◌}
use native.Mathlib.Nat.{le_refl}
use Rattle.names.specs.Table.{names_max}
use Rattle.names.proofs.Calls.{add_broken}
use Rattle.names.proofs.add_name.Goals as goal

pub insert_name-requires : goal.insert_name-requires
insert_name-requires c =
    let is-formed = c.is_formed in
    (sym is-formed.ensures ∙ c.if-is_formed.true, le_refl names_max)

pub returns : goal.returns
returns c =
    add_broken names_max c.args.page.now c.args.name.now (sym c.is_formed.ensures ∙ c.if-is_formed.false)
