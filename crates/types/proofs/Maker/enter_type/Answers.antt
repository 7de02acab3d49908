use mathlib.Core.Path.{◌∙◌}
use Rattle.types.specs.Making.{entry_of}
use Rattle.types.proofs.Entries.{entry_front}
use Rattle.types.proofs.Maker.enter_type.Goals as goal

pub enter-requires : goal.enter-requires
enter-requires c =
    let a = c.args in
    rw (c.as_slice.ensures ∙ entry_front (entry_of a.kind a.children.now a.name) _ c.entry_of-entry.ensures) c.requires.ready

pub returns-clause-value : goal.returns-clause-value
returns-clause-value c =
    let a = c.args in
    rw (c.as_slice.ensures ∙ entry_front (entry_of a.kind a.children.now a.name) _ c.entry_of-entry.ensures) at c.enter.ensures.value
