use mathlib.Core.Path.{sym, ◌∙◌}
use Rattle.members.proofs.Merging.{merge_new}
use Rattle.members.proofs.merge.Goals as goal

pub returns : goal.returns
returns c =
    let a = c.args in
    merge_new a.types.now a.n a.t c.told-types c.requires.0 (sym c.contains.ensures.value ∙ c.if-contains.false)
