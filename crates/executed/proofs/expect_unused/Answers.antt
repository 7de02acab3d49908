-- The insertion into a fresh table is refused with 3. Assumes nothing.
use mathlib.Core.Path.{ap, ◌∙◌}
use Rattle.refusals.specs.Numbers.{code_of}
use Rattle.pairs.specs.Table.{insertion}
use Rattle.executed.specs.Rows.{in_use_said, factor}
use Rattle.executed.proofs.Wide.{pair_three}
use Rattle.executed.proofs.expect_unused.Goals as goal

pub expect_code-requires : goal.expect_code-requires
expect_code-requires c =
    let x = c.args in
    let e = c.inserted-out.ensures ∙ ap (λ t. insertion t in_use_said x.symbol factor x.base) c.fresh_table.ensures in
    ap code_of e ∙ pair_three in_use_said x.symbol factor x.base c.requires
