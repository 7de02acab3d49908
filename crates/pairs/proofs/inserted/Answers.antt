use Rattle.std.proofs.Common.{sym}
use mathlib.Core.Path.{◌∙◌}
use Rattle.groups.specs.Groups.{pair}
use Rattle.pairs.proofs.Table.{both_below, form}
use Rattle.pairs.proofs.inserted.Goals as goal

pub with_pair-requires : goal.with_pair-requires
with_pair-requires c =
    let a = c.args in
    let f = form a.t a.n (sym c.is_table.ensures ∙ c.if-not-is_table.false) in
    let u = both_below a.n (pair a.symbol a.base) (sym c.are_used.ensures ∙ c.if-not-are_used.false) in
    record { count_lt_pairs_max = (c.if-k-ge-PAIRS.false, f.given); symbol_lt_names_max = u }
