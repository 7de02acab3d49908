-- The table is made, and the pair enters it. Assumes nothing.
use mathlib.Core.Path.{ap, ◌∙◌}
use Rattle.std.specs.Result.{is_ok}
use Rattle.pages.specs.Quant.{all_to, any_to, first_to}
use Rattle.pages.specs.Bytes.{eqs, zeros}
use Rattle.pages.specs.Pad.{pad}
use Rattle.names.specs.Table.{digit, name_byte, well_named, offset, name_at, named, good_at, formed as names_formed}
use Rattle.names.specs.Calls.{lent_broken, used_of, is_used}
use Rattle.groups.specs.Groups.{parents_of, enter_all, enter, walk, selves}
use Rattle.pairs.specs.Table.{pairs_in, formed as table_formed}
use Rattle.pairs.specs.Page.{table_in, holds, formed as page_formed}
use Rattle.pairs.specs.Calls.{empty_verdict, empty_page, table_broken, pair_verdict}
use Rattle.executed.proofs.inch_table.Goals as goal

pub expect-requires : goal.expect-requires
unfolding empty_verdict
expect-requires c = c.is_ok.ensures.value ∙ ap is_ok c.empty_pairs.ensures.0

pub expect-requires-2 : goal.expect-requires-2
unfolding pair_verdict empty_page empty_verdict table_broken page_formed holds table_in table_formed pairs_in parents_of enter_all enter walk selves pad
    is_used used_of lent_broken names_formed good_at named name_at offset well_named name_byte digit eqs zeros all_to any_to first_to
expect-requires-2 c = let e = rw c.empty_pairs.ensures.1 at c.insert_pair.ensures in c.is_ok-2.ensures.value ∙ ap is_ok e.0
