use mathlib.Core.Path.{◌∙◌}
use Rattle.pairs.proofs.Page.{held_short, held_many, held_cut, held_rest}
use Rattle.pairs.proofs.holds_table.Goals as goal

pub returns-then-page-lt-COUNT_BYTES : goal.returns-then-page-lt-COUNT_BYTES
returns-then-page-lt-COUNT_BYTES c =
    held_short c.args.page.now c.if-page-lt-COUNT_BYTES.true

pub returns-then-k-gt-PAIRS : goal.returns-then-k-gt-PAIRS
returns-then-k-gt-PAIRS c =
    let count = c.count-k in
    held_many c.args.page.now count.result count.ensures.0 c.if-k-gt-PAIRS.true

pub returns-then-page-end : goal.returns-then-page-end
returns-then-page-end c =
    let count = c.count-k in
    held_cut c.args.page.now count.result
    count.ensures.0 c.if-k-gt-PAIRS.false (rw c.size_of-end.ensures at c.if-page-end.true)

pub returns : goal.returns
returns c =
    let type_size = c.size_of-end in
    let count = c.count-k in
    c.zeros_from.ensures
    ∙ rw type_size.ensures
    (held_rest c.args.page.now count.result count.ensures.0 c.if-k-gt-PAIRS.false (rw type_size.ensures at c.if-page-end.false))
