use Rattle.pairs.proofs.Page.{table_read}
use Rattle.pairs.proofs.table_in.Goals as goal

pub returns : goal.returns
returns c =
    let k = c.count-k in
    table_read c.args.page.now k.result c.parents_at-at.result k.ensures.0
    c.parents_at-at.ensures
    (rw k.ensures.0 c.requires.few)
    (rw k.ensures.0 c.requires.room) _ _
    c.put_bytes.ensures c.parents_of-parents.ensures.0
