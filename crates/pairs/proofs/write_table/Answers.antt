use mathlib.Core.Path.{◌≡◌, ◌∙◌}
use native.Mathlib.Omega.{arith}
use lib.ListN.{length}
use Prim.Native.Nat.{◌*◌}
use Rattle.names.specs.Table.{names_max}
use Rattle.pairs.specs.Table.{pairs_max, pair_bytes}
use Rattle.pairs.proofs.Page.{low_below, table_written}
use borrow.Author.Rules.{rules}
use Rattle.pairs.proofs.write_table.Goals as goal

pub slice_bounds-put_bytes-end : goal.slice_bounds-put_bytes-end
slice_bounds-put_bytes-end c =
    let z : length c.args.t.pairs ≡ pair_bytes * pairs_max = search rules in
    omega (arith, z, c.requires.0)

pub put_low_bytes-requires : goal.put_low_bytes-requires
put_low_bytes-requires c =
    let z : length c.args.t.parents ≡ names_max = search rules in
    omega (arith, z, c.parents_at-at.ensures, c.requires.1, c.put_bytes.auto.page)

pub returns : goal.returns
returns c =
    let z : length c.args.t.parents ≡ names_max = search rules in
    let own = low_below c.args.t.parents z c.requires.2 in
    table_written c.args.page.now c.args.t c.parents_at-at.result c.parents_at-at.ensures _ _ _
    c.put_bytes.ensures
    (c.put_low_bytes.ensures ∙ rw own)
    (c.put_bytes-2.ensures ∙ rw c.count_bytes-number.ensures)
