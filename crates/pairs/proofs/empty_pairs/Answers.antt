use mathlib.Core.Path.{◌∙◌, ap}
use native.Mathlib.Omega.{arith}
use lib.ListN.{length, length-replicate}
use Rattle.names.specs.Table.{names_max}
use Rattle.groups.specs.Groups.{selves}
use Rattle.groups.proofs.UnionFind.{length_selves, selves_below}
use Rattle.pairs.proofs.Page.{low_below}
use Rattle.pairs.proofs.Calls.{empty_short, empty_made}
use Rattle.pairs.proofs.empty_pairs.Goals as goal

pub returns-then-page-size_of : goal.returns-then-page-size_of
returns-then-page-size_of c =
    empty_short c.args.page.now (rw c.size_of.ensures at c.if-page-size_of.true)

pub put_low_bytes-requires : goal.put_low_bytes-requires
put_low_bytes-requires c =
    let long = rw c.size_of.ensures at c.if-page-size_of.false in
    let l = ap length c.clear.ensures ∙ length-replicate (length c.args.page.now) 0 in
    let n = ap length c.own_parents-parents.ensures ∙ length_selves 0 names_max in
    omega (arith, long, l, n)

pub returns : goal.returns
returns c =
    let m = empty_made c.args.page.now (rw c.size_of.ensures at c.if-page-size_of.false) in
    let own = low_below (selves 0 names_max) (length_selves 0 names_max) (selves_below names_max) in
    (m.0, c.put_low_bytes.ensures ∙ rw (c.clear.ensures, c.own_parents-parents.ensures, own) m.1)
