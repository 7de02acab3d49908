use mathlib.Core.Path.{◌≡◌, ap, ◌∙◌}
use borrow.Author.Rules.{rules}
use lib.ListN.{length}
use native.Mathlib.Omega.{arith}
use Rattle.names.specs.Table.{names_max}
use Rattle.groups.proofs.UnionFind.{length_selves}
use Rattle.pairs.proofs.parents_of.Goals as goal

pub read_bytes-requires : goal.read_bytes-requires
read_bytes-requires c =
    let size = ap length c.own_parents-parents.ensures ∙ length_selves 0 names_max in
    omega (arith, size, c.parents_at-at.ensures, c.count.ensures.0, c.requires.room)

pub returns : goal.returns
returns c =
    let size : length c.own_parents-parents.result ≡ names_max = ap length c.own_parents-parents.ensures ∙ length_selves 0 names_max in
    (c.read_bytes.ensures ∙ rw (size, c.parents_at-at.ensures, c.count.ensures.0), search rules)
