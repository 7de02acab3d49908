use Rattle.std.proofs.lemmas.Bool.Decides.{same_from_decides}
use Rattle.names.specs.Table.{names_max}
use Rattle.units.specs.Calls.{terms_of}
use Rattle.groups.specs.Groups.{walk}
use Rattle.sums.proofs.Held.{equal_sums}
use Rattle.sums.proofs.Convert.{convertible_sums}
use Rattle.sums.proofs.convertible.Goals as goal

pub returns : goal.returns
returns c =
    let g = c.args in
    let root = walk g.groups.steps g.groups.parents.now in
    same_from_decides _ _
    (equal_sums root g.left g.right c.requires.0 c.requires.1 _ _ c.group_sums-a.ensures c.group_sums-b.ensures _ c.eq.ensures)
    (convertible_sums names_max root (terms_of g.left) (terms_of g.right))
