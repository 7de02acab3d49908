use mathlib.Core.Path.{◌∙◌}
use Rattle.names.specs.Table.{names_max}
use Rattle.units.specs.Unit.{places_max}
use Rattle.units.proofs.Form.{formed_count}
use Rattle.units.proofs.Held.{places_of}
use Rattle.groups.specs.Groups.{walk}
use Rattle.sums.proofs.Roots.{roots_count, roots_inside, roots_sums}
use Rattle.sums.proofs.group_sums.Goals as goal

pub rooted-requires : goal.rooted-requires
rooted-requires c =
    formed_count places_max names_max (places_of c.args.u) c.requires

pub gathered-requires : goal.gathered-requires
gathered-requires c =
    let g = c.args in
    let root = walk g.groups.steps g.groups.parents.now in (
      roots_count root g.u c.rooted.result c.requires c.rooted.ensures,
      roots_inside root g.u c.rooted.result c.requires c.rooted.ensures,
    )

pub returns : goal.returns
returns c =
    let rooted = c.rooted in
    let g = c.args in
    c.gathered.ensures ∙ roots_sums (walk g.groups.steps g.groups.parents.now) g.u rooted.result c.requires rooted.ensures
