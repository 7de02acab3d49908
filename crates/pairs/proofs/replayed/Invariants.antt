use mathlib.Core.Path.{◌≡◌}
use mathlib.Core.List.{map}
use lib.ListN.{take}
use Rattle.names.specs.Table.{names_max}
use Rattle.groups.specs.Groups.{parents_of}
use Rattle.pairs.specs.Table.{said}
use Rattle.pairs.proofs.replayed.Given as goal

abbrev pub invariant-loop-i : goal.invariant-loop-i
invariant-loop-i l = l.parents ≡ parents_of names_max (map said (take l.i l.bodies))
