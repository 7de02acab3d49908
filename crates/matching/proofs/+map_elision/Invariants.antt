use mathlib.Core.Path.{◌≡◌}
use mathlib.Core.Bool.{true}
use Prim.Native.Nat.{◌+◌, ◌*◌}
use Rattle.pages.specs.Quant.{all_to}
use Rattle.matching.specs.Matching.{null_map_elision}
use Rattle.marks.specs.Marks.{Noted}
use Rattle.matching.specs.Memo.{Found}
use Rattle.matching.proofs.Elision.{part_rule, elided}
use Rattle.matching.proofs.+map_elision.Given as goal

abbrev pub decreases-null_map_elision : goal.decreases-null_map_elision
decreases-null_map_elision l = 2 * l.a + 1

abbrev pub decreases-elide_maps : goal.decreases-elide_maps
decreases-elide_maps l = 2 * l.a

abbrev pub invariant-elide_maps-loop-i : goal.invariant-elide_maps-loop-i
invariant-elide_maps-loop-i l =
    Noted (Found l.store.page.now) l.memo × (all_to l.i (elided l.store.page.now (part_rule l.store.page.now (null_map_elision l.store.page.now)) l.a l.b) ≡ true)
