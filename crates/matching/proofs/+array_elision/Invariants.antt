use mathlib.Core.Path.{◌≡◌}
use mathlib.Core.Bool.{true}
use Prim.Native.Nat.{◌+◌, ◌*◌}
use Rattle.pages.specs.Quant.{all_to}
use Rattle.matching.specs.Matching.{null_array_elision}
use Rattle.marks.specs.Marks.{Noted}
use Rattle.matching.specs.Memo.{Found}
use Rattle.matching.proofs.Elision.{elided}
use Rattle.matching.proofs.+array_elision.Given as goal

abbrev pub decreases-null_array_elision : goal.decreases-null_array_elision
decreases-null_array_elision l = 2 * l.a + 1

abbrev pub decreases-elide_sequences : goal.decreases-elide_sequences
decreases-elide_sequences l = 2 * l.a

abbrev pub invariant-elide_sequences-loop-i : goal.invariant-elide_sequences-loop-i
invariant-elide_sequences-loop-i l =
    Noted (Found l.store.page.now) l.memo × (all_to l.i (elided l.store.page.now (null_array_elision l.store.page.now) l.a l.b) ≡ true)
