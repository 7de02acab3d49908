use Rattle.marks.proofs.Marks.{noted_none}
use Rattle.checked.proofs.matches_over.Goals as goal

pub invariant_of-matcher : goal.invariant_of-matcher
invariant_of-matcher g c = record { noted = ∣ noted_none _ g.row.N ∣₁ }
