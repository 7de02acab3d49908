use mathlib.Core.Path.{◌≡◌}
use Rattle.pages.specs.Bytes.{put}
use Rattle.members.specs.Members.{gather}
use Rattle.members.proofs.Flattening.{alone}
use Rattle.members.proofs.add_share.Given as goal

abbrev pub invariant-loop-i : goal.invariant-loop-i
invariant-loop-i l = (l.types ≡ put l.initial.types l.n (gather l.i (alone l.store.page.now l.x)))
