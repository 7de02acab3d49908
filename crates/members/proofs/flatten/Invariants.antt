use mathlib.Core.Path.{◌≡◌}
use lib.ListN.{length}
use Rattle.pages.specs.Bytes.{put}
use Rattle.members.specs.Members.{gather}
use Rattle.members.proofs.Flattening.{shares}
use Rattle.members.proofs.flatten.Given as goal

abbrev pub invariant-loop-i : goal.invariant-loop-i
invariant-loop-i l = (l.n ≡ length (gather l.i (shares l.store.page.now l.t))) × (l.types ≡ put l.initial.types 0 (gather l.i (shares l.store.page.now l.t)))
