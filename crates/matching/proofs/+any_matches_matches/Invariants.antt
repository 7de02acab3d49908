use mathlib.Core.Path.{◌≡◌}
use mathlib.Core.Bool.{true, false}
use Prim.Native.Nat.{◌*◌}
use Rattle.pages.specs.Quant.{any_to, all_to}
use Rattle.marks.specs.Marks.{Noted}
use Rattle.matching.specs.Memo.{has_partner, member_of, Found}
use Rattle.matching.proofs.Matching.{weight, stands}
use Rattle.matching.proofs.+any_matches_matches.Given as goal

abbrev pub decreases-any_matches : goal.decreases-any_matches
decreases-any_matches l = 2 * l.b

abbrev pub decreases-matches : goal.decreases-matches
decreases-matches l = weight l.expected

abbrev pub invariant-any_matches-loop-j : goal.invariant-any_matches-loop-j
invariant-any_matches-loop-j l = Noted (Found l.store.page.now) l.memo × (any_to l.j (stands l.store.page.now l.m l.b) ≡ false)

abbrev pub invariant-any_matches-members : goal.invariant-any_matches-members
invariant-any_matches-members l =
    Noted (Found l.store.page.now) l.memo × (all_to l.i (λ k. has_partner l.store.page.now (member_of l.store.page.now l.a k) l.b) ≡ true)
