-- "The lowest number that applies comes first" (document 01, below the table): a call lists its conditions, and of the refusals
-- that apply the first in the order of refusals is given, in whatever order they are listed.
use Rattle.std.specs.Prelude.{Bool, cond, List, [], ◌∷◌, leb, Result, Ok, Err}
use Rattle.refusals.specs.Numbers.{rank_of, Verdict}
use Rattle.refusals.specs.declared.Refusal.{Refusal}

infix 20 ◌when◌
-- a refusal, and whether its condition holds of the call's input
pub data Condition : Type 0 where
  ◌when◌ : Refusal → Bool → Condition

-- of a refusal and a verdict, what comes first
abbrev pub lower : Refusal → Verdict → Verdict
lower r (Ok _) = Err r
lower r (Err s) = Err (cond (leb (rank_of r) (rank_of s)) r s)

-- the first refusal that applies
abbrev pub lowest : List Condition → Verdict
lowest [] = Ok tt
lowest ((r when b) ∷ cs) = cond b (lower r (lowest cs)) (lowest cs)

-- a value that only a call that passes changes
abbrev pub unless_refused : {A B : Type 0} → Result B Refusal → A → A → A
unless_refused (Ok _) new old = new
unless_refused (Err r) new old = old

-- what a call that passes answers, or the refusal
abbrev pub answer_of : {A : Type 0} → Verdict → A → Result A Refusal
answer_of (Ok _) answer = Ok answer
answer_of (Err r) answer = Err r

-- an answer, or the refusal of a call that does not come to it
abbrev pub guarded : {A : Type 0} → Verdict → Result A Refusal → Result A Refusal
guarded (Ok _) answer = answer
guarded (Err r) answer = Err r
