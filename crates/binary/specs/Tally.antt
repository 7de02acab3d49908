-- How src/ keeps the trials of pairs: the first result alone, since where no pair fails all results are one (`one_result` in
-- proofs/Binary.antt).
use Rattle.std.specs.Prelude.{Option, Some, None, List, [], ◌∷◌, ℕ}
use Rattle.matching.specs.declared.Checked.TheVariants.{Known, Unknown}
use Rattle.operators.specs.Outcome.{no_error, one_error, outcome}
use Rattle.operators.specs.declared.Reason.TheVariants.{NoMember}
use Rattle.operators.specs.declared.Failing.{Failing}
use Rattle.operators.specs.declared.Errors.{Errors}
use Rattle.operators.specs.declared.Outcome.{Outcome}
use Rattle.members.specs.Trials.{Tried}
use Rattle.binary.specs.declared.Tally.{Tally}

-- the first result
abbrev pub first_in : List ℕ → Option ℕ
first_in [] = None
first_in (t ∷ ts) = Some t

abbrev pub tally_of : Tried → Tally
tally_of q = record { first = first_in q.results; failing = q.failed }

-- what they come to, by the pairs that fail and the first result
abbrev pub settle_by : Option Failing → Option ℕ → Outcome
settle_by (Some f) t = outcome Unknown (Errors.SomeFail f)
settle_by None (Some t) = outcome (Known t) no_error
settle_by None None = outcome Unknown (one_error NoMember)

unfoldable pub settle_tally : Tally → Outcome
settle_tally w = settle_by w.failing w.first
