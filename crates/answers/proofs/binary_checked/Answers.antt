use Rattle.answers.specs.Calls.{binary_checked}
use Rattle.answers.proofs.binary_checked.Goals as goal

pub returns : goal.returns
unfolding binary_checked
returns c = rw (← c.add_unit_mismatch-clash.ensures, ← c.check_binary-o.ensures, ← c.binary_unit.ensures) c.with_unit.ensures
