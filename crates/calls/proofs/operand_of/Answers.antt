use Rattle.calls.proofs.operand_of.Goals as goal

pub returns : goal.returns
returns c = rw c.checked_of.ensures
