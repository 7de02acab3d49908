use Rattle.answers.proofs.is_formed.Goals as goal

pub returns : goal.returns
returns c = rw (← c.or_empty.ensures) c.is_formed.ensures
