use Rattle.pairs.proofs.fresh_table.Goals as goal

pub returns : goal.returns
returns c = rw c.own_parents.ensures
