use Rattle.std.proofs.Common.{arith}
use Rattle.marks.proofs.Marks.{noted_none}
use Rattle.answers.proofs.index_over.Goals as goal

pub whole_as_slice-index_checked : goal.whole_as_slice-index_checked
whole_as_slice-index_checked g c = omega (arith, c.requires.n_bound)

pub index_checked-requires-clause-noted : goal.index_checked-requires-clause-noted
index_checked-requires-clause-noted g c = noted_none _ g.row.N
