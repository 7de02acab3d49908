use Rattle.types.proofs.Surveyed.{Going}
use Rattle.types.proofs.survey.Given as goal

abbrev pub invariant-loop-j : goal.invariant-loop-j
invariant-loop-j l = Going l.page l.n l.k l.initial.tables.offsets l.initial.tables.depths l.chains.heads l.chains.links l.tables.offsets l.tables.depths l.o l.j
