use Rattle.std.proofs.Common.{◌+◌, ◌*◌}
use Rattle.values.specs.Value.{term_bytes}
use Rattle.values.proofs.Terms.{Reading}
use Rattle.values.proofs.unit_at.Given as goal

abbrev pub invariant-loop-term : goal.invariant-loop-term
invariant-loop-term l = Reading l.bytes l.n l.u (1 + term_bytes * l.term-index) l.term-index
