use Rattle.std.proofs.Common.{◌≡◌, ◌+◌, ◌*◌}
use Rattle.std.specs.Iterator.Adapters.{enumerate_source, enumerate_count}
use Rattle.values.specs.Value.{term_bytes}
use Rattle.values.proofs.Terms.{Writing}
use Rattle.values.proofs.write_terms.Given as goal

abbrev pub invariant-loop-i : goal.invariant-loop-i
invariant-loop-i l =
    let terms = enumerate_source l.i-iterator in
    (terms.unit.now ≡ l.fn.u) × (enumerate_count l.i-iterator ≡ terms.at) × Writing l.initial.out l.fn.u l.out (1 + term_bytes * terms.at) terms.at
