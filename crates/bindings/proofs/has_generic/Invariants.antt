use Rattle.std.proofs.Common.{◌≡◌, length}
use Rattle.types.specs.Store.{types_max}
use Rattle.bindings.specs.Generics.{Told}
use Rattle.bindings.proofs.has_generic.Given as goal

abbrev pub invariant-loop-i : goal.invariant-loop-i
invariant-loop-i l = (length l.found ≡ types_max) × Told l.store.page.now l.found l.i
