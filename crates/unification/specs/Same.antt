-- What a call that unifies leaves as it was: the store, and which tables are lent.
use Rattle.std.specs.Prelude.{◌≡◌}
use Rattle.matching.specs.Same as matching
use Rattle.unification.specs.declared.Unifier.{Unifier}

abbrev pub Same : Unifier → Unifier → Type 0
Same new old = matching.Same new.matcher old.matcher × (new.seen.ghost_name ≡ old.seen.ghost_name)
