-- What a call that matches leaves as it was: the store, and which table is lent.
use Rattle.std.specs.Prelude.{◌≡◌}
use Rattle.matching.specs.declared.Matcher.{Matcher}

abbrev pub Same : Matcher → Matcher → Type 0
Same new old = (new.store ≡ old.store) × (new.table.ghost_name ≡ old.table.ghost_name)
