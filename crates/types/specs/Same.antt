-- What a call that makes types leaves as it was: which page and which tables are lent.
use Rattle.std.specs.Prelude.{◌≡◌}
use Rattle.types.specs.declared.Maker.{Maker}

abbrev pub Same : Maker → Maker → Type 0
Same new old = (new.page.ghost_name ≡ old.page.ghost_name) × (new.tables.ghost_name ≡ old.tables.ghost_name)
