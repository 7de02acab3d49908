use Rattle.std.specs.Prelude.{option_copied}
use Rattle.std.proofs.Common.{rules}
use mathlib.Core.Path.{refl, sym, ◌∙◌}
use Rattle.std.proofs.lemmas.Result.{IfOk-at_ok}
use Rattle.calls.proofs.Bytes.{value_none, sums_read}
use Rattle.calls.proofs.Sums.{sums_few}
use Rattle.calls.proofs.riddlepoppy_canonicalize.Goals as goal

pub unread_units-requires : goal.unread_units-requires
unread_units-requires c = rw (value_none c.args.unit.now _ (sym c.read_value.ensures ∙ c.in_default.is)).0 refl

pub map-requires : goal.map-requires
map-requires c = λ w e.
    let names = option_copied c.lent_names-names.result in
    IfOk-at_ok _ (sym c.canonicalize.ensures ∙ e) (sums_few c.args.page.now names c.or_empty.result)

pub returns : goal.returns
returns c =
    let a = c.args in
    let names = option_copied c.lent_names-names.result in
    let e = sums_read a.page.now names a.unit.now _ c.or_empty.result (sym c.read_value.ensures ∙ c.in-Ok.is) c.or_empty.ensures in
    rw (← c.lent_names-names.ensures, ← e, ← c.canonicalize.ensures) (search rules)
