use Rattle.std.proofs.Common.{◌∙◌}
use Rattle.types.specs.Calls.{const_entry}
use Rattle.types.proofs.Types.{measured_by}
use Rattle.types.proofs.Entries.{entry_front}
use Rattle.types.proofs.Const.{const_fixed, const_ready, const_entered}
use Rattle.types.proofs.Maker.const_form.Goals as goal

pub returns-then-t-lt-FIXED-clause-value : goal.returns-then-t-lt-FIXED-clause-value
returns-then-t-lt-FIXED-clause-value c =
    let m = c.args.self.now in
    let f = const_fixed m.page.now _ _ (measured_by m.measured) c.args.t c.if-t-lt-FIXED.true c.from.result (c.from.ensures ∙ c.const_variant.ensures) in
    (f.0, f.1)

pub enter-requires : goal.enter-requires
enter-requires c =
    let m = c.args.self.now in
    let e = c.as_slice.ensures ∙ entry_front (const_entry m.page.now c.args.t) _ (rw c.store.ensures.0 at c.const_entry-entry.ensures) in
    rw e (const_ready m.page.now _ _ (measured_by m.measured) c.args.t c.if-t-lt-FIXED.false c.requires)

pub returns-clause-value : goal.returns-clause-value
returns-clause-value c =
    let m = c.args.self.now in
    let e = c.as_slice.ensures ∙ entry_front (const_entry m.page.now c.args.t) _ (rw c.store.ensures.0 at c.const_entry-entry.ensures) in
    let z = const_entered m.page.now _ _ (measured_by m.measured) c.args.t c.if-t-lt-FIXED.false in
    ((rw e at c.enter.ensures.value.0) ∙ z.0, (rw e at c.enter.ensures.value.1) ∙ z.1)
