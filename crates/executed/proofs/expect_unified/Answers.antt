-- The tables are fresh. Assumes nothing.
use Rattle.std.specs.Prelude.{is_ok}
use mathlib.Core.Path.{sym, ◌∙◌, ap}
use Prim.Native.Nat.{◌*◌}
use borrow.Author.Rules.{rules}
use Rattle.types.specs.Types.{types_in}
use Rattle.types.proofs.Surveyed.{form_passed}
use Rattle.marks.specs.Marks.{tiny_bytes}
use Rattle.marks.proofs.Marks.{noted_none}
use Rattle.bindings.specs.Bindings.{Usable}
use Rattle.unification.specs.Unification.{Given}
use Rattle.executed.proofs.expect_unified.Goals as goal

pub expect-requires : goal.expect-requires
expect-requires c =
    c.is_ok.ensures.value ∙ ap is_ok (c.survey.ensures.0 ∙ sym (form_passed c.args.page.now _ c.requires.page_value))

pub store-store-requires : goal.store-store-requires
store-store-requires c =
    rw (c.survey.ensures.0 ∙ sym (form_passed c.args.page.now _ c.requires.page_value)) at c.survey.ensures.1

pub invariant_of-unifier : goal.invariant_of-unifier
invariant_of-unifier c = record { noted = ∣ noted_none _ (2 * tiny_bytes) ∣₁ }

pub invariant_of-unifier-2 : goal.invariant_of-unifier-2
invariant_of-unifier-2 c =
    let usable : Usable c.no_bindings.result (types_in c.store-store.result.page.now) = search rules in
    let given : Given c.no_bindings.result (types_in c.store-store.result.page.now) = record { usable = usable; names = search rules; types = search rules } in
    record { given = ∣ given ∣₁; settled = ∣ noted_none _ tiny_bytes ∣₁ }
