use Rattle.std.proofs.Common.{sym}
use mathlib.Core.Path.{◌∙◌}
use borrow.Author.Rules.{rules}
use Rattle.calls.proofs.Bytes.{value_some, value_none, text_some}
use Rattle.calls.proofs.text_in.Goals as goal
use Rattle.calls.proofs.text_in.Goals.{in_default-via-in-Ok+in_default, in_default-via-in_default}

pub unread_text-requires : goal.unread_text-requires
unread_text-requires c =
    elim c.in_default.branch [
      | in_default-via-in-Ok+in_default w ↦
          let v = value_some c.args.unit.now _ (sym c.read_value.ensures ∙ w.in_default.is) in
          sym v.1 ∙ search rules
      | in_default-via-in_default w ↦ (value_none c.args.unit.now _ (sym c.read_value.ensures ∙ w.in_default.is)).1
    ]

pub returns : goal.returns
returns c =
    let v = value_some c.args.unit.now _ (sym c.read_value.ensures ∙ c.in-Ok-Some.is) in
    c.unit_text.ensures ∙ text_some c.args.page.now c.args.unit.now _ (sym v.1 ∙ c.in-Ok-Some.field-0-is)
