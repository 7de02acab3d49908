use mathlib.Core.Path.{sym, ◌∙◌}
use Rattle.names.proofs.Calls.{form}
use Rattle.calls.proofs.Bytes.{text_broken, text_unused, text_bad}
use Rattle.calls.proofs.unread_text.Goals as goal

pub returns-then-not-is_formed : goal.returns-then-not-is_formed
returns-then-not-is_formed c = text_broken c.args.page.now c.args.unit.now (sym c.is_formed.ensures ∙ c.if-not-is_formed.true)

pub count-requires : goal.count-requires
count-requires c = (form c.args.page.now (sym c.is_formed.ensures ∙ c.if-not-is_formed.false)).two

pub returns-then-not-are_used : goal.returns-then-not-are_used
returns-then-not-are_used c =
    let a = c.args in
    let f = sym c.is_formed.ensures ∙ c.if-not-is_formed.false in
    text_unused a.page.now a.unit.now f c.count.result c.count.ensures.0 (sym c.are_used.ensures ∙ c.if-not-are_used.true)

pub returns : goal.returns
returns c =
    let a = c.args in
    let f = sym c.is_formed.ensures ∙ c.if-not-is_formed.false in
    text_bad a.page.now a.unit.now f c.count.result c.count.ensures.0 (sym c.are_used.ensures ∙ c.if-not-are_used.false) c.requires
