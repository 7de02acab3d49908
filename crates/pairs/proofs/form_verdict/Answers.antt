use mathlib.Core.Path.{sym, ◌∙◌}
use Rattle.pairs.proofs.Page.{held_parts, form_held, form_unheld}
use Rattle.pairs.proofs.Calls.{form_broken, form_passed}
use Rattle.pairs.proofs.form_verdict.Goals as goal

pub returns-then-not-holds_table : goal.returns-then-not-holds_table
returns-then-not-holds_table c =
    form_broken c.args.page.now c.args.n (sym (form_unheld c.args.page.now c.args.n (sym c.holds_table.ensures ∙ c.if-not-holds_table.true)))

pub table_in-requires : goal.table_in-requires
table_in-requires c = held_parts c.args.page.now (sym c.holds_table.ensures ∙ c.if-not-holds_table.false)

pub returns-then-not-is_table : goal.returns-then-not-is_table
returns-then-not-is_table c =
    let h = sym c.holds_table.ensures ∙ c.if-not-holds_table.false in
    let f = c.is_table.ensures ∙ rw c.table_in.ensures (form_held c.args.page.now c.args.n h) in
    form_broken c.args.page.now c.args.n (sym f ∙ c.if-not-is_table.true)

pub returns : goal.returns
returns c =
    let h = sym c.holds_table.ensures ∙ c.if-not-holds_table.false in
    let f = c.is_table.ensures ∙ rw c.table_in.ensures (form_held c.args.page.now c.args.n h) in
    form_passed c.args.page.now c.args.n (sym f ∙ c.if-not-is_table.false)
