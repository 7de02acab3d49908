use Rattle.std.specs.Prelude.{option_copied}
use mathlib.Core.Path.{sym, ◌∙◌}
use Rattle.pairs.proofs.Calls.{opened_ok, opened_err}
use Rattle.calls.proofs.Bytes.{units_broken, left_unused, right_unused, units_bad}
use Rattle.calls.proofs.unread_units.Goals as goal

pub returns-in_default : goal.returns-in_default
returns-in_default c =
    let a = c.args in
    let o = opened_err a.page.now (option_copied a.names) _ (sym c.in_default.is ∙ c.opened.ensures.0) in
    units_broken a.page.now (option_copied a.names) a.left.now a.right.now o.0

pub returns-then-not-are_used : goal.returns-then-not-are_used
returns-then-not-are_used c =
    let a = c.args in
    let o = opened_ok a.page.now (option_copied a.names) c.in-Ok.n (sym c.in-Ok.is ∙ c.opened.ensures.0) in
    left_unused a.page.now (option_copied a.names) a.left.now a.right.now o.0 c.in-Ok.n o.1 (sym c.are_used.ensures ∙ c.if-not-are_used.true)

pub returns-then-not-are_used-2 : goal.returns-then-not-are_used-2
returns-then-not-are_used-2 c =
    let a = c.args in
    let o = opened_ok a.page.now (option_copied a.names) c.in-Ok.n (sym c.in-Ok.is ∙ c.opened.ensures.0) in
    right_unused a.page.now (option_copied a.names) a.left.now a.right.now o.0 c.in-Ok.n o.1 (sym c.are_used-2.ensures ∙ c.if-not-are_used-2.true)

pub returns : goal.returns
returns c =
    let a = c.args in
    let o = opened_ok a.page.now (option_copied a.names) c.in-Ok.n (sym c.in-Ok.is ∙ c.opened.ensures.0) in
    units_bad a.page.now (option_copied a.names) a.left.now a.right.now o.0 c.in-Ok.n o.1
    (sym c.are_used.ensures ∙ c.if-not-are_used.false) (sym c.are_used-2.ensures ∙ c.if-not-are_used-2.false) c.requires
