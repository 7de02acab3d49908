use Rattle.std.specs.Prelude.{option_copied}
use Rattle.std.proofs.lemmas.Result.{err_from_is_err_and}
use mathlib.Core.Path.{sym, ◌∙◌}
use native.Mathlib.Omega.{arith}
use Rattle.names.proofs.Calls.{used_ok}
use Rattle.pairs.proofs.Page.{held_parts}
use Rattle.pairs.proofs.Table.{inserted_ok, inserted_err}
use Rattle.pairs.proofs.Calls.{pair_unnamed, pair_unheld, pair_refused, pair_few, count_grown, grown_below, pair_cramped, pair_done}
use Rattle.pairs.proofs.insert_pair.Goals as goal

pub returns-in_err-n : goal.returns-in_err-n
returns-in_err-n c =
    let a = c.args in
    let p = err_from_is_err_and c.from_residual.result c.from_residual.ensures.1 in
    rw (p.1, p.2) (pair_unnamed a.page.now (option_copied a.names) a.symbol a.factor a.base _ (sym c.in_err-n.was ∙ c.used_in.ensures.0))

pub returns-then-not-holds_table : goal.returns-then-not-holds_table
returns-then-not-holds_table c =
    let holds-table = c.holds_table in
    let a = c.args in
    let u = used_ok (option_copied a.names) c.in_ok-n.n (sym c.in_ok-n.was ∙ c.used_in.ensures.0) in
    let h = sym holds-table.ensures ∙ c.if-not-holds_table.true in
    pair_unheld a.page.now (option_copied a.names) a.symbol a.factor a.base u.0 h

pub table_in-t-requires : goal.table_in-t-requires
table_in-t-requires c =
    let holds-table = c.holds_table in
    held_parts c.args.page.now
    (sym holds-table.ensures ∙ c.if-not-holds_table.false)

pub returns-in_err-insert : goal.returns-in_err-insert
returns-in_err-insert c =
    let a = c.args in
    let u = used_ok (option_copied a.names) c.in_ok-n.n (sym c.in_ok-n.was ∙ c.used_in.ensures.0) in
    let h = sym c.holds_table.ensures ∙ c.if-not-holds_table.false in
    let p = err_from_is_err_and c.from_residual-in_err-insert.result c.from_residual-in_err-insert.ensures.1 in
    let i = rw (c.table_in-t.ensures, u.1) at c.insert.ensures in
    let o = inserted_err _ _ _ _ _ _ (sym c.in_err-insert.was ∙ i.verdict) in
    rw (p.1, p.2) (pair_refused a.page.now (option_copied a.names) a.symbol a.factor a.base u.0 h _ o)

pub size_of-requires : goal.size_of-requires
size_of-requires c =
    let a = c.args in
    let u = used_ok (option_copied a.names) c.in_ok-n.n (sym c.in_ok-n.was ∙ c.used_in.ensures.0) in
    let h = sym c.holds_table.ensures ∙ c.if-not-holds_table.false in
    let i = rw (c.table_in-t.ensures, u.1) at c.insert.ensures in
    let o = inserted_ok _ _ _ _ _ _ (sym c.in_ok-insert.was ∙ i.verdict) i.table_after in
    let few = pair_few a.page.now (option_copied a.names) a.symbol a.factor a.base u.0 h _ o in
    let grown = count_grown a.page.now (option_copied a.names) a.symbol a.factor a.base u.0 h _ o in
    omega (arith, few, grown)

pub returns-then-page-size_of : goal.returns-then-page-size_of
returns-then-page-size_of c =
    let a = c.args in
    let u = used_ok (option_copied a.names) c.in_ok-n.n (sym c.in_ok-n.was ∙ c.used_in.ensures.0) in
    let h = sym c.holds_table.ensures ∙ c.if-not-holds_table.false in
    let i = rw (c.table_in-t.ensures, u.1) at c.insert.ensures in
    let o = inserted_ok _ _ _ _ _ _ (sym c.in_ok-insert.was ∙ i.verdict) i.table_after in
    pair_cramped a.page.now (option_copied a.names) a.symbol a.factor a.base u.0 h _ o (rw c.size_of.ensures at c.if-page-size_of.true)

pub write_table-requires : goal.write_table-requires
write_table-requires c =
    let a = c.args in
    let u = used_ok (option_copied a.names) c.in_ok-n.n (sym c.in_ok-n.was ∙ c.used_in.ensures.0) in
    let h = sym c.holds_table.ensures ∙ c.if-not-holds_table.false in
    let i = rw (c.table_in-t.ensures, u.1) at c.insert.ensures in
    let o = inserted_ok _ _ _ _ _ _ (sym c.in_ok-insert.was ∙ i.verdict) i.table_after in
    let few = pair_few a.page.now (option_copied a.names) a.symbol a.factor a.base u.0 h _ o in
    let grown = count_grown a.page.now (option_copied a.names) a.symbol a.factor a.base u.0 h _ o in
    (omega (arith, few, grown), rw c.size_of.ensures at c.if-page-size_of.false, grown_below a.page.now (option_copied a.names) a.symbol a.factor a.base u.0 h _ o)

pub returns : goal.returns
returns c =
    let a = c.args in
    let u = used_ok (option_copied a.names) c.in_ok-n.n (sym c.in_ok-n.was ∙ c.used_in.ensures.0) in
    let h = sym c.holds_table.ensures ∙ c.if-not-holds_table.false in
    let i = rw (c.table_in-t.ensures, u.1) at c.insert.ensures in
    let o = inserted_ok _ _ _ _ _ _ (sym c.in_ok-insert.was ∙ i.verdict) i.table_after in
    let d = pair_done a.page.now (option_copied a.names) a.symbol a.factor a.base u.0 h _ o (rw c.size_of.ensures at c.if-page-size_of.false) in
    (d.0, c.write_table.ensures ∙ d.1)
