use borrow.Author.Tests.{le-ltb}
use Rattle.checked.proofs.Calls.{used_unknown, used_known, used_function, unused_function}
use Rattle.checked.proofs.is_used.Goals as goal

pub returns-in-Unknown : goal.returns-in-Unknown
returns-in-Unknown c = used_unknown c.args.store.page.now c.args.c c.in-Unknown.is

pub returns-in-Known : goal.returns-in-Known
returns-in-Known c = used_known c.args.store.page.now c.args.c _ c.count.result c.in-Known.is c.count.ensures

pub returns-then-t-count : goal.returns-then-t-count
returns-then-t-count c =
    let n = c.count-in-Function in
    used_function c.args.store.page.now c.args.c _ n.result c.in-Function.is n.ensures c.if-t-count.true c.kind_of.result c.kind_of.ensures

pub returns-else-t-count : goal.returns-else-t-count
returns-else-t-count c =
    let n = c.count-in-Function in
    rw (le-ltb _ _ c.if-t-count.false) (unused_function c.args.store.page.now c.args.c _ n.result c.in-Function.is n.ensures c.if-t-count.false)
