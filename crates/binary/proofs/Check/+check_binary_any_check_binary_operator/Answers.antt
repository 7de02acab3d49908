use mathlib.Core.Path.{◌≡◌, sym, ◌∙◌, ap}
use mathlib.Core.List.{[]}
use native.Mathlib.Omega.{arith}
use borrow.Author.Rules.{rules}
use Rattle.types.specs.Types.{kind_of}
use Rattle.operators.specs.Outcome.{plain_binary}
use Rattle.members.specs.Trials.{no_failure, failing_count, tried}
use Rattle.binary.specs.Binary.{family_in}
use Rattle.binary.specs.declared.Tally.{Tally}
use Rattle.binary.specs.Tally.{tally_of}
use Rattle.binary.proofs.Binary.{known_eq}
use Rattle.binary.proofs.Settled.{plain_small, any_small}
use Rattle.binary.proofs.Turns.{rows_start, row_start, read_used, read_taken}
use Rattle.binary.proofs.Turns.{leaf_in_lem, leaves_lower, turn, row_ended, rows_ended}
use Rattle.members.proofs.Flattening.{as_many, place_read}
use Rattle.types.proofs.Types.{held_by}
use Rattle.binary.proofs.Check.+check_binary_any_check_binary_operator.Goals as goal

pub check_binary_any-loop-x-init : goal.check_binary_any-loop-x-init
check_binary_any-loop-x-init t c =
    let a = c.args in
    let told : c.default-tally.result ≡ tally_of (tried [] no_failure) = search rules in
    (told ∙ rows_start a.self.leafed.store.page.now a.self.op a.self.clash a.l a.r, omega (arith, ap (λ (w : Tally). failing_count w.failing) told))

pub check_binary_any-leaf_of-p-requires : goal.check_binary_any-leaf_of-p-requires
check_binary_any-leaf_of-p-requires t c =
    let a = c.args in
    let page = a.self.leafed.store.page.now in
    let readx = place_read page a.l c.flatten-m.result _ c.flatten-m.ensures c.loop-x.x-index c.from-x.result c.loop-x-test.true c.from-x.ensures in
    let form = (held_by c.args.self.leafed.store.held).sound in
    let ops = c.requires.l_bound in (
      omega arith,
      read_used page form _ ops.0 _ c.flatten-m.result c.loop-x.x-index c.from-x.result c.flatten-m.ensures readx.0 readx.1,
    )

pub check_binary_any-loop-y-init : goal.check_binary_any-loop-y-init
check_binary_any-loop-y-init t c =
    let a = c.args in
    let page = a.self.leafed.store.page.now in
    let readx = place_read page a.l c.flatten-m.result _ c.flatten-m.ensures c.loop-x.x-index c.from-x.result c.loop-x-test.true c.from-x.ensures in
    let form = (held_by c.args.self.leafed.store.held).sound in
    let ops = c.requires.l_bound in
    let i = c.loop-x.x-index in
    let taken = read_taken page form _ ops.0 _ c.flatten-m.result i c.from-x.result c.flatten-m.ensures readx.0 readx.1 c.leaf_of-p.result c.leaf_of-p.ensures.0 in
    let tally = c.loop-x.invariant.0 ∙ ap tally_of (row_start page a.self.op a.self.clash a.l a.r i) in
    (taken, tally, omega arith)

pub check_binary_any-leaf_of-q-requires : goal.check_binary_any-leaf_of-q-requires
check_binary_any-leaf_of-q-requires t c =
    let a = c.args in
    let page = a.self.leafed.store.page.now in
    let ready = place_read page a.r c.flatten-n.result _ c.flatten-n.ensures c.loop-y.y-index c.from-y.result c.loop-y-test.true c.from-y.ensures in
    let form = (held_by c.args.self.leafed.store.held).sound in
    let ops = c.requires.l_bound in (
      omega arith,
      read_used page form _ ops.1 _ c.flatten-n.result c.loop-y.y-index c.from-y.result c.flatten-n.ensures ready.0 ready.1,
    )

pub check_binary_any-check_binary_operator-o-requires : goal.check_binary_any-check_binary_operator-o-requires
check_binary_any-check_binary_operator-o-requires t c =
    let a = c.args in
    let page = a.self.leafed.store.page.now in
    let ready = place_read page a.r c.flatten-n.result _ c.flatten-n.ensures c.loop-y.y-index c.from-y.result c.loop-y-test.true c.from-y.ensures in
    let form = (held_by c.args.self.leafed.store.held).sound in
    let ops = c.requires.l_bound in
    let left = c.loop-y.invariant.0 in
    let right = read_taken page form _ ops.1 _ c.flatten-n.result c.loop-y.y-index c.from-y.result
    c.flatten-n.ensures ready.0 ready.1 c.leaf_of-q.result c.leaf_of-q.ensures.0 in
    let lower = leaves_lower page form a.self.op a.self.clash a.l a.r ops.0 ops.1 left right c.requires.r_value in
    let used = leaf_in_lem page form a.l ops.0 left in
    let used2 = leaf_in_lem page form a.r ops.1 right in
    (omega (arith, c.decreases), (used, used2))

pub check_binary_any-join-tally-requires : goal.check_binary_any-join-tally-requires
check_binary_any-join-tally-requires t c =
    let page = c.args.self.leafed.store.page.now in
    let many = as_many page c.args.l c.flatten-m.result _ c.flatten-m.ensures in
    let many2 = as_many page c.args.r c.flatten-n.result _ c.flatten-n.ensures in
    let few = c.flatten-m.ensures.1 in
    let few2 = c.flatten-n.ensures.1 in
    let more = c.loop-x-test.true in
    let more2 = c.loop-y-test.true in
    omega (arith, c.loop-y.invariant.2)

pub check_binary_any-loop-y-preserved : goal.check_binary_any-loop-y-preserved
check_binary_any-loop-y-preserved t c =
    let a = c.args in
    let page = a.self.leafed.store.page.now in
    let ready = place_read page a.r c.flatten-n.result _ c.flatten-n.ensures c.loop-y.y-index c.from-y.result c.loop-y-test.true c.from-y.ensures in
    let form = (held_by c.args.self.leafed.store.held).sound in
    let ops = c.requires.l_bound in
    let inv = c.loop-y.invariant in
    let right = read_taken page form _ ops.1 _ c.flatten-n.result c.loop-y.y-index c.from-y.result
    c.flatten-n.ensures ready.0 ready.1 c.leaf_of-q.result c.leaf_of-q.ensures.0 in
    let told = c.check_binary_operator-o in
    let next = turn page form a.self.op a.self.clash a.l a.r ops.0 ops.1 inv.0 right
    told.result c.loop-y.tally c.join-tally.result inv.1 told.ensures.0 c.join-tally.ensures.0 in
    let more = c.loop-y-test.true in
    (inv.0, next, omega (arith, inv.2, c.join-tally.ensures.1))

pub check_binary_any-loop-x-preserved : goal.check_binary_any-loop-x-preserved
check_binary_any-loop-x-preserved t c =
    let a = c.args in
    let page = a.self.leafed.store.page.now in
    let many = as_many page a.r c.flatten-n.result _ c.flatten-n.ensures in
    let form = (held_by c.args.self.leafed.store.held).sound in
    let ops = c.requires.l_bound in
    let next = row_ended page form a.self.op a.self.clash a.l a.r ops.0 ops.1 c.loop-x.x-index c.loop-y.y-index
    c.loop-y.tally (omega (arith, c.loop-y.auto.y-index-end, c.loop-y-test.false, c.flatten-n.ensures.0, many)) c.loop-y.invariant.1 in
    (next, omega (arith, c.loop-y.auto.y-index-end, c.loop-y.invariant.2, c.flatten-n.ensures.1, many))

pub check_binary_any-returns : goal.check_binary_any-returns
check_binary_any-returns t c =
    let a = c.args in
    let page = a.self.leafed.store.page.now in
    let many = as_many page a.l c.flatten-m.result _ c.flatten-m.ensures in
    let form = (held_by c.args.self.leafed.store.held).sound in
    let ops = c.requires.l_bound in
    let is = rows_ended page form a.self.op a.self.clash a.l a.r ops.0 ops.1 c.loop-x.tally c.loop-x.x-index c.settle.result
    (omega (arith, c.loop-x.auto.x-index-end, c.loop-x-test.false, c.flatten-m.ensures.0, many)) c.loop-x.invariant.0 c.settle.ensures in
    (is, rw is (any_small page form a.self.op a.self.clash a.l a.r ops.0 ops.1 c.requires.r_value))

pub check_binary_operator-check_binary_any-requires : goal.check_binary_operator-check_binary_any-requires
check_binary_operator-check_binary_any-requires t c =
    let r = c.requires in
    (omega (arith, c.decreases), (r, sym c.is_either.ensures ∙ c.if-is_either.true))

pub check_binary_operator-returns-then-is_either : goal.check_binary_operator-returns-then-is_either
check_binary_operator-returns-then-is_either t c =
    let a = c.args in
    let page = a.self.leafed.store.page.now in
    let form = (held_by c.args.self.leafed.store.held).sound in
    let ops = c.requires in
    let either = sym c.is_either.ensures ∙ c.if-is_either.true in
    let equation = known_eq page a.self.op a.self.clash form a.l a.r ops.0 ops.1 in
    (rw (equation, either) c.check_binary_any.ensures.0, c.check_binary_any.ensures.1)

pub check_binary_operator-returns : goal.check_binary_operator-returns
check_binary_operator-returns t c =
    let a = c.args in
    let page = a.self.leafed.store.page.now in
    let form = (held_by c.args.self.leafed.store.held).sound in
    let ops = c.requires in
    let either = sym c.is_either.ensures ∙ c.if-is_either.false in
    let plain : c.plain_binary.result ≡ plain_binary a.self.op a.self.clash (family_in page a.l) (family_in page a.r) =
    rw (← c.family_in.ensures, ← c.family_in-2.ensures) c.plain_binary.ensures in
    let equation = known_eq page a.self.op a.self.clash form a.l a.r ops.0 ops.1 in
    (rw (equation, either) plain, rw plain (plain_small a.self.op a.self.clash (kind_of page a.l) (family_in page a.r)))
