use mathlib.Core.Path.{◌≡◌, sym, ◌∙◌}
use Prim.Native.Nat.{◌<◌}
use native.Mathlib.Omega.{arith}
use borrow.Author.Tests.{eq-eqb}
use Rattle.pages.proofs.Quant.{all_none, all_more}
use Rattle.members.specs.Leaves.{is_unary, key_in}
use Rattle.members.proofs.Flattening.{as_many, place_read}
use Rattle.members.proofs.Leaves.{same_key, leaf_in, other_gives, all_gives, read_place, read_leaf, read_used, read_key}
use Rattle.types.proofs.Types.{held_by}
use Rattle.members.proofs.leaf_of.Goals as goal

pub member_at-first-requires : goal.member_at-first-requires
member_at-first-requires g c =
    let a = c.args in
    let pre = c.requires in
    let flat = c.flatten-n in
    let e = rw c.kind_of.ensures at (sym c.is_union.ensures ∙ c.if-not-is_union.false) in
    read_place (is_unary g.row.OPERANDS) a.store.page.now (held_by c.args.store.held).sound a.t pre.t_bound e _ flat.result flat.ensures
    a.leaves.now pre.leaves 0 (omega (arith, c.if-n-eq0.false)) c.member_at.result c.member_at.ensures

pub key_in-key-requires : goal.key_in-key-requires
key_in-key-requires g c =
    let a = c.args in
    let pre = c.requires in
    let flat = c.flatten-n in
    let e = rw c.kind_of.ensures at (sym c.is_union.ensures ∙ c.if-not-is_union.false) in
    let used =
    read_used (is_unary g.row.OPERANDS) a.store.page.now (held_by c.args.store.held).sound a.t pre.t_bound e _ flat.result flat.ensures
    a.leaves.now pre.leaves 0 (omega (arith, c.if-n-eq0.false)) c.member_at.result c.member_at.ensures
    c.member_at-first.result c.member_at-first.ensures in
    used

pub loop-x-init : goal.loop-x-init
loop-x-init g c =
    let a = c.args in
    all_none (same_key (key_in (is_unary g.row.OPERANDS) a.store.page.now) (leaf_in (is_unary g.row.OPERANDS) a.store.page.now a.t))

pub member_at-leaf-requires : goal.member_at-leaf-requires
member_at-leaf-requires g c =
    let loop = c.loop-x in
    let a = c.args in
    let pre = c.requires in
    let flat = c.flatten-n in
    let is = place_read a.store.page.now a.t flat.result _ flat.ensures loop.x-index c.from.result c.loop-x-test.true c.from.ensures in
    let e = rw c.kind_of.ensures at (sym c.is_union.ensures ∙ c.if-not-is_union.false) in
    read_place (is_unary g.row.OPERANDS) a.store.page.now (held_by c.args.store.held).sound a.t pre.t_bound e _ flat.result flat.ensures
    a.leaves.now pre.leaves loop.x-index is.0 c.from.result is.1

pub key_in-requires : goal.key_in-requires
key_in-requires g c =
    let loop = c.loop-x in
    let a = c.args in
    let pre = c.requires in
    let flat = c.flatten-n in
    let is = place_read a.store.page.now a.t flat.result _ flat.ensures loop.x-index c.from.result c.loop-x-test.true c.from.ensures in
    let e = rw c.kind_of.ensures at (sym c.is_union.ensures ∙ c.if-not-is_union.false) in
    let used =
    read_used (is_unary g.row.OPERANDS) a.store.page.now (held_by c.args.store.held).sound a.t pre.t_bound e _ flat.result flat.ensures
    a.leaves.now pre.leaves loop.x-index is.0 c.from.result is.1
    c.member_at-leaf.result c.member_at-leaf.ensures in
    used

pub returns-then-key_in-key : goal.returns-then-key_in-key
returns-then-key_in-key g c =
    let loop = c.loop-x in
    let a = c.args in
    let pre = c.requires in
    let flat = c.flatten-n in
    let is = place_read a.store.page.now a.t flat.result _ flat.ensures loop.x-index c.from.result c.loop-x-test.true c.from.ensures in
    let e = rw c.kind_of.ensures at (sym c.is_union.ensures ∙ c.if-not-is_union.false) in
    let key =
    read_key (is_unary g.row.OPERANDS) a.store.page.now (held_by c.args.store.held).sound a.t pre.t_bound e _ flat.result flat.ensures
    a.leaves.now pre.leaves 0 (omega (arith, c.if-n-eq0.false)) c.member_at.result c.member_at.ensures
    c.member_at-first.result c.member_at-first.ensures c.key_in-key.result c.key_in-key.ensures in
    let key2 =
    read_key (is_unary g.row.OPERANDS) a.store.page.now (held_by c.args.store.held).sound a.t pre.t_bound e _ flat.result flat.ensures
    a.leaves.now pre.leaves loop.x-index is.0 c.from.result is.1
    c.member_at-leaf.result c.member_at-leaf.ensures c.key_in.result c.key_in.ensures in
    other_gives (is_unary g.row.OPERANDS) a.store.page.now (held_by c.args.store.held).sound a.t pre.t_bound e _ flat.result flat.ensures
    loop.x-index c.key_in.result c.key_in-key.result is.0 key2 key c.if-key_in-key.true

pub loop-x-preserved : goal.loop-x-preserved
loop-x-preserved g c =
    let loop = c.loop-x in
    let a = c.args in
    let pre = c.requires in
    let flat = c.flatten-n in
    let is = place_read a.store.page.now a.t flat.result _ flat.ensures loop.x-index c.from.result c.loop-x-test.true c.from.ensures in
    let e = rw c.kind_of.ensures at (sym c.is_union.ensures ∙ c.if-not-is_union.false) in
    let key =
    read_key (is_unary g.row.OPERANDS) a.store.page.now (held_by c.args.store.held).sound a.t pre.t_bound e _ flat.result flat.ensures
    a.leaves.now pre.leaves 0 (omega (arith, c.if-n-eq0.false)) c.member_at.result c.member_at.ensures
    c.member_at-first.result c.member_at-first.ensures c.key_in-key.result c.key_in-key.ensures in
    let key2 =
    read_key (is_unary g.row.OPERANDS) a.store.page.now (held_by c.args.store.held).sound a.t pre.t_bound e _ flat.result flat.ensures
    a.leaves.now pre.leaves loop.x-index is.0 c.from.result is.1
    c.member_at-leaf.result c.member_at-leaf.ensures c.key_in.result c.key_in.ensures in
    all_more (same_key (key_in (is_unary g.row.OPERANDS) a.store.page.now) (leaf_in (is_unary g.row.OPERANDS) a.store.page.now a.t)) loop.x-index loop.invariant
    (eq-eqb _ _ (sym key2 ∙ c.if-key_in-key.false ∙ key))

pub returns : goal.returns
returns g c =
    let loop = c.loop-x in
    let a = c.args in
    let pre = c.requires in
    let flat = c.flatten-n in
    let e = rw c.kind_of.ensures at (sym c.is_union.ensures ∙ c.if-not-is_union.false) in
    let some : 0 < flat.result = omega (arith, c.if-n-eq0.false) in
    let many = as_many a.store.page.now a.t flat.result _ flat.ensures in
    let n : loop.x-index ≡ flat.result = omega (arith, loop.auto.x-index-end, c.loop-x-test.false, many) in
    let leaf =
    read_leaf (is_unary g.row.OPERANDS) a.store.page.now (held_by c.args.store.held).sound a.t pre.t_bound e _ flat.result flat.ensures
    a.leaves.now pre.leaves 0 some c.member_at.result c.member_at.ensures c.member_at-first.result c.member_at-first.ensures in
    all_gives (is_unary g.row.OPERANDS) a.store.page.now (held_by c.args.store.held).sound a.t pre.t_bound e _ flat.result flat.ensures
    c.member_at-first.result some leaf (rw n at loop.invariant)
