use mathlib.Core.Path.{◌≡◌, ◌∙◌, ap, refl}
use native.Mathlib.Omega.{arith}
use Rattle.types.proofs.Types.{types_few, held_by}
use Rattle.members.specs.Members.{size_of}
use Rattle.members.proofs.Flattening.{as_many}
use Rattle.indexing.specs.Indexing.{members_tried}
use Rattle.indexing.proofs.Trying.{none_tried, more_tried, read_member, read_used}
use Rattle.indexing.proofs.try_members.Goals as goal

pub loop-x-init : goal.loop-x-init
loop-x-init c =
    let a = c.args in (
      (refl, refl),
      record {
        so_far = none_tried a.matcher.now.store.page.now a.key a.t a.results.now;
        few = omega arith;
        few_fail = omega arith;
      },
    )

pub check_index_target-o-requires : goal.check_index_target-o-requires
check_index_target-o-requires c =
    let loop = c.loop-x in
    let store = c.args.matcher.now.store in
    let pre = c.requires in
    let flat = c.flatten-n in
    let x = c.from-x in
    let h = rw (as_many store.page.now c.args.t flat.result _ flat.ensures) at c.loop-x-test.true in
    let used = read_used store.page.now (held_by store.held).sound c.args.t pre.t_bound.0 _ flat.result flat.ensures loop.x-index x.result h x.ensures in
    rw loop.invariant.0.0 (used, pre.t_bound.1)

pub join-trials-requires : goal.join-trials-requires
join-trials-requires c =
    let store = c.args.matcher.now.store in
    let going = c.loop-x.invariant.1 in
    let flat = c.flatten-n in
    let n = flat.ensures.1 in
    let h = rw (as_many store.page.now c.args.t flat.result _ flat.ensures) at c.loop-x-test.true in
    let few = types_few store.page.now (held_by store.held).sound in
    let target = rw c.loop-x.invariant.0.0 at c.check_index_target-o.ensures.value in
    record { merged_lt_members_max = omega (arith, going.few, n, h); failing_lt_members_max = (omega (arith, going.few_fail, n, h), omega (arith, few, target.1)) }

pub loop-x-preserved : goal.loop-x-preserved
loop-x-preserved c =
    let loop = c.loop-x in
    let same = c.check_index_target-o.ensures.same in
    let going = loop.invariant.1 in
    let a = c.args in
    let store = a.matcher.now.store in
    let flat = c.flatten-n in
    let x = c.from-x in
    let join = c.join-trials.ensures in
    let o = c.check_index_target-o.result in
    let h = rw (as_many store.page.now c.args.t flat.result _ flat.ensures) at c.loop-x-test.true in
    let is = read_member store.page.now (held_by store.held).sound a.t c.requires.t_bound.0 _ flat.result flat.ensures loop.x-index x.result h x.ensures in
    let value = rw loop.invariant.0.0 at c.check_index_target-o.ensures.value in
    let more = more_tried store.page.now a.key a.t loop.x-index x.result o _ is value.0 going.so_far in (
      (same.0 ∙ loop.invariant.0.0, same.1 ∙ loop.invariant.0.1),
      record {
        so_far = join.result_after ∙ more;
        few = omega (arith, join.merged_bound.0, going.few);
        few_fail = omega (arith, join.merged_bound.1, going.few_fail);
      },
    )

pub returns : goal.returns
returns c =
    let a = c.args in
    let page = a.matcher.now.store.page.now in
    let loop = c.loop-x in
    let going = loop.invariant.1 in
    let flat = c.flatten-n.ensures in
    let many = as_many page a.t c.flatten-n.result _ flat in
    let all : loop.x-index ≡ size_of page a.t = omega (arith, loop.auto.x-index-end, c.loop-x-test.false, flat.0, many) in
    record { result_after = going.so_far ∙ ap (members_tried page a.key a.t) all; merged_bound = omega (arith, going.few, loop.auto.x-index-end, flat.1, many); same = loop.invariant.0 }
