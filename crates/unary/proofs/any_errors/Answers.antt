use mathlib.Core.Path.{◌≡◌, sym, ◌∙◌}
use native.Mathlib.Omega.{arith}
use Rattle.members.specs.Members.{size_of}
use Rattle.members.proofs.Members.{member_used}
use Rattle.members.proofs.Flattening.{as_many, place_read, member_is}
use Rattle.unary.proofs.Failing.{failing_none, passed_more, failed_more, errors_empty, errors_none, errors_some}
use Rattle.types.proofs.Types.{held_by}
use Rattle.unary.proofs.any_errors.Goals as goal
use Rattle.unary.proofs.any_errors.Goals.{then-not-does_pass, else-not-does_pass}

pub returns-then-size-eq0 : goal.returns-then-size-eq0
returns-then-size-eq0 c =
    let empty = sym c.flatten-size.ensures.0 ∙ c.if-size-eq0.true in
    let a = c.args in
    errors_empty a.leafed.store.page.now a.op a.t c.requires.2 empty

pub loop-x-init : goal.loop-x-init
loop-x-init c =
    let a = c.args in
    (failing_none a.leafed.store.page.now a.op a.t, omega arith)

pub does_pass-requires : goal.does_pass-requires
does_pass-requires c =
    let page = c.args.leafed.store.page.now in
    let t = c.args.t in
    let flatten = c.flatten-size in
    let i = c.loop-x.x-index in
    let x = c.from-x in
    let read = place_read page t flatten.result _ flatten.ensures i x.result c.loop-x-test.true x.ensures in
    let is = member_is page t flatten.result _ flatten.ensures i x.result read.0 read.1 in
    let used = member_used page (held_by c.args.leafed.store.held).sound t c.requires.1 i (omega (arith, read.0, flatten.ensures.0)) in
    (c.requires.0, omega (arith, is, used))

pub failed_at-requires : goal.failed_at-requires
failed_at-requires c =
    let inv = c.loop-x.invariant in
    let flat = c.flatten-size in
    let many = as_many c.args.leafed.store.page.now c.args.t flat.result _ flat.ensures in
    omega (arith, inv.1, c.loop-x.auto.x-index-end, c.loop-x-test.true, flat.ensures.1, many)

pub loop-x-preserved : goal.loop-x-preserved
loop-x-preserved c =
    let a = c.args in
    let page = a.leafed.store.page.now in
    let op = a.op in
    let t = a.t in
    let flatten = c.flatten-size in
    let l = c.loop-x in
    let x = c.from-x.result in
    let read = place_read page t flatten.result _ flatten.ensures l.x-index x c.loop-x-test.true c.from-x.ensures in
    let passes = c.does_pass in
    let is = member_is page t flatten.result _ flatten.ensures l.x-index x read.0 read.1 in
    elim c.if-not-does_pass.branch [
      | then-not-does_pass w ↦
          let fails = sym passes.ensures ∙ w.if-not-does_pass.true in
          let f = w.failed_at.ensures in
          (rw (w.failing-is, f.0) (failed_more page op t l.x-index l.failing l.invariant.0 x is fails), rw w.failing-is (omega (arith, f.1, l.invariant.1)))
      | else-not-does_pass w ↦
          let p = sym passes.ensures ∙ w.if-not-does_pass.false in
          (rw w.failing-is (passed_more page op t l.x-index l.failing l.invariant.0 x is p), rw w.failing-is (omega (arith, l.invariant.1)))
    ]

pub returns-in-None : goal.returns-in-None
returns-in-None c =
    let page = c.args.leafed.store.page.now in
    let size = c.flatten-size.ensures.0 in
    let l = c.loop-x in
    let many = as_many page c.args.t c.flatten-size.result _ c.flatten-size.ensures in
    let n : l.x-index ≡ size_of page c.args.t = omega (arith, l.auto.x-index-end, c.loop-x-test.false, size, many) in
    let some : size_of page c.args.t ≡ 0 → ⊥ = λ z. c.if-size-eq0.false (size ∙ z) in
    errors_none page c.args.op c.args.t c.requires.2 some (rw (n, c.in-None.is) at l.invariant.0)

pub returns-in-Some : goal.returns-in-Some
returns-in-Some c =
    let page = c.args.leafed.store.page.now in
    let l = c.loop-x in
    let many = as_many page c.args.t c.flatten-size.result _ c.flatten-size.ensures in
    let n : l.x-index ≡ size_of page c.args.t = omega (arith, l.auto.x-index-end, c.loop-x-test.false, c.flatten-size.ensures.0, many) in
    errors_some page c.args.op c.args.t c.requires.2 _ (rw (n, c.in-Some.is) at l.invariant.0)
