use mathlib.Core.Path.{◌≡◌, sym, ap, subst, ◌∙◌}
use Prim.Native.Nat.{◌+◌, ◌-◌, ◌<◌}
use native.Mathlib.Omega.{arith}
use Rattle.formulas.specs.Below.{writings, operands_of}
use Rattle.formulas.specs.Marked.{marked}
use Rattle.formulas.specs.State.{nodes_of}
use Rattle.formulas.proofs.Supplied.{placed_by}
use Rattle.formulas.proofs.Marked.{Spread, spread_root, spread_marked, spread_other, spread_all}
use Rattle.formulas.proofs.Below.{nodes_lower, written_there}
use Rattle.formulas.proofs.Answering.nodes_below.Goals as goal

pub mark_operands-requires : goal.mark_operands-requires
mark_operands-requires c =
    let h = placed_by c.args.self.now.placed in
    let k = c.loop-n.n - 1 in
    let l : k < c.args.self.now.count = omega arith in
    λ a m. omega (arith, (h.each k l).lower a m, l, h.few)

pub loop-n-init : goal.loop-n-init
loop-n-init c =
    let g = c.args.self.now in
    let h = placed_by g.placed in
    spread_root (writings (nodes_of g)) g.count (nodes_lower h) h.few c.args.root c.requires

pub loop-n-preserved-then-marks-n : goal.loop-n-preserved-then-marks-n
loop-n-preserved-then-marks-n c =
    let g = c.args.self.now in
    let h = placed_by g.placed in
    let ws = writings (nodes_of g) in
    let k = c.loop-n.n - 1 in
    let l : k < g.count = omega arith in
    let e : k + 1 ≡ c.loop-n.n = omega arith in
    let now = c.mark_operands.ensures ∙ ap (λ w. marked c.loop-n.marks (operands_of w)) (sym (written_there h k l)) in
    rw now
    (spread_marked ws g.count (nodes_lower h) h.few c.args.root c.requires k c.loop-n.marks
    (subst (λ x. Spread ws c.args.root x c.loop-n.marks) (sym e) c.loop-n.invariant) c.if-marks-n.true)

pub loop-n-preserved : goal.loop-n-preserved
loop-n-preserved c =
    let g = c.args.self.now in
    let h = placed_by g.placed in
    let ws = writings (nodes_of g) in
    let k = c.loop-n.n - 1 in
    let e : k + 1 ≡ c.loop-n.n = omega arith in
    spread_other ws g.count (nodes_lower h) h.few c.args.root c.requires k c.loop-n.marks
    (subst (λ x. Spread ws c.args.root x c.loop-n.marks) (sym e) c.loop-n.invariant) c.if-marks-n.false

pub returns : goal.returns
returns c =
    let g = c.args.self.now in
    let h = placed_by g.placed in
    let ws = writings (nodes_of g) in
    let e : c.loop-n.n ≡ 0 = omega arith in
    λ n l. spread_all ws g.count (nodes_lower h) h.few c.args.root c.requires c.loop-n.marks
    (subst (λ x. Spread ws c.args.root x c.loop-n.marks) e c.loop-n.invariant) n
