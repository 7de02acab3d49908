use mathlib.Core.Path.{◌≡◌, sym, ap, ◌∙◌}
use Prim.Native.Nat.{◌+◌, ◌<◌}
use native.Mathlib.Omega.{arith}
use Rattle.formulas.specs.Nodes.{nodes_max}
use Rattle.formulas.specs.Below.{errors_to}
use Rattle.formulas.specs.State.{nodes_of}
use Rattle.formulas.proofs.Supplied.{placed_by}
use Rattle.formulas.proofs.Below.{errors_none, errors_more, errors_other, errors_whole, errors_there, errors_few}
use Rattle.formulas.proofs.Answering.error_count.Goals as goal
use Rattle.formulas.proofs.Answering.error_count.Goals.{then-marks-n, else-marks-n}

pub loop-n-init : goal.loop-n-init
loop-n-init c = let z = errors_none (nodes_of c.args.self.now) c.args.root in (omega (arith, z), omega arith)

pub bounds-marks-n : goal.bounds-marks-n
bounds-marks-n c = let h = placed_by c.args.self.now.placed in omega (arith, h.few)

pub bounds-self-n : goal.bounds-self-n
bounds-self-n c = let h = placed_by c.args.self.now.placed in omega (arith, h.few, h.places)

pub loop-n-preserved : goal.loop-n-preserved
loop-n-preserved c =
    let g = c.args.self.now in
    let h = placed_by g.placed in
    let n = c.loop-n.n in
    let l : n < g.count = omega arith in
    let there : n < nodes_max = omega (arith, l, h.few) in
    let mark = c.nodes_below-marks.ensures n there in
    elim c.if-marks-n.branch [
      | then-marks-n w ↦
          let more = errors_more (nodes_of g) c.args.root n (sym mark ∙ w.if-marks-n.true) in
          let its = w.count-count.ensures ∙ sym (errors_there h n l) in
          (omega (arith, w.count-is, its, more), omega (arith, w.count-is, w.count-count.ensures, errors_few))
      | else-marks-n w ↦
          let same = errors_other (nodes_of g) c.args.root n (sym mark ∙ w.if-marks-n.false) in
          (omega (arith, w.count-is, same), omega (arith, w.count-is))
    ]

pub returns : goal.returns
returns c =
    let g = c.args.self.now in
    let h = placed_by g.placed in
    let e : c.loop-n.n ≡ c.args.root + 1 = omega arith in
    (c.loop-n.invariant.0 ∙ ap (errors_to (nodes_of g) c.args.root) e ∙ errors_whole (nodes_of g) c.args.root, omega (arith, h.few))
