use Rattle.std.proofs.Common.{◌≡◌, ◌∙◌, length, add-one, arith}
use Rattle.std.proofs.Math.Seq.{paste-suc}
use Rattle.pages.specs.Bytes.{low_bytes}
use Rattle.pages.proofs.Low.{low_length, low_at}
use Rattle.pages.proofs.put_low_bytes.Goals as goal

pub loop-i-preserved : goal.loop-i-preserved
loop-i-preserved c =
    let a = c.args in
    let l = c.loop-i in
    let ns = a.numbers.now in
    let n = low_length ns in
    rw (l.invariant, add-one, ← low_at ns l.i (omega arith)) (paste-suc a.page.now a.at (low_bytes ns) l.i 0 (omega arith) (omega arith))

pub returns : goal.returns
returns c =
    let e : c.loop-i.i ≡ length (low_bytes c.args.numbers.now) = omega (arith, low_length c.args.numbers.now) in
    c.loop-i.invariant ∙ rw e
