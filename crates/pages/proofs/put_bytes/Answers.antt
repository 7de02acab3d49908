use Rattle.std.proofs.Common.{◌≡◌, ◌∙◌, length, add-one, arith}
use Rattle.std.proofs.Math.Seq.{paste-suc}
use Rattle.pages.proofs.put_bytes.Goals as goal

pub loop-i-preserved : goal.loop-i-preserved
loop-i-preserved c =
    let a = c.args in
    let l = c.loop-i in
    rw (l.invariant, add-one) (paste-suc a.page.now a.at a.bytes.now l.i 0 (omega arith) (omega arith))

pub returns : goal.returns
returns c =
    let e : c.loop-i.i ≡ length c.args.bytes.now = omega arith in
    c.loop-i.invariant ∙ rw e
