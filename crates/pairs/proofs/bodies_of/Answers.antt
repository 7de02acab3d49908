use Rattle.std.proofs.Common.{◌≡◌, ap, ◌∙◌, ◌*◌, ◌/◌, length, take, length-take-le, arith}
use Rattle.pages.proofs.Blocks.{blocks_taken, length_blocks}
use Rattle.pairs.specs.Table.{pair_bytes}
use Rattle.pairs.proofs.bodies_of.Goals as goal

pub returns : goal.returns
returns c =
    let a = c.args in
    let long : length (take (pair_bytes * a.k) a.pairs.now) ≡ pair_bytes * a.k = length-take-le (pair_bytes * a.k) a.pairs.now c.requires in
    let n : length (take (pair_bytes * a.k) a.pairs.now) / pair_bytes ≡ a.k = omega (arith, long) in
    let e = c.as_chunks.ensures.front ∙ rw n (blocks_taken pair_bytes a.k a.pairs.now) in
    (e, ap length e ∙ length_blocks pair_bytes a.k a.pairs.now)
