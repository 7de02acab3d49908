use Rattle.std.proofs.Common.{◌≡◌, ap, ◌∙◌, ◌+◌, ◌*◌, ◌-◌, ◌/◌, ◌≤◌, length, take, drop, length-take-le, length-drop, arith}
use Rattle.pages.proofs.Blocks.{blocks_taken, length_blocks}
use Rattle.values.specs.Value.{term_bytes}
use Rattle.values.proofs.terms_in.Goals as goal

pub returns : goal.returns
returns c =
    let a = c.args in
    let rest = drop 1 a.bytes.now in
    let room : term_bytes * a.n ≤ length rest = omega (arith, c.requires, length-drop 1 a.bytes.now) in
    let long : length (take (term_bytes * a.n) rest) ≡ term_bytes * a.n = length-take-le (term_bytes * a.n) rest room in
    let n : length (take (term_bytes * a.n) rest) / term_bytes ≡ a.n = omega (arith, long) in
    let from : 1 + term_bytes * a.n - 1 ≡ term_bytes * a.n = omega arith in
    let e = c.as_chunks.ensures.front ∙ rw (from, n) (blocks_taken term_bytes a.n rest) in
    (e, ap length e ∙ length_blocks term_bytes a.n rest)
