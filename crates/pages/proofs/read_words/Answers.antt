use Rattle.std.proofs.Common.{◌∙◌, sym, length, arith, ext_get_or}
use Rattle.pages.specs.Bytes.{words_at}
use Rattle.pages.proofs.Words.{read_length, read_each}
use Rattle.pages.proofs.read_words.Goals as goal

pub returns : goal.returns
returns c =
    let a = c.args in
    let n = length a.numbers.now in
    let size = read_length a.page.now a.at n in
    ext_get_or 0 c.loop-i.numbers (words_at a.page.now a.at n) (omega arith)
    (λ k h. c.loop-i.invariant k (omega arith) ∙ sym (read_each a.page.now a.at n k (omega arith)))
