use Rattle.std.proofs.Common.{◌≡◌, ◌∙◌, ◌/◌, ◌%◌, get_or, arith}
use Rattle.pages.proofs.Words.{words_none, words_more}
use Rattle.pages.proofs.put_words.Goals as goal

pub loop-i-init : goal.loop-i-init
loop-i-init c = words_none c.args.page.now c.args.at c.args.numbers.now c.requires

pub loop-i-preserved : goal.loop-i-preserved
loop-i-preserved c =
    let a = c.args in
    let l = c.loop-i in
    let n = get_or a.numbers.now l.i 0 in
    let q : n / 256 % 256 ≡ n / 256 = omega (arith, c.type_inv.numbers l.i) in
    c.put_bytes.ensures ∙ rw (l.invariant, c.to_be_bytes.ensures, q) (words_more a.page.now a.at a.numbers.now c.requires l.i c.loop-i-test.true)
