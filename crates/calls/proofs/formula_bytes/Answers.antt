use mathlib.Core.Path.{◌≡◌, ap₂, ◌∙◌}
use mathlib.Core.List.{◌++◌}
use lib.ListN.{length}
use Rattle.pages.specs.Bytes.{word_bytes}
use Rattle.calls.specs.Answers.{answer_bytes}
use Rattle.calls.proofs.Answers.{both_made}
use borrow.Author.Rules.{rules}
use Rattle.calls.proofs.formula_bytes.Goals as goal

pub returns : goal.returns
returns c =
    let answer = c.answer_bytes-answer in
    let errors = c.error_count_bytes-errors in
    let put-bytes = c.put_bytes in
    let put-bytes2 = c.put_bytes-2 in
    let n : length answer.result ≡ answer_bytes = search rules in
    let m : length errors.result ≡ word_bytes = search rules in
    put-bytes2.ensures
    ∙ rw put-bytes.ensures (both_made answer.result errors.result n m)
    ∙ ap₂ ◌++◌ answer.ensures errors.ensures
