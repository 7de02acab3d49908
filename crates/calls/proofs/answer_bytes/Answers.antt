use mathlib.Core.Path.{◌≡◌, ap₂, ◌∙◌}
use mathlib.Core.List.{◌++◌}
use lib.ListN.{length}
use Rattle.values.specs.Value.{unit_max}
use Rattle.calls.specs.Answers.{error_bytes}
use Rattle.calls.proofs.Answers.{both_made}
use borrow.Author.Rules.{rules}
use Rattle.calls.proofs.answer_bytes.Goals as goal

pub returns : goal.returns
returns c =
    let errors = c.error_bytes-errors in
    let unit = c.maybe_bytes-unit in
    let put-bytes = c.put_bytes in
    let put-bytes2 = c.put_bytes-2 in
    let n : length errors.result ≡ error_bytes = search rules in
    let m : length unit.result ≡ unit_max = search rules in
    put-bytes2.ensures
    ∙ rw put-bytes.ensures (both_made errors.result unit.result n m)
    ∙ ap₂ ◌++◌ errors.ensures unit.ensures
