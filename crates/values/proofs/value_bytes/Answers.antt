use mathlib.Core.Path.{◌∙◌}
use native.Mathlib.Omega.{arith}
use Rattle.values.proofs.Terms.{whole_bytes}
use Rattle.values.proofs.value_bytes.Goals as goal

pub write_terms-requires : goal.write_terms-requires
write_terms-requires c =
    let put-bytes = c.put_bytes in
    (c.requires, omega (arith, put-bytes.auto.page))

pub returns : goal.returns
returns c =
    let put-bytes = c.put_bytes in
    let write-terms = c.write_terms in
    whole_bytes c.args.u write-terms.new.out c.requires (write-terms.ensures ∙ rw put-bytes.ensures)
