use mathlib.Core.Path.{◌≡◌, ◌∙◌}
use native.Mathlib.Omega.{arith}
use lib.ListN.{length}
use Rattle.bindings.specs.Bindings.{bindings_max}
use Rattle.calls.proofs.Bindings.{bindings_made}
use borrow.Author.Rules.{rules}
use Rattle.calls.proofs.binding_bytes.Goals as goal

pub put_low_bytes-requires : goal.put_low_bytes-requires
put_low_bytes-requires c =
    let n : length c.args.bindings.names ≡ bindings_max = search rules in
    omega (arith, n, c.put_bytes.auto.page)

pub put_words-requires : goal.put_words-requires
put_words-requires c =
    let t : length c.args.bindings.types ≡ bindings_max = search rules in
    omega (arith, t, c.put_low_bytes.auto.page ∙ c.put_bytes.auto.page)

pub returns : goal.returns
returns c =
    let b = c.args.bindings in
    let n : length b.names ≡ bindings_max = search rules in
    let t : length b.types ≡ bindings_max = search rules in
    c.put_words.ensures ∙ rw (c.put_low_bytes.ensures, c.put_bytes.ensures) (bindings_made b n t)
