use Rattle.pages.proofs.Bytes.{eqs_is}
use mathlib.Core.Path.{◌≡◌, sym, ◌∙◌}
use Prim.Native.Nat.{◌*◌}
use native.Mathlib.Omega.{arith}
use lib.ListN.{length}
use Rattle.pairs.specs.Table.{pairs_max, pair_bytes}
use Rattle.pairs.proofs.Bodies.{all_said, said_pairs}
use Rattle.pairs.proofs.Table.{form_many, form_unused, form_rest}
use borrow.Author.Rules.{rules}
use Rattle.pairs.proofs.is_table.Goals as goal

pub returns-then-k-gt-PAIRS : goal.returns-then-k-gt-PAIRS
returns-then-k-gt-PAIRS c = form_many c.args.t c.args.n c.if-k-gt-PAIRS.true

pub bodies_of-bodies-requires : goal.bodies_of-bodies-requires
bodies_of-bodies-requires c =
    let z : length c.args.t.pairs ≡ pair_bytes * pairs_max = search rules in
    omega (arith, z, c.if-k-gt-PAIRS.false)

pub returns-then-not-all_used : goal.returns-then-not-all_used
returns-then-not-all_used c =
    let a = c.args in
    let bodies = c.bodies_of-bodies in
    let said = all_said a.t.count a.t.pairs bodies.result.now bodies.ensures.0 a.n in
    form_unused a.t a.n c.if-k-gt-PAIRS.false (sym said ∙ sym c.all_used.ensures ∙ c.if-not-all_used.true)

pub returns : goal.returns
returns c =
    let a = c.args in
    let bodies = c.bodies_of-bodies in
    let said = all_said a.t.count a.t.pairs bodies.result.now bodies.ensures.0 a.n in
    let u = sym said ∙ sym c.all_used.ensures ∙ c.if-not-all_used.false in
    c.eq.ensures ∙ eqs_is a.t.parents c.replayed.result
    ∙ rw (c.replayed.ensures, said_pairs a.t.count a.t.pairs bodies.result.now bodies.ensures.0) (form_rest a.t a.n c.if-k-gt-PAIRS.false u)
