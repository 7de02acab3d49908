use native.Mathlib.Omega.{arith}
use mathlib.Core.Path.{◌≡◌, refl, ◌∙◌}
use lib.ListN.{length}
use Prim.Native.Nat.{◌*◌}
use Rattle.pairs.specs.Table.{pairs_max, pair_bytes}
use Rattle.pairs.proofs.Table.{with_pair_lem}
use borrow.Author.Rules.{rules}
use Rattle.pairs.proofs.with_pair.Goals as goal

pub put_bytes-requires : goal.put_bytes-requires
put_bytes-requires c =
    let z : length c.args.t.pairs ≡ pair_bytes * pairs_max = search rules in
    omega (arith, z, c.requires.count_lt_pairs_max.0)

pub returns : goal.returns
returns c =
    let a = c.args in
    let z : length a.t.pairs ≡ pair_bytes * pairs_max = search rules in
    with_pair_lem a.t a.symbol a.factor a.base a.t.count refl (omega (arith, z, c.requires.count_lt_pairs_max.0))
    c.requires.count_lt_pairs_max.1 _ _
    (c.put_bytes-2.ensures ∙ rw (c.put_bytes.ensures, c.long_bytes-long.ensures)) c.join.ensures
