use Rattle.std.proofs.Common.{rules, tests}
use Rattle.std.proofs.lemmas.Iterator.{YieldsList-from_slice}
use Rattle.std.proofs.lemmas.Iterator.Search.{all_from_yields_List}
use Rattle.pairs.specs.Table.{said, both_used}
use Rattle.pairs.proofs.all_used.Goals as goal

pub returns : goal.returns
returns c =
    all_from_yields_List (λ b. both_used c.args.n (said b)) _ _ _ c.all.ensures.ran (YieldsList-from_slice c.args.bodies.now cc) (λ x b q h. search (rules, tests))
