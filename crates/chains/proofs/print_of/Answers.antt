use Rattle.std.proofs.Common.{rules, ◌≡◌, fold, arith}
use Rattle.std.proofs.lemmas.Iterator.{YieldsList-from_slice}
use Rattle.std.proofs.lemmas.Iterator.Consumers.{fold_from_yields_List}
use Rattle.chains.proofs.Prints.{mix, mixed_is, print_is}
use Rattle.chains.proofs.print_of.Goals as goal

pub returns : goal.returns
returns c =
    let bytes = c.args.bytes.now in
    let sum : c.fold-sum.result ≡ fold mix 0 bytes =
    fold_from_yields_List _ mix 0 c.fold-sum.result c.fold-sum.ensures.ran (YieldsList-from_slice bytes cc) (λ a x b q k. search rules) in
    (rw (c.from.ensures, sum) (print_is bytes _ (mixed_is 0 bytes)), omega arith)
