use Rattle.std.proofs.Common.{rules, ap, eqb, bit_or, ◌∙◌}
use Rattle.std.proofs.lemmas.Iterator.{YieldsList-from_slice}
use Rattle.std.proofs.lemmas.Iterator.Consumers.{fold_from_yields_List}
use Rattle.pages.proofs.Bytes.{bits_of_all}
use Rattle.pages.proofs.bits_of.Goals as goal

pub returns : goal.returns
returns c =
    ap (λ b. eqb b 0) (fold_from_yields_List _ bit_or 0 c.fold.result c.fold.ensures.ran (YieldsList-from_slice c.args.bytes.now cc) (λ a x b q k. search rules)) ∙ bits_of_all c.args.bytes.now
