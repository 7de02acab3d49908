use Rattle.types.proofs.Types.{whole}
use Rattle.formulas.proofs.formula_checked.Goals as goal

pub count-requires : goal.count-requires
count-requires c = let f = c.requires.held.sound in (whole c.args.page.now f.names f.form).two
