use Prim.Native.Nat.{suc}
use native.Mathlib.Nat.{le_of_lt}
use mathlib.Core.Path.{◌∙◌}
use Rattle.names.specs.Table.{offset}
use Rattle.names.proofs.Table.{name_there}
use Rattle.names.proofs.Calls.{form, fits_to, name_small, in_use_named}
use Rattle.names.proofs.Names.name_of.Goals as goal

pub offset_of-requires : goal.offset_of-requires
offset_of-requires c = fits_to c.args.self.page.now (form c.args.self.page.now c.args.self.formed) c.args.k (le_of_lt c.requires)

pub name_from-requires : goal.name_from-requires
unfolding offset
name_from-requires c = rw c.offset_of.ensures (fits_to c.args.self.page.now (form c.args.self.page.now c.args.self.formed) (suc c.args.k) c.requires)

pub returns : goal.returns
returns c =
    let page = c.args.self.page.now in
    let e = c.name_from.ensures ∙ name_there page c.args.k c.offset_of.result c.offset_of.ensures in
    let s = name_small _ (in_use_named page (form page c.args.self.formed) c.args.k c.requires) in
    (e, rw e s.0, rw e s.1)
