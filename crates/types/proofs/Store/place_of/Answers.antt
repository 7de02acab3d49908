use mathlib.Core.Path.{◌∙◌}
use Rattle.std.proofs.Common.{arith, ◌-◌}
use Rattle.kinds.specs.Kinds.{fixed_max}
use Rattle.types.proofs.Types.{whole, held_by}
use Rattle.types.proofs.Store.place_of.Goals as goal

pub offset_of-requires : goal.offset_of-requires
offset_of-requires c =
    let h = held_by c.args.self.held in
    (omega (arith, c.requires), omega (arith, h.size, (whole c.args.self.page.now h.sound.names h.sound.form).few, c.requires), h.size)

pub returns : goal.returns
returns c = c.offset_of.ensures ∙ (held_by c.args.self.held).places (c.args.t - fixed_max) (omega (arith, c.requires))
