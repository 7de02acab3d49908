use Rattle.types.proofs.Types.{held_by}
use Rattle.members.proofs.Leaves.{filled_by, leaf_there, leaf_read}
use Rattle.members.proofs.Leafed.leaf_of.Goals as goal

pub member_at-requires : goal.member_at-requires
member_at-requires g c =
    leaf_there (held_by c.args.self.store.held).sound (filled_by c.args.self.filled) c.args.t c.requires

pub returns : goal.returns
returns g c =
    leaf_read (held_by c.args.self.store.held).sound (filled_by c.args.self.filled) c.args.t c.requires c.member_at.result c.member_at.ensures
