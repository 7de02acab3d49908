use Rattle.std.proofs.Common.{arith}
use Rattle.types.proofs.Types.{whole, held_by}
use Rattle.types.proofs.Store.front.Goals as goal

pub front-requires : goal.front-requires
front-requires c =
    let f = (held_by c.args.self.held).sound in
    omega (arith, (whole c.args.self.page.now f.names f.form).two)
