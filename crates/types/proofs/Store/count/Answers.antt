use Rattle.types.proofs.Types.{whole, held_by}
use Rattle.types.proofs.Store.count.Goals as goal

pub count-requires : goal.count-requires
count-requires c =
    let f = (held_by c.args.self.held).sound in
    (whole c.args.self.page.now f.names f.form).two
