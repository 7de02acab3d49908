use Rattle.types.proofs.Types.{measured_by}
use Rattle.types.proofs.Maker.store.Goals as goal

pub store-requires : goal.store-requires
store-requires c = measured_by c.args.self.now.measured
