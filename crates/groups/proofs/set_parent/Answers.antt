use Rattle.std.proofs.Common.{sym}
use Rattle.std.proofs.Math.Seq.{set_out}
use Rattle.groups.proofs.set_parent.Goals as goal

pub returns-else-i-parents : goal.returns-else-i-parents
returns-else-i-parents c =
    sym (set_out c.args.parents.now c.args.symbol c.args.parent (rw c.from-i.ensures at c.if-i-parents.false))
