use Rattle.pages.proofs.Bytes.{eqs_is}
use Rattle.pages.proofs.same.Goals as goal

pub returns : goal.returns
returns c = rw c.eq.ensures (eqs_is c.args.a.now c.args.b.now)
