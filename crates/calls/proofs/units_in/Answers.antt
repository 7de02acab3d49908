use mathlib.Core.Path.{◌∙◌}
use Rattle.calls.proofs.Bytes.{both_read}
use Rattle.calls.proofs.units_in.Goals as goal

pub returns : goal.returns
returns c =
    rw (c.ok-l.ensures.value, c.read_value.ensures, c.ok-r.ensures.value, c.read_value-2.ensures) at c.zip.ensures
    ∙ both_read c.args.left.now c.args.right.now
