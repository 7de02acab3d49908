use mathlib.Core.Path.{◌∙◌}
use mathlib.Core.List.{[], ◌∷◌}
use native.Mathlib.Omega.{arith}
use Rattle.pages.proofs.Pad.{put_pad}
use Rattle.values.specs.Value.{none_count, unit_max}
use Rattle.calls.proofs.none_bytes.Goals as goal

pub returns : goal.returns
returns c =
    c.put_bytes.ensures ∙ put_pad unit_max (none_count ∷ []) (omega arith)
