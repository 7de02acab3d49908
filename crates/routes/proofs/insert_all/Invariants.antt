use mathlib.Core.Path.{◌≡◌}
use lib.ListN.{drop}
use Rattle.std.specs.Prelude.{option_copied, map}
use Rattle.pairs.specs.Runs.{page_after_all}
use Rattle.routes.specs.Run.{request_in}
use Rattle.routes.proofs.insert_all.Given as goal

abbrev pub invariant-loop-body : goal.invariant-loop-body
invariant-loop-body l =
    page_after_all l.table (map (request_in (option_copied l.names)) (drop l.body-index l.bodies))
    ≡ page_after_all l.fn.table (map (request_in (option_copied l.names)) l.bodies)
