use Rattle.std.proofs.Common.{◌≡◌}
use Rattle.pages.specs.Pad.{pad}
use Rattle.kinds.specs.Kinds.{children_max}
use Rattle.types.specs.Types.{child_of}
use Rattle.types.specs.Calls.{list_to}
use Rattle.types.proofs.Store.children_of.Given as goal

abbrev pub invariant-loop-i : goal.invariant-loop-i
invariant-loop-i l = l.children ≡ pad children_max 0 (list_to l.i (child_of l.self.page.now l.t))
