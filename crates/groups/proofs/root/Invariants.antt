use Rattle.std.proofs.Common.{◌≡◌, ◌-◌}
use Rattle.groups.specs.Groups.{walk}
use Rattle.groups.proofs.root.Given as goal

abbrev pub invariant-loop : goal.invariant-loop
invariant-loop l = walk l.steps l.parents l.symbol ≡ walk (l.steps - l.counter) l.parents l.at
