-- What a value that answers nodes holds, and what a call on it leaves as it was.
use Rattle.std.specs.Prelude.{◌≡◌, List, ℕ, take}
use Rattle.groups.specs.Groups.{walk}
use Rattle.formulas.specs.Nodes.{State, state}
use Rattle.formulas.specs.Supplied.{Supplied}
use Rattle.formulas.specs.declared.Node.{Node}
use Rattle.formulas.specs.declared.Answering.{Answering}

-- the nodes so far
abbrev pub nodes_of : Answering → List Node
nodes_of a = take a.count a.nodes.now

-- the roots of symbols
abbrev pub roots_of : Answering → ℕ → ℕ
roots_of a = walk a.groups.steps a.groups.parents.now

-- a store, and the nodes so far
abbrev pub state_of : List ℕ → Answering → State
state_of store a = state store (nodes_of a)

-- what it holds is right beside a store
abbrev pub Beside : Answering → List ℕ → Type 0
Beside a store = Supplied a.used store a.singles.now a.doubles.now a.memo.now (nodes_of a)

-- the same places are lent, and groups and names are those of before
abbrev pub Same : Answering → Answering → Type 0
Same new old =
    (new.singles.ghost_name ≡ old.singles.ghost_name) × (new.doubles.ghost_name ≡ old.doubles.ghost_name)
    × (new.memo.ghost_name ≡ old.memo.ghost_name) × (new.nodes.ghost_name ≡ old.nodes.ghost_name)
    × (new.groups ≡ old.groups) × (new.used ≡ old.used)
