-- Marks of nodes, and what they say of a formula.
use Rattle.std.specs.Prelude.{◌≡◌, Bool, true, false, List, [], ◌∷◌, ℕ, ◌<◌, get_or, slice_set}
use Rattle.formulas.specs.Nodes.{nodes_max}
use Rattle.formulas.specs.Below.{writings, has_part}
use Rattle.formulas.specs.declared.Node.{Node}

-- with marks at these places too
abbrev pub marked : List Bool → List ℕ → List Bool
marked marks [] = marks
marked marks (a ∷ rest) = marked (slice_set marks a true) rest

-- those nodes are marked that are of the formula with root r, and no others
abbrev pub Marked : List Node → ℕ → List Bool → Type 0
Marked nodes r marks = (n : ℕ) → n < nodes_max → get_or marks n false ≡ has_part (writings nodes) r n
