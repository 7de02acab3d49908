-- What a type's number means: a tree of kinds ("Equality of types is structural", document 01).
use Rattle.std.specs.Prelude.{cond, List, ℕ, ◌<◌, ltb, get_or}
use Rattle.kinds.specs.Kinds.{is_named}
use Rattle.types.specs.Types.{kind_of, arity, child_of, name_of}
use Rattle.types.specs.Recur.{cov}

-- a kind, a name's number (0 for a kind without name), how many children, and each of them by its place, none past the last
pub data Tree : Type 0 where
  none : Tree
  node : ℕ → ℕ → ℕ → (ℕ → Tree) → Tree

-- the tree of type t, given those of lower types
unfoldable pub tree_rule : List ℕ → (ℕ → Tree) → ℕ → Tree
tree_rule page rule t =
    node (kind_of page t) (cond (is_named (kind_of page t)) (name_of page t) 0) (arity page t)
    (λ i. cond (ltb i (arity page t)) (rule (child_of page t i)) none)

unfoldable pub tree_of : List ℕ → ℕ → Tree
tree_of page = cov none (λ t rule. tree_rule page rule t)

-- a page holds bytes
abbrev pub Bytes : List ℕ → Type 0
Bytes page = (i : ℕ) → get_or page i 0 < 256
