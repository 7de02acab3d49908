-- A type that is no union and stands for a type in an operator's check (docs/DECISIONS.md, "Nested unions"). Whether an operator takes
-- a union depends on one key that all its leaves share, so that nested unions need no trial of every leaf.
use Rattle.std.specs.Prelude.{◌≡◌, Bool, cond, List, ℕ, zero, suc, ◌<◌, eqb, length, get_or}
use Rattle.pages.specs.Quant.{all_to}
use Rattle.kinds.specs.Kinds.{null, is_union}
use Rattle.types.specs.Store.{types_max}
use Rattle.types.specs.Types.{kind_of}
use Rattle.types.specs.Recur.{cov}
use Rattle.operators.specs.Operators.{family_of, taker_of}
use Rattle.members.specs.Members.{size_of, member}

-- is that the number of operands of an operator with one
abbrev pub is_unary : ℕ → Bool
is_unary operands = eqb operands 1

-- the key of a kind: for two operands its family, for one the operator that takes it
unfoldable pub key_of : Bool → ℕ → ℕ
key_of unary k = cond unary (taker_of k) (family_of k)

-- the key of a type that is no union
abbrev pub key_in : Bool → List ℕ → ℕ → ℕ
key_in unary page t = key_of unary (kind_of page t)

-- the first of the leaves x 0 to x (n − 1) where all have one key, else Null
unfoldable pub agreed : (ℕ → ℕ) → ℕ → (ℕ → ℕ) → ℕ
agreed key zero x = null
agreed key (suc n) x = cond (all_to (suc n) (λ i. eqb (key (x i)) (key (x 0)))) (x 0) null

-- given the leaves of lower types
unfoldable pub leaf_rule : Bool → List ℕ → (ℕ → ℕ) → ℕ → ℕ
leaf_rule unary page rule t =
    cond (is_union (kind_of page t)) (agreed (key_in unary page) (size_of page t) (λ i. rule (member page t i))) t

-- the leaf that stands for type t
unfoldable pub leaf_of : Bool → List ℕ → ℕ → ℕ
leaf_of unary page = cov null (λ t rule. leaf_rule unary page rule t)

-- a list has the leaves of the first n types
pub record Leaves (unary : Bool) (page leaves : List ℕ) (n : ℕ) : Type 0 where
  pub size : length leaves ≡ types_max
  pub holds : (t : ℕ) → t < n → get_or leaves t 0 ≡ leaf_of unary page t
