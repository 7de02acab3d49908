-- The formulas over the nodes so far: operands are lower (`nodes_lower`), and a formula passes exactly if its root is a node and it has
-- no errors (`passes_count`). Assumes nothing.
use mathlib.Core.Path.{◌≡◌, refl, sym, ap, ◌∙◌}
use mathlib.Core.Bool.{Bool, true, false, cond, ◌&&◌, ◌||◌, not}
use mathlib.Core.List.{List, [], ◌∷◌}
use Prim.Native.Nat.{ℕ, zero, suc, ◌+◌, ◌<◌, ◌≤◌}
use native.Mathlib.Numerals.{add-one}
use native.Mathlib.Omega.{arith}
use lib.Dec.{eqb, ltb, eqb-suc-zero}
use lib.ListN.{length, take}
use borrow.Author.Tests.{ltb-true, lt-ltb, le-ltb, ne_eqb}
use Rattle.pages.specs.Quant.{all_to}
use Rattle.operators.specs.Outcome.{count_of}
use Rattle.operators.specs.declared.Errors.{Errors}
use Rattle.formulas.specs.Nodes.{node_at, is_node}
use Rattle.formulas.specs.Below.{writings, written_at, has_part, errors_at, errors_to, error_count, passes}
use Rattle.formulas.specs.Supplied.{Placed}
use Rattle.formulas.specs.declared.Node.{Node}
use Rattle.formulas.proofs.Parts.{Lower}
use Rattle.formulas.proofs.Supplied.{node_there}

-- how node n is written
pub written_node : (nodes : List Node) (n : ℕ) → written_at (writings nodes) n ≡ (node_at nodes n).written
written_node [] n = refl
written_node (x ∷ xs) zero = refl
written_node (x ∷ xs) (suc n) = written_node xs n

module _ {nodes : List Node} {count : ℕ} (h : Placed nodes count) where
  pub written_there : (k : ℕ) → k < count → written_at (writings (take count nodes)) k ≡ (node_at nodes k).written
  written_there k l = written_node (take count nodes) k ∙ ap (λ (x : Node). x.written) (node_there h k l)

  pub nodes_lower : Lower (writings (take count nodes)) count
  nodes_lower k l a m = (h.each k l).lower a (rw (written_there k l) at m)

  pub errors_there : (k : ℕ) → k < count → errors_at (take count nodes) k ≡ count_of (node_at nodes k).answer.errors
  errors_there k l = ap (λ (x : Node). count_of x.answer.errors) (node_there h k l)

-- ---- errors

-- a node has few
pub errors_few : (e : Errors) → count_of e ≤ 2
errors_few Errors.None = omega arith
errors_few (Errors.One r) = omega arith
errors_few (Errors.Two r s) = omega arith
errors_few (Errors.SomeFail f) = omega arith

pub errors_none : (nodes : List Node) (r : ℕ) → errors_to nodes r 0 ≡ 0
unfolding errors_to
errors_none nodes r = refl

-- one node more, of the formula or not
module _ (nodes : List Node) (r n : ℕ) where
  errors_step : errors_to nodes r (suc n) ≡ errors_to nodes r n + cond (has_part (writings nodes) r n) (errors_at nodes n) 0
  unfolding errors_to
  errors_step = refl

  pub errors_more : has_part (writings nodes) r n ≡ true → errors_to nodes r (n + 1) ≡ errors_to nodes r n + errors_at nodes n
  errors_more e = rw (add-one n, errors_step, e) refl

  pub errors_other : has_part (writings nodes) r n ≡ false → errors_to nodes r (n + 1) ≡ errors_to nodes r n
  errors_other e = rw (add-one n, errors_step, e) (omega arith)

pub errors_whole : (nodes : List Node) (r : ℕ) → errors_to nodes r (r + 1) ≡ error_count nodes r
unfolding error_count
errors_whole nodes r = rw (add-one r) refl

-- ---- a formula that passes

-- what n nodes have, one after another
passes_to : (nodes : List Node) (r n : ℕ) → n ≤ length nodes
    → all_to n (λ i. not (has_part (writings nodes) r i) || (is_node nodes i && eqb (errors_at nodes i) 0)) ≡ eqb (errors_to nodes r n) 0
unfolding all_to errors_to
passes_to nodes r zero l = refl
passes_to nodes r (suc n) l =
    rw (passes_to nodes r n (omega (arith, l)), lt-ltb n (length nodes) (omega (arith, l)))
    (go (has_part (writings nodes) r n) (errors_to nodes r n) (errors_at nodes n))
  where
    go : (b : Bool) (s e : ℕ) → cond (eqb s 0) (not b || (true && eqb e 0)) false ≡ eqb (s + cond b e 0) 0
    go true zero e = let z : 0 + e ≡ e = omega arith in ap (λ x. eqb x 0) (sym z)
    go false zero e = refl
    go b (suc s) e =
        ap (λ (x : Bool). cond x (not b || (true && eqb e 0)) false) (eqb-suc-zero s) ∙ sym (ne_eqb (suc s + cond b e 0) 0 (λ q. omega (arith, q)))

pub passes_count : (nodes : List Node) (r : ℕ) → passes nodes r ≡ (is_node nodes r && eqb (error_count nodes r) 0)
unfolding passes error_count
passes_count nodes r = go (ltb r (length nodes)) refl
  where
    go : (b : Bool) → ltb r (length nodes) ≡ b
        → (b && all_to (suc r) (λ i. not (has_part (writings nodes) r i) || (is_node nodes i && eqb (errors_at nodes i) 0)))
        ≡ (b && eqb (errors_to nodes r (suc r)) 0)
    go true e = passes_to nodes r (suc r) (let l = ltb-true r (length nodes) e in omega (arith, l))
    go false e = refl

pub passes_there : (nodes : List Node) (r : ℕ) → r < length nodes → passes nodes r ≡ eqb (error_count nodes r) 0
passes_there nodes r l = passes_count nodes r ∙ ap (λ b. b && eqb (error_count nodes r) 0) (lt-ltb r (length nodes) l)

pub passes_not : (nodes : List Node) (r : ℕ) → length nodes ≤ r → passes nodes r ≡ false
passes_not nodes r l = passes_count nodes r ∙ ap (λ b. b && eqb (error_count nodes r) 0) (le-ltb r (length nodes) l)
