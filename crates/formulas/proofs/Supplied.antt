-- What stands beside a store while nodes are answered: what nodes have as operands, and what it is once the store has grown, or has been
-- taken back. Assumes nothing.
use mathlib.Core.Path.{◌≡◌, ◌∙◌}
use mathlib.Core.Bool.{Bool, true, false, Bool-set}
use mathlib.Core.Logic.{⊎_elim, ∥∥₁_elim}
use mathlib.Core.List.{List, [], ◌∷◌, ◌++◌}
use Prim.Native.Nat.{ℕ, ◌+◌, ◌<◌, ◌≤◌}
use native.Mathlib.Nat.{eq-or-lt_of_le}
use native.Mathlib.Omega.{arith}
use lib.ListN.{replicate, length, set, take, length-set}
use lib.Seq.{get_or-set_same, get_or-set_other}
use Rattle.std.proofs.Math.Nat.{ℕ_set}
use Rattle.std.proofs.Math.Bridge.{le_prop}
use Rattle.std.proofs.lemmas.List.{get_or-take, length-take-le}
use Rattle.pages.proofs.Quant.{and_true}
use Rattle.types.specs.Store.{Formed}
use Rattle.types.specs.Types.{types_in}
use Rattle.types.specs.Making.{Grows}
use Rattle.marks.specs.Marks.{Noted}
use Rattle.marks.proofs.Marks.{noted_none}
use Rattle.matching.specs.Matching.{in_use}
use Rattle.matching.specs.Memo.{Found}
use Rattle.matching.proofs.Grown.{in_use_grown, noted_grown}
use Rattle.members.specs.Leaves.{Leaves}
use Rattle.members.proofs.Leaves.{leaf_grown, leaves_grown}
use Rattle.units.specs.Unit as units
use Rattle.units.specs.Calls.{present}
use Rattle.sums.specs.Calls.{or_empty}
use Rattle.answers.specs.Calls.{operand_used, operand_formed}
use Rattle.answers.proofs.Proper.{operand_proper}
use Rattle.formulas.specs.Nodes.{nothing, as_operand, state, node_at, operand_at, depth_at, depth_max, nodes_max}
use Rattle.formulas.specs.Supplied.{Operable, Placed, Supplied}
use Rattle.formulas.specs.declared.Node.{Node}
use Rattle.formulas.proofs.Answered.{Sound, each_more}

pub placed_by : {nodes : List Node} {count : ℕ} → ∥ Placed nodes count ∥₁ → Placed nodes count
placed_by t = record {
  places = ∥∥₁_elim t (ℕ_set _ _) (λ h. h.places);
  few = ∥∥₁_elim t le_prop (λ h. h.few);
  each = λ k l. record {
    formed = ∥∥₁_elim t (Bool-set _ _) (λ h. (h.each k l).formed);
    shallow = ∥∥₁_elim t le_prop (λ h. (h.each k l).shallow);
    lower = λ a m. ∥∥₁_elim t le_prop (λ h. (h.each k l).lower a m);
  };
}

-- ---- nodes at their places

-- no node
pub placed_none : (nodes : List Node) → length nodes ≡ nodes_max → Placed nodes 0
placed_none nodes l = record { places = l; few = omega arith; each = λ k m. absurd (omega (arith, m)) }

module _ {nodes : List Node} {count : ℕ} (h : Placed nodes count) where
  -- the nodes so far
  pub nodes_length : length (take count nodes) ≡ count
  nodes_length = length-take-le count nodes (omega (arith, h.places, h.few))

  pub node_below : (k : ℕ) → k < length (take count nodes) → k < count
  node_below k l = omega (arith, l, nodes_length)

  -- a node among them
  module _ (k : ℕ) (l : k < count) where
    pub node_there_too : k < length (take count nodes)
    node_there_too = omega (arith, l, nodes_length)

    pub node_there : node_at (take count nodes) k ≡ node_at nodes k
    node_there = get_or-take count nodes k nothing l

    operable : Operable k (node_at (take count nodes) k)
    operable = rw node_there (h.each k l)

    pub operand_fits : operand_formed (operand_at (take count nodes) k) ≡ true
    operand_fits = operable.formed

    pub operand_shallow : depth_at (take count nodes) k ≤ depth_max
    operand_shallow = operable.shallow

  -- one more
  pub placed_more : (x : Node) → count < nodes_max → Operable count x → Placed (set nodes count x) (count + 1)
  placed_more x l o = record {
    places = length-set nodes count x ∙ h.places;
    few = omega (arith, l);
    each = λ k m. ⊎_elim
        (λ (q : k ≡ count). rw (q, get_or-set_same nodes count x nothing (omega (arith, h.places, l))) o)
        (λ (q : k < count). rw (get_or-set_other nodes count k x nothing (omega (arith, q))) (h.each k q))
        (eq-or-lt_of_le {n = k} {m = count} (omega (arith, m)));
  }

-- ---- nodes beside a store

-- at the start: leaves of all types, nothing found, and no node
pub supplied_start : (n : ℕ) (store singles doubles : List ℕ) (k : ℕ) → Leaves true store singles (types_in store)
    → Leaves false store doubles (types_in store) → Supplied n store singles doubles (replicate k 0) []
supplied_start n store singles doubles k s d = record {
  single = s;
  double = d;
  noted = noted_none (Found store) k;
  used = λ j m. absurd (omega (arith, m));
}

module _ {n : ℕ} {store singles doubles memo : List ℕ} {nodes : List Node} (h : Supplied n store singles doubles memo nodes) where
  -- without nodes
  pub supplied_none : Supplied n store singles doubles memo []
  supplied_none = record { single = h.single; double = h.double; noted = h.noted; used = λ k l. absurd (omega (arith, l)) }

  pub operand_in_use : (k : ℕ) → k < length nodes → in_use store (operand_at nodes k).checked ≡ true
  operand_in_use k l =
      let x = operand_at nodes k in
      (and_true (in_use store x.checked) (units.in_use n (present (or_empty x.unit))) (h.used k l)).0

  -- with one more
  pub supplied_more : (x : Node) → operand_used store n (as_operand x.answer) ≡ true → Supplied n store singles doubles memo (nodes ++ (x ∷ []))
  supplied_more x u = record {
    single = h.single;
    double = h.double;
    noted = h.noted;
    used = each_more (λ _ y. operand_used store n (as_operand y.answer) ≡ true) nodes x h.used u;
  }

  -- ---- the store has grown

  module _ (f : Formed store) (after : List ℕ) (fa : Formed after) (g : Grows store after) where
    pub supplied_grown : (s d m : List ℕ) → Leaves true after s (types_in after) → Leaves false after d (types_in after) → Noted (Found store) m
        → Supplied n after s d m nodes
    supplied_grown s d m hs hd hm = record {
      single = hs;
      double = hd;
      noted = noted_grown store after f fa g m hm;
      used = λ k l.
          let o = operand_at nodes k in
          let u = and_true (in_use store o.checked) (units.in_use n (present (or_empty o.unit))) (h.used k l) in
          rw (in_use_grown store after f fa g o.checked u.0) u.1;
    }

    -- leaves of all types are those of the types that there were
    pub still_filled : (unary : Bool) (l : List ℕ) → Leaves unary store l (types_in store) → (n : ℕ) → n ≡ types_in store
        → (n ≤ types_in after) × Leaves unary after l n
    still_filled unary l k n e =
        (omega (arith, e, g.more), rw e (leaves_grown unary store after f fa g l (types_in store) (omega arith) k))

    leaves_back : (unary : Bool) (l : List ℕ) → Leaves unary after l (types_in after) → Leaves unary store l (types_in store)
    leaves_back unary l k = record {
      size = k.size;
      holds = λ t u. k.holds t (omega (arith, g.more)) ∙ leaf_grown unary store after f fa g t u;
    }

    -- and has been taken back
    pub supplied_back : (s d m : List ℕ) → Leaves true after s (types_in after) → Leaves false after d (types_in after) → Noted (Found store) m
        → Supplied n store s d m nodes
    supplied_back s d m hs hd hm = record { single = leaves_back true s hs; double = leaves_back false d hd; noted = hm; used = h.used }

-- nodes at their places, beside a store in form, are sound
pub nodes_sound : {n : ℕ} {store singles doubles memo : List ℕ} {nodes : List Node} {count : ℕ} → Placed nodes count
    → Supplied n store singles doubles memo (take count nodes) → Formed store → Sound n (state store (take count nodes))
nodes_sound {n} {store} {nodes = nodes} {count = count} p h f = record {
  form = f;
  each = λ k l.
      let x = operand_at (take count nodes) k in
      record { used = operand_in_use h k l; proper = operand_proper n store x (h.used k l) (operand_fits p k (node_below p k l)) };
}
