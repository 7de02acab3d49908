-- Marks that spread from the root of a formula downwards, operands being lower than their node: once they come to node 0, those of the
-- formula are marked and no others (`spread_all`). Assumes nothing.
use mathlib.Core.Path.{◌≡◌, refl, sym, subst, ◌∙◌}
use mathlib.Core.Logic.{◌⊎◌, inl, inr, ⊎_elim}
use mathlib.Core.Bool.{Bool, true, false}
use mathlib.Core.List.{List, [], ◌∷◌, Memᴰ}
use mathlib.Core.List.Memᴰ.{head, tail}
use Prim.Native.Nat.{ℕ, zero, suc, ◌+◌, ◌<◌, ◌≤◌}
use native.Mathlib.Nat.{eq-or-lt_of_le}
use native.Mathlib.Omega.{arith}
use lib.Dec.{eqb}
use lib.ListN.{length, set, get_or, replicate, length-set, length-replicate}
use lib.Seq.{get_or-set_same, get_or-set_other}
use borrow.Author.Tests.{eqb-true, eqb-false}
use Rattle.formulas.specs.Nodes.{nodes_max}
use Rattle.formulas.specs.Below.{written_at, operands_of, Part, has_part}
use Rattle.formulas.specs.Below.Part.{itself, below as under}
use Rattle.formulas.specs.Marked.{marked}
use Rattle.formulas.specs.declared.Written.{Written}
use Rattle.formulas.proofs.Parts.{Lower, part_below, part_tested}

true_or_false : (b : Bool) → (b ≡ true) ⊎ (b ≡ false)
true_or_false true = inl refl
true_or_false false = inr refl

not_both : (b : Bool) → b ≡ true → b ≡ false → ⊥
not_both b t f = let z : ◌≡◌ {A = ℕ} 0 1 = cc in omega arith

-- where none is marked
blank_at : (n i : ℕ) → get_or (replicate n false) i false ≡ false
blank_at zero i = refl
blank_at (suc n) zero = refl
blank_at (suc n) (suc i) = blank_at n i

-- why a node is of the formula: it is the root, or an operand of one that is
part_why : {ws : List Written} {r i : ℕ} → Part ws r i → (i ≡ r) ⊎ ((n : ℕ) × Part ws r n × Memᴰ i (operands_of (written_at ws n)))
part_why itself = inl refl
part_why (under {n = n} p m) = inr (n, p, m)

-- ---- marks at some places more

pub marked_length : (marks : List Bool) (places : List ℕ) → length (marked marks places) ≡ length marks
marked_length marks [] = refl
marked_length marks (a ∷ rest) = marked_length (set marks a true) rest ∙ length-set marks a true

-- one place more
set_was : (marks : List Bool) (a i : ℕ) → get_or (set marks a true) i false ≡ true → (i ≡ a) ⊎ (get_or marks i false ≡ true)
set_was marks a i h = go (true_or_false (eqb i a))
  where
    go : (eqb i a ≡ true) ⊎ (eqb i a ≡ false) → (i ≡ a) ⊎ (get_or marks i false ≡ true)
    go (inl e) = inl (eqb-true i a e)
    go (inr e) = let n = eqb-false i a e in inr (rw (get_or-set_other marks a i true false n) at h)

set_still : (marks : List Bool) (a i : ℕ) → i < length marks → get_or marks i false ≡ true → get_or (set marks a true) i false ≡ true
set_still marks a i l h = go (true_or_false (eqb i a))
  where
    go : (eqb i a ≡ true) ⊎ (eqb i a ≡ false) → get_or (set marks a true) i false ≡ true
    go (inl e) = let q = eqb-true i a e in rw (← q, get_or-set_same marks i true false l) refl
    go (inr e) = let n = eqb-false i a e in rw (get_or-set_other marks a i true false n) h

-- what is marked was, or is one of them
pub marked_was : (marks : List Bool) (places : List ℕ) (i : ℕ) → get_or (marked marks places) i false ≡ true
    → (get_or marks i false ≡ true) ⊎ Memᴰ i places
marked_was marks [] i h = inl h
marked_was marks (a ∷ rest) i h = go (marked_was (set marks a true) rest i h)
  where
    go : (get_or (set marks a true) i false ≡ true) ⊎ Memᴰ i rest → (get_or marks i false ≡ true) ⊎ Memᴰ i (a ∷ rest)
    go (inl g) = ⊎_elim (λ (e : i ≡ a). inr (head e)) (λ (k : get_or marks i false ≡ true). inl k) (set_was marks a i g)
    go (inr m) = inr (tail m)

-- and stays so
pub marked_still : (marks : List Bool) (places : List ℕ) (i : ℕ) → i < length marks → get_or marks i false ≡ true
    → get_or (marked marks places) i false ≡ true
marked_still marks [] i l h = h
marked_still marks (a ∷ rest) i l h =
    marked_still (set marks a true) rest i (omega (arith, l, length-set marks a true)) (set_still marks a i l h)

pub marked_there : (marks : List Bool) (places : List ℕ) (i : ℕ) → i < length marks → Memᴰ i places
    → get_or (marked marks places) i false ≡ true
marked_there marks [] i l m = elim m [ ]
marked_there marks (a ∷ rest) i l (head e) =
    let s : get_or (set marks i true) i false ≡ true = get_or-set_same marks i true false l in
    marked_still (set marks a true) rest i (omega (arith, l, length-set marks a true)) (rw (← e) s)
marked_there marks (a ∷ rest) i l (tail m) = marked_there (set marks a true) rest i (omega (arith, l, length-set marks a true)) m

-- ---- marks that have spread from the root down to node k: the operands of each node of the formula from k on are marked, and only
-- nodes of the formula are

pub record Spread (ws : List Written) (r k : ℕ) (marks : List Bool) : Type 0 where
  pub places : length marks ≡ nodes_max
  pub part : (i : ℕ) → get_or marks i false ≡ true → Part ws r i
  pub root : get_or marks r false ≡ true
  pub operand : (n a : ℕ) → k ≤ n → Part ws r n → Memᴰ a (operands_of (written_at ws n)) → get_or marks a false ≡ true

module _ (ws : List Written) (count : ℕ) (low : Lower ws count) (few : count ≤ nodes_max) (r : ℕ) (l : r < count) where
  -- the root alone
  pub spread_root : Spread ws r (r + 1) (set (replicate nodes_max false) r true)
  spread_root = record {
    places = length-set (replicate nodes_max false) r true ∙ length-replicate nodes_max false;
    part = λ i h. ⊎_elim
        (λ (e : i ≡ r). subst (Part ws r) (sym e) itself)
        (λ (g : get_or (replicate nodes_max false) i false ≡ true). absurd (not_both _ g (blank_at nodes_max i)))
        (set_was (replicate nodes_max false) r i h);
    root = get_or-set_same (replicate nodes_max false) r true false (omega (arith, l, few, length-replicate nodes_max false));
    operand = λ n a g p m. absurd (omega (arith, g, part_below ws count low l p));
  }

  module _ (k : ℕ) (marks : List Bool) (h : Spread ws r (k + 1) marks) where
    -- a node of the formula is marked once they have come to it
    node_marked : Part ws r k → get_or marks k false ≡ true
    node_marked p = go (part_why p)
      where
        go : (k ≡ r) ⊎ ((n : ℕ) × Part ws r n × Memᴰ k (operands_of (written_at ws n))) → get_or marks k false ≡ true
        go (inl e) = rw e h.root
        go (inr q) = h.operand q.0 k (omega (arith, low q.0 (omega (arith, part_below ws count low l q.1, l)) k q.2)) q.1 q.2

    -- one node more: a marked one
    pub spread_marked : get_or marks k false ≡ true → Spread ws r k (marked marks (operands_of (written_at ws k)))
    spread_marked g =
        let os = operands_of (written_at ws k) in
        let p = h.part k g in
        let here : (i : ℕ) → Part ws r i → i < length marks = λ i q. omega (arith, part_below ws count low l q, l, few, h.places) in
        record {
          places = marked_length marks os ∙ h.places;
          part = λ i q. ⊎_elim (λ (x : get_or marks i false ≡ true). h.part i x) (λ (m : Memᴰ i os). under p m) (marked_was marks os i q);
          root = marked_still marks os r (here r itself) h.root;
          operand = λ n a q s m. ⊎_elim
              (λ (e : k ≡ n). marked_there marks os a (here a (under s m)) (subst (λ x. Memᴰ a (operands_of (written_at ws x))) (sym e) m))
              (λ (x : k < n). marked_still marks os a (here a (under s m)) (h.operand n a (omega (arith, x)) s m))
              (eq-or-lt_of_le {n = k} {m = n} q);
        }

    -- or another
    pub spread_other : get_or marks k false ≡ false → Spread ws r k marks
    spread_other g = record {
      places = h.places;
      part = h.part;
      root = h.root;
      operand = λ n a q s m. ⊎_elim
          (λ (e : k ≡ n). absurd (not_both _ (node_marked (subst (Part ws r) (sym e) s)) g))
          (λ (x : k < n). h.operand n a (omega (arith, x)) s m)
          (eq-or-lt_of_le {n = k} {m = n} q);
    }

  -- all the way down
  module _ (marks : List Bool) (h : Spread ws r 0 marks) where
    part_marked : {i : ℕ} → Part ws r i → get_or marks i false ≡ true
    part_marked {i} p = go (part_why p)
      where
        go : (i ≡ r) ⊎ ((n : ℕ) × Part ws r n × Memᴰ i (operands_of (written_at ws n))) → get_or marks i false ≡ true
        go (inl e) = rw e h.root
        go (inr q) = h.operand q.0 i (omega arith) q.1 q.2

    pub spread_all : (n : ℕ) → get_or marks n false ≡ has_part ws r n
    spread_all n = go (true_or_false (get_or marks n false)) (true_or_false (has_part ws r n))
      where
        go : (get_or marks n false ≡ true) ⊎ (get_or marks n false ≡ false) → (has_part ws r n ≡ true) ⊎ (has_part ws r n ≡ false)
            → get_or marks n false ≡ has_part ws r n
        go (inl e) b = e ∙ sym ((part_tested ws count low r n l).1 (h.part n e))
        go (inr e) (inl f) = part_marked ((part_tested ws count low r n l).0 f) ∙ sym f
        go (inr e) (inr f) = e ∙ sym f
