-- The group law: two symbols have one root exactly if the pairs join them (`groups`), and no walk has more steps than there are joining pairs,
-- of which there is always a number (`joining`). Of which root wins, only `link_either` is used. Assumes nothing.
use mathlib.Core.Path.{◌≡◌, refl, sym, ◌∙◌, ap, subst}
use mathlib.Core.Logic.{◌⊎◌, inl, inr, ◌≢◌, ◌↔◌}
use mathlib.Core.Bool.{Bool, true, false}
use mathlib.Core.List.Memᴰ
use mathlib.Core.List.{List, [], ◌∷◌, ◌++◌, append_assoc, append-nil, Memᴰ}
use Prim.Native.Nat.{ℕ, zero, suc, ◌+◌, ◌-◌, ◌<◌, ◌≤◌}
use native.Mathlib.Nat.{zero-add, add-suc, suc-add, add-zero}
use native.Mathlib.Decide.{ℕ_discrete}
use native.Mathlib.Omega.{arith}
use lib.ListN.{length, get_or, set, length-set}
use lib.Seq.{get_or-set_same, get_or-set_other, set-get_or}
use lib.Dec.{eqb}
use borrow.Author.Tests.{eq-eqb, ne_eqb}
use Rattle.groups.specs.Groups.{Pair, Within, Joined, Joining, link_of, walk, enter, enter_all, selves, parents_of, root_of, Below}
use Rattle.groups.specs.Groups.Joined.{listed, same, back, chain}
use Rattle.groups.specs.Groups.Joining.{none, joins, idle}

-- ---- which root wins

-- the two that are linked are the two roots, one way round or the other
link_either : (x y : ℕ) → (((link_of x y).root ≡ x) × ((link_of x y).child ≡ y)) ⊎ (((link_of x y).root ≡ y) × ((link_of x y).child ≡ x))
link_either x y = inl (refl, refl)

-- what holds of both roots holds of the two that are linked
link_both : (C : ℕ → Type 0) (x y : ℕ) → C x → C y → C (link_of x y).root × C (link_of x y).child
link_both C x y cx cy = go (link_either x y)
  where
    go : (((link_of x y).root ≡ x) × ((link_of x y).child ≡ y)) ⊎ (((link_of x y).root ≡ y) × ((link_of x y).child ≡ x)) → C (link_of x y).root × C (link_of x y).child
    go (inl e) = (subst C (sym e.0) cx, subst C (sym e.1) cy)
    go (inr e) = (subst C (sym e.0) cy, subst C (sym e.1) cx)

-- what holds between them both ways holds between the two that are linked
link_between : (R : ℕ → ℕ → Type 0) (x y : ℕ) → R x y → R y x → R (link_of x y).child (link_of x y).root
link_between R x y xy yx = go (link_either x y)
  where
    go : (((link_of x y).root ≡ x) × ((link_of x y).child ≡ y)) ⊎ (((link_of x y).root ≡ y) × ((link_of x y).child ≡ x)) → R (link_of x y).child (link_of x y).root
    go (inl e) = subst (λ (z : ℕ). R z (link_of x y).root) (sym e.1) (subst (R y) (sym e.0) yx)
    go (inr e) = subst (λ (z : ℕ). R z (link_of x y).root) (sym e.1) (subst (R x) (sym e.0) xy)

-- ---- walks

-- a walk that starts at a root stays there
pub walk_stays : (k : ℕ) (p : List ℕ) (s : ℕ) → get_or p s 0 ≡ s → walk k p s ≡ s
unfolding walk
walk_stays zero p s e = refl
walk_stays (suc k) p s e = ap (walk k p) e ∙ walk_stays k p s e

-- it stays below n if every parent does
pub walk_below : (n k : ℕ) (p : List ℕ) (s : ℕ) → ((t : ℕ) → t < n → get_or p t 0 < n) → s < n → walk k p s < n
unfolding walk
walk_below n zero p s h l = l
walk_below n (suc k) p s h l = walk_below n k p (get_or p s 0) h (h s l)

-- j + m steps are j steps, then m more
walk_split : (j m : ℕ) (p : List ℕ) (s : ℕ) → walk (j + m) p s ≡ walk m p (walk j p s)
unfolding walk
walk_split zero m p s = rw zero-add
walk_split (suc j) m p s = rw suc-add (walk_split j m p (get_or p s 0))

-- ---- the root a is made the parent of the root b

abbrev turned : ℕ → ℕ → Bool → ℕ
turned a x true = a
turned a x false = x

-- the new root of what had the root x
abbrev turn : ℕ → ℕ → ℕ → ℕ
turn a b x = turned a x (eqb x b)

turn_yes : (a b x : ℕ) → x ≡ b → turn a b x ≡ a
turn_yes a b x e = rw (eq-eqb x b e)

turn_no : (a b x : ℕ) → x ≢ b → turn a b x ≡ x
turn_no a b x ne = rw (ne_eqb x b ne)

turn_root : (a b : ℕ) → turn a b a ≡ a
turn_root a b = elim (ℕ_discrete a b) [ yes e ↦ turn_yes a b a e | no ne ↦ turn_no a b a ne ]

module _ (p : List ℕ) (a b : ℕ) (inside : b < length p) (root_a : get_or p a 0 ≡ a) (root_b : get_or p b 0 ≡ b) where
  -- a is still a root
  still : get_or (set p b a) a 0 ≡ a
  still =
      elim (ℕ_discrete a b)
      [ yes e ↦ subst (λ (x : ℕ). get_or (set p b a) x 0 ≡ a) (sym e) (get_or-set_same p b a 0 inside) | no ne ↦ get_or-set_other p b a a 0 ne ∙ root_a ]

  -- where m steps led to a root, one more leads to the new one
  turns : (m s : ℕ) → get_or p (walk m p s) 0 ≡ walk m p s → walk (suc m) (set p b a) s ≡ turn a b (walk m p s)
  unfolding walk
  turns zero s f =
      elim (ℕ_discrete s b) [
        | yes e ↦ subst (λ (x : ℕ). get_or (set p b a) x 0 ≡ a) (sym e) (get_or-set_same p b a 0 inside) ∙ sym (turn_yes a b s e)
        | no ne ↦ get_or-set_other p b s a 0 ne ∙ f ∙ sym (turn_no a b s ne)
      ]
  turns (suc m) s f = on (turns m (get_or p s 0) f) (ℕ_discrete s b)
    where
      on : walk (suc m) (set p b a) (get_or p s 0) ≡ turn a b (walk m p (get_or p s 0)) → Dec (s ≡ b)
          → walk (suc m) (set p b a) (get_or (set p b a) s 0) ≡ turn a b (walk m p (get_or p s 0))
      on ih (yes e) =
          ap (walk (suc m) (set p b a)) (subst (λ (x : ℕ). get_or (set p b a) x 0 ≡ a) (sym e) (get_or-set_same p b a 0 inside))
          ∙ walk_stays (suc m) (set p b a) a still
          ∙ sym (turn_yes a b (walk m p (get_or p s 0)) (ap (λ (x : ℕ). walk m p (get_or p x 0)) e ∙ ap (walk m p) root_b ∙ walk_stays m p b root_b))
      on ih (no ne) = ap (walk (suc m) (set p b a)) (get_or-set_other p b s a 0 ne) ∙ ih

  -- the new root is a root
  turn_rests : (x : ℕ) → get_or p x 0 ≡ x → get_or (set p b a) (turn a b x) 0 ≡ turn a b x
  turn_rests x f =
      elim (ℕ_discrete x b) [
        | yes e ↦ rw (turn_yes a b x e) still
        | no ne ↦ rw (turn_no a b x ne) (get_or-set_other p b x a 0 ne ∙ f)
      ]

-- ---- more pairs join more

-- what some pairs join, they join with others after them
pub join_more : {ps : List Pair} (qs : List Pair) {s t : ℕ} → Joined ps s t → Joined (ps ++ qs) s t
join_more qs (listed q m) = listed q (Memᴰ.append_left qs m)
join_more qs (same s) = same s
join_more qs (back j) = back (join_more qs j)
join_more qs (chain i j) = chain (join_more qs i) (join_more qs j)

-- ---- the parents after some pairs: k steps lead to a root, which the pairs join to where the walk began, and the symbols of a pair have one root

record Stands (n : ℕ) (done : List Pair) (k : ℕ) (p : List ℕ) : Type 0 where
  size : length p ≡ n
  below : (s : ℕ) → s < n → get_or p s 0 < n
  rests : (s : ℕ) → s < n → get_or p (walk k p s) 0 ≡ walk k p s
  sound : (s : ℕ) → s < n → Joined done s (walk k p s)
  complete : (q : Pair) → Memᴰ q done → walk k p q.symbol ≡ walk k p q.base

-- what the pairs join has one root
meets : (n : ℕ) (done : List Pair) (k : ℕ) (p : List ℕ) → Stands n done k p → {s t : ℕ} → Joined done s t → walk k p s ≡ walk k p t
meets n done k p g (listed q m) = g.complete q m
meets n done k p g (same s) = refl
meets n done k p g (back j) = sym (meets n done k p g j)
meets n done k p g (chain i j) = meets n done k p g i ∙ meets n done k p g j

module _ (n : ℕ) (done : List Pair) (k : ℕ) (p : List ℕ) (g : Stands n done k p) (q : Pair) (qs : q.symbol < n) (qb : q.base < n) where
  x : ℕ
  x = walk k p q.symbol

  y : ℕ
  y = walk k p q.base

  a : ℕ
  a = (link_of x y).root

  b : ℕ
  b = (link_of x y).child

  small : (a < n) × (b < n)
  unfolding a b x y
  small =
      link_both (λ (z : ℕ). z < n) (walk k p q.symbol) (walk k p q.base) (walk_below n k p q.symbol g.below qs)
      (walk_below n k p q.base g.below qb)

  inside : b < length p
  inside = rw g.size small.1

  roots : (get_or p a 0 ≡ a) × (get_or p b 0 ≡ b)
  unfolding a b x y
  roots = link_both (λ (z : ℕ). get_or p z 0 ≡ z) (walk k p q.symbol) (walk k p q.base) (g.rests q.symbol qs) (g.rests q.base qb)

  entered : enter k p q ≡ set p b a
  unfolding enter a b x y
  entered = refl

  new : (s : ℕ) → s < n → walk (suc k) (set p b a) s ≡ turn a b (walk k p s)
  new s l = turns p a b inside roots.0 roots.1 k s (g.rests s l)

  -- the new pair joins the two roots
  across : Joined (done ++ (q ∷ [])) x y
  unfolding x y
  across =
      chain (back (join_more (q ∷ []) (g.sound q.symbol qs)))
      (chain (listed q (Memᴰ.append_right done (Memᴰ.head refl))) (join_more (q ∷ []) (g.sound q.base qb)))

  bridge : Joined (done ++ (q ∷ [])) b a
  unfolding a b
  bridge = link_between (Joined (done ++ (q ∷ []))) x y across (back across)

  -- both roots turn into a
  turn_both : (turn a b x ≡ a) × (turn a b y ≡ a)
  turn_both = go (link_either x y)
    where
      go : (((link_of x y).root ≡ x) × ((link_of x y).child ≡ y)) ⊎ (((link_of x y).root ≡ y) × ((link_of x y).child ≡ x)) → (turn a b x ≡ a) × (turn a b y ≡ a)
      go (inl e) =
          let r : x ≡ a = unfold a in (sym e.0) in
          let c : y ≡ b = unfold b in (sym e.1) in
          (ap (turn a b) r ∙ turn_root a b, turn_yes a b y c)
      go (inr e) =
          let r : y ≡ a = unfold a in (sym e.0) in
          let c : x ≡ b = unfold b in (sym e.1) in
          (turn_yes a b x c, ap (turn a b) r ∙ turn_root a b)

  sound_new : (s : ℕ) → s < n → Joined (done ++ (q ∷ [])) s (turn a b (walk k p s))
  sound_new s l =
      elim (ℕ_discrete (walk k p s) b) [
        | yes e ↦ rw (turn_yes a b (walk k p s) e) (chain (rw e at (join_more (q ∷ []) (g.sound s l))) bridge)
        | no ne ↦ rw (turn_no a b (walk k p s) ne) (join_more (q ∷ []) (g.sound s l))
      ]

  complete_new : Within n done → (r : Pair) → Memᴰ r done ⊎ Memᴰ r (q ∷ []) → walk (suc k) (set p b a) r.symbol ≡ walk (suc k) (set p b a) r.base
  unfolding Within
  complete_new within r (inl m) = new r.symbol (within r m).0 ∙ ap (turn a b) (g.complete r m) ∙ sym (new r.base (within r m).1)
  complete_new within r (inr m) =
      let t : turn a b (walk k p q.symbol) ≡ turn a b (walk k p q.base) = unfold x y in (turn_both.0 ∙ sym turn_both.1) in
      rw (Memᴰ.eq_of_singleton m) (new q.symbol qs ∙ t ∙ sym (new q.base qb))

  below_new : (s : ℕ) → s < n → get_or (set p b a) s 0 < n
  below_new s l =
      elim (ℕ_discrete s b) [
        | yes e ↦ rw (e, get_or-set_same p b a 0 inside) small.0
        | no ne ↦ rw (get_or-set_other p b s a 0 ne) (g.below s l)
      ]

  stands_more : Within n done → Stands n (done ++ (q ∷ [])) (suc k) (enter k p q)
  stands_more within = rw entered (record {
    size = length-set p b a ∙ g.size;
    below = below_new;
    rests = λ s l. rw (new s l) (turn_rests p a b inside roots.0 roots.1 (walk k p s) (g.rests s l));
    sound = λ s l. rw (new s l) (sound_new s l);
    complete = λ r m. complete_new within r (Memᴰ.append_cases done m);
  })

  -- ---- j steps lead to a root from every symbol

  -- a pair whose symbols have one root changes no parent
  enter_same : x ≡ y → enter k p q ≡ p
  unfolding a b
  enter_same e =
      let same_as : ((link_of x y).root ≡ x) × ((link_of x y).child ≡ x) = link_both (λ (z : ℕ). z ≡ x) x y refl (sym e) in
      entered ∙ ap (set p b) (same_as.0 ∙ sym same_as.1 ∙ sym roots.1) ∙ set-get_or p b 0

  -- another makes the walks one step longer at most
  enter_longer : (j : ℕ) → ((s : ℕ) → s < n → get_or p (walk j p s) 0 ≡ walk j p s)
      → (s : ℕ) → s < n → get_or (enter k p q) (walk (suc j) (enter k p q) s) 0 ≡ walk (suc j) (enter k p q) s
  enter_longer j h s l =
      let w : walk (suc j) (set p b a) s ≡ turn a b (walk j p s) = turns p a b inside roots.0 roots.1 j s (h s l) in
      rw (entered, w) (turn_rests p a b inside roots.0 roots.1 (walk j p s) (h s l))

-- ---- the pairs of a list, one after the other

within_left : (n : ℕ) (ps qs : List Pair) → Within n (ps ++ qs) → Within n ps
unfolding Within
within_left n ps qs w q m = w q (Memᴰ.append_left qs m)

within_head : (n : ℕ) (ps : List Pair) (q : Pair) (qs : List Pair) → Within n (ps ++ (q ∷ qs)) → (q.symbol < n) × (q.base < n)
unfolding Within
within_head n ps q qs w = w q (Memᴰ.append_right ps (Memᴰ.head refl))

within_next : (n : ℕ) (ps : List Pair) (q : Pair) (qs : List Pair) → Within n (ps ++ (q ∷ qs)) → Within n ((ps ++ (q ∷ [])) ++ qs)
within_next n ps q qs w = rw (append_assoc) w

stands_all : (n : ℕ) (ps done : List Pair) (k : ℕ) (p : List ℕ) → Stands n done k p → Within n (done ++ ps) → Stands n (done ++ ps) (k + length ps) (enter_all k p ps)
unfolding enter_all
stands_all n [] done k p g w = rw (append-nil, add-zero) g
stands_all n (q ∷ qs) done k p g w =
    let wq = within_head n done q qs w in
    let ih =
    stands_all n qs (done ++ (q ∷ [])) (suc k) (enter k p q) (stands_more n done k p g q wq.0 wq.1 (within_left n done (q ∷ qs) w))
    (within_next n done q qs w) in
    rw (add-suc, ← suc-add) (rw append_assoc at ih)

-- n symbols have n parents
pub length_selves : (s n : ℕ) → length (selves s n) ≡ n
unfolding selves
length_selves s zero = refl
length_selves s (suc n) = ap suc (length_selves (suc s) n)

-- each is its own
pub get_d_selves : (s n i : ℕ) → i < n → get_or (selves s n) i 0 ≡ s + i
unfolding selves
get_d_selves s zero i l = omega arith
get_d_selves s (suc n) zero l = sym (add-zero s)
get_d_selves s (suc n) (suc i) l = get_d_selves (suc s) n i (omega arith) ∙ omega arith

pub selves_below : (n : ℕ) → Below n (selves 0 n)
selves_below n s l = rw (get_d_selves 0 n s l, zero-add) l

stands_none : (n : ℕ) → Stands n [] 0 (selves 0 n)
unfolding walk
stands_none n = record {
  size = length_selves 0 n;
  below = selves_below n;
  rests = λ s l. get_d_selves 0 n s l ∙ zero-add s;
  sound = λ s l. same s;
  complete = λ q m. absurd (Memᴰ.not-nil m);
}

stands : (n : ℕ) (ps : List Pair) → Within n ps → Stands n ps (length ps) (parents_of n ps)
unfolding parents_of
stands n ps w = rw zero-add at (stands_all n ps [] 0 (selves 0 n) (stands_none n) w)

-- ---- the laws, over any number n of symbols and any pairs of symbols below it

module _ (n : ℕ) (ps : List Pair) (w : Within n ps) where
  -- a root is in the group of its symbol
  pub joined_root : (s : ℕ) → s < n → Joined ps s (root_of n ps s)
  unfolding root_of
  joined_root s l = (stands n ps w).sound s l

  -- symbols of one group have one root
  pub one_root : {s t : ℕ} → Joined ps s t → root_of n ps s ≡ root_of n ps t
  unfolding root_of
  one_root j = meets n ps (length ps) (parents_of n ps) (stands n ps w) j

  -- two symbols have one root exactly if they are in one group
  pub groups : (s t : ℕ) → s < n → t < n → (root_of n ps s ≡ root_of n ps t) ↔ Joined ps s t
  groups s t ls lt = (λ e. chain (rw e at (joined_root s ls)) (back (joined_root t lt)), one_root)

  -- a parent is a symbol below n
  pub parents_below : Below n (parents_of n ps)
  parents_below = (stands n ps w).below

  -- a root is a symbol below n
  pub root_below : (s : ℕ) → s < n → root_of n ps s < n
  unfolding root_of
  root_below s l = walk_below n (length ps) (parents_of n ps) s (stands n ps w).below l

  -- whether two symbols are in one group can be decided
  pub joined? : (s t : ℕ) → s < n → t < n → Dec (Joined ps s t)
  joined? s t ls lt =
      elim (ℕ_discrete (root_of n ps s) (root_of n ps t)) [
        | yes e ↦ yes ((groups s t ls lt).0 e)
        | no ne ↦ no (λ j. ne (one_root j))
      ]

-- ---- a walk has no more steps than there are joining pairs

shorts : (n : ℕ) (ps done : List Pair) (k i j : ℕ) (p : List ℕ) → Stands n done k p → ((s : ℕ) → s < n → get_or p (walk i p s) 0 ≡ walk i p s) → Within n (done ++ ps)
    → Joining done ps j
    → (s : ℕ) → s < n → get_or (enter_all k p ps) (walk (i + j) (enter_all k p ps) s) 0 ≡ walk (i + j) (enter_all k p ps) s
unfolding enter_all
shorts n [] done k i j p g h w none = rw add-zero h
shorts n (q ∷ qs) done k i j p g h w (joins {k = m} apart rest) =
    let wq = within_head n done q qs w in
    let g' = stands_more n done k p g q wq.0 wq.1 (within_left n done (q ∷ qs) w) in
    let longer = enter_longer n done k p g q wq.0 wq.1 i h in
    rw (add-suc, ← suc-add) (shorts n qs (done ++ (q ∷ [])) (suc k) (suc i) m (enter k p q) g' longer (within_next n done q qs w) rest)
shorts n (q ∷ qs) done k i j p g h w (idle {k = m} joined rest) =
    let wq = within_head n done q qs w in
    let g' = stands_more n done k p g q wq.0 wq.1 (within_left n done (q ∷ qs) w) in
    let e = enter_same n done k p g q wq.0 wq.1 (unfold x y in (meets n done k p g joined)) in
    shorts n qs (done ++ (q ∷ [])) (suc k) i m (enter k p q) g' (rw e h) (within_next n done q qs w) rest

-- there are no more joining pairs than pairs
joining_few : {done ps : List Pair} {j : ℕ} → Joining done ps j → j ≤ length ps
joining_few none = omega arith
joining_few (joins apart rest) = let few = joining_few rest in omega (arith, few)
joining_few (idle joined rest) = let few = joining_few rest in omega (arith, few)

-- as many steps as there are joining pairs lead to a root
pub walk_rests : (n : ℕ) (ps : List Pair) (j : ℕ) → Within n ps → Joining [] ps j → (s : ℕ) → s < n
    → get_or (parents_of n ps) (walk j (parents_of n ps) s) 0 ≡ walk j (parents_of n ps) s
unfolding parents_of
walk_rests n ps j w c s l = rw zero-add at (shorts n ps [] 0 0 j (selves 0 n) (stands_none n) (stands_none n).rests w c s l)

-- that root is the symbol's own: as many steps as there are joining pairs lead to the same place as one for every pair
pub walk_short : (n : ℕ) (ps : List Pair) (j : ℕ) → Within n ps → Joining [] ps j → (s : ℕ) → s < n → walk j (parents_of n ps) s ≡ root_of n ps s
unfolding root_of
walk_short n ps j w c s l =
    let few : j ≤ length ps = joining_few c in
    let e : j + (length ps - j) ≡ length ps = omega (arith, few) in
    sym (walk_stays (length ps - j) (parents_of n ps) (walk j (parents_of n ps) s) (walk_rests n ps j w c s l))
    ∙ sym (walk_split j (length ps - j) (parents_of n ps) s)
    ∙ ap (λ (m : ℕ). walk m (parents_of n ps) s) e

-- ---- there is a number of joining pairs

joining_after : (n : ℕ) (ps done : List Pair) → Within n (done ++ ps) → (j : ℕ) × Joining done ps j
joining_after n [] done w = (0, none)
joining_after n (q ∷ qs) done w =
    let wq = within_head n done q qs w in
    let rest = joining_after n qs (done ++ (q ∷ [])) (within_next n done q qs w) in
    elim (joined? n done (within_left n done (q ∷ qs) w) q.symbol q.base wq.0 wq.1) [
      | yes joined ↦ (rest.0, idle joined rest.1)
      | no apart ↦ (suc rest.0, joins apart rest.1)
    ]

-- there is a number of joining pairs, no more than the pairs
pub joining : (n : ℕ) (ps : List Pair) → Within n ps → (j : ℕ) × Joining [] ps j × (j ≤ length ps)
joining n ps w = let some = joining_after n ps [] w in (some.0, some.1, joining_few some.1)

-- ---- a pair that joins nothing

-- a pair whose symbols are in one group already changes no parent
pub enter_idle : (n : ℕ) (ps : List Pair) (q : Pair) → Within n ps → q.symbol < n → q.base < n → Joined ps q.symbol q.base
    → enter (length ps) (parents_of n ps) q ≡ parents_of n ps
enter_idle n ps q w qs qb joined =
    let g = stands n ps w in
    enter_same n ps (length ps) (parents_of n ps) g q qs qb (unfold x y in (meets n ps (length ps) (parents_of n ps) g joined))
