-- The check of a binary operator: its equation, and that whether it passes, and what it then answers, depends only on the families of the
-- leaves that stand for the two types. Assumes nothing.
use Rattle.std.proofs.Common.{Ok}
use Rattle.std.specs.Prelude.{Option, Some, None}
use mathlib.Core.Path.{◌≡◌, refl, ap, ap₂, sym, ◌∙◌}
use mathlib.Core.Bool.{Bool, true, false, ◌||◌, cond}
use mathlib.Core.List.{List}
use Prim.Native.Nat.{ℕ, zero, suc, ◌+◌, ◌<◌, ◌≤◌}
use native.Mathlib.Omega.{arith}
use native.Mathlib.Nat.{not-suc-le-zero}
use lib.ListN.{length}
use Rattle.kinds.specs.Kinds.{is_union}
use Rattle.types.specs.Store.{Formed}
use Rattle.types.specs.Types.{types_in, kind_of}
use Rattle.types.specs.Recur.{below, cov}
use Rattle.types.proofs.Recur.{below_lt, cov_eq}
use Rattle.matching.specs.declared.Checked.TheVariants.{Unknown}
use Rattle.operators.specs.Operators.{fits}
use Rattle.operators.specs.Outcome.{no_error, outcome, is_known, passes, plain_binary}
use Rattle.operators.specs.declared.Outcome.{Outcome}
use Rattle.members.specs.Members.{size_of, member, Concluded, concluded}
use Rattle.members.specs.Trials.{fold_to, Tried, joined, settled}
use Rattle.members.specs.Leaves.{leaf_of}
use Rattle.members.proofs.Members.{member_lower, member_low, member_used}
use Rattle.members.proofs.Leaves.{leaf_used, leaf_plain}
use Rattle.binary.specs.Binary.{family_in, either, row_tried, rows_tried, outcome_of, any_rule, binary_rule}
use Rattle.binary.specs.Binary.{binary_by, binary_known, binary_any}
use Rattle.binary.proofs.Rule.{never, Says, plain_says, says_passes, says_joined}
use Rattle.binary.proofs.Trials.{any_says, one_at_most}
use Rattle.binary.proofs.Families.{standing, shared, standing_plain}
use Rattle.binary.proofs.Tallies.{settled_alone, settle_passes, settle_unknown}
use Rattle.binary.specs.Tally.{tally_of, settle_tally}

-- ---- rules that answer every pair of members alike

module _ (page : List ℕ) (rule other : ℕ → ℕ → Outcome) (l r : ℕ)
    (same : (i j : ℕ) → i < size_of page l → j < size_of page r
    → rule (member page l i) (member page r j) ≡ other (member page l i) (member page r j)) where
  row_same : (i n : ℕ) (q : Tried) → i < size_of page l → ((j : ℕ) → j < n → j < size_of page r)
      → row_tried page rule l r i n q ≡ row_tried page other l r i n q
  unfolding row_tried fold_to
  row_same i zero q h k = refl
  row_same i (suc n) q h k =
      ap₂ (λ (o : Outcome) (p : Tried). joined (member page l i) (Some (member page r n)) o p)
      (same i n h (k n (omega arith))) (row_same i n q h (λ j m. k j (omega arith)))

  rows_same : (m : ℕ) → ((i : ℕ) → i < m → i < size_of page l) → rows_tried page rule l r m ≡ rows_tried page other l r m
  unfolding rows_tried fold_to
  rows_same zero h = refl
  rows_same (suc m) h =
      row_same m (size_of page r) (rows_tried page rule l r m) (h m (omega arith)) (λ j k. k)
      ∙ ap (row_tried page other l r m (size_of page r)) (rows_same m (λ i k. h i (omega arith)))

  any_same : any_rule page rule l r ≡ any_rule page other l r
  unfolding any_rule
  any_same = ap (λ (q : Tried). outcome_of (settled page q).conclusion) (rows_same (size_of page l) (λ i k. k))

neither : (a b : Bool) → (a || b) ≡ false → (a ≡ false) × (b ≡ false)
neither true b h = absurd (never h)
neither false b h = (refl, h)

module _ (page : List ℕ) (form : Formed page) (l r : ℕ) (u : l < types_in page) (v : r < types_in page) where
  -- where one of two types is a union, two members are lower together
  pub pair_lower : either page l r ≡ true → (i j : ℕ) → i < size_of page l → j < size_of page r → member page l i + member page r j < l + r
  pair_lower e i j h k = go (is_union (kind_of page l)) refl
    where
      go : (b : Bool) → is_union (kind_of page l) ≡ b → member page l i + member page r j < l + r
      go true d = omega (arith, member_lower page form l u d i h, member_low page form r v j k)
      go false d = omega (arith, member_low page form l u i h, member_lower page form r v (rw d at e) j k)

-- ---- the equation: members go round again

module _ (page : List ℕ) (op : ℕ) (clash : Bool) where
  -- the answers for the pairs whose sum is below n, and for all
  abbrev default : ℕ → ℕ → Outcome
  default x y = outcome Unknown no_error

  abbrev step : ℕ → (ℕ → ℕ → ℕ → Outcome) → ℕ → ℕ → Outcome
  step n rule = binary_rule page op clash (λ x y. rule (x + y) x y)

  abbrev lower : ℕ → ℕ → ℕ → Outcome
  lower n x y = below default n (cov default step) (x + y) x y

  abbrev again : ℕ → ℕ → Outcome
  again x y = cov default step (x + y) x y

  module _ (form : Formed page) (l r : ℕ) (u : l < types_in page) (v : r < types_in page) where
    pub known_eq : binary_known page op clash l r
        ≡ cond (either page l r) (binary_any page op clash l r) (plain_binary op clash (family_in page l) (family_in page r))
    unfolding binary_known binary_any binary_by binary_rule
    known_eq = ap (λ (f : ℕ → ℕ → Outcome). f l r) (cov_eq default step (l + r)) ∙ go (either page l r) refl
      where
        plain : Outcome
        plain = plain_binary op clash (family_in page l) (family_in page r)

        go : (b : Bool) → either page l r ≡ b → cond b (any_rule page (lower (l + r)) l r) plain ≡ cond b (any_rule page again l r) plain
        go true e =
            any_same page (lower (l + r)) again l r
            (λ i j h k. ap (λ (f : ℕ → ℕ → Outcome). f (member page l i) (member page r j))
            (below_lt default (l + r) (cov default step) (member page l i + member page r j) (pair_lower page form l r u v e i j h k)))
        go false e = refl

-- ---- the law of the leaves

-- whether the check of types l and r passes, and what it then answers, is what the families of their leaves come to
abbrev pub KnownSays : List ℕ → ℕ → Bool → ℕ → ℕ → Type 0
KnownSays page op clash l r = Says op clash (standing page l) (standing page r) (binary_known page op clash l r)

module _ (page : List ℕ) (form : Formed page) (op : ℕ) (clash : Bool) where
  -- for two types, from that for their members
  says_below : (n l r : ℕ) → l + r < n → l < types_in page → r < types_in page → KnownSays page op clash l r
  unfolding binary_any
  says_below zero l r h u v = absurd (not-suc-le-zero h)
  says_below (suc n) l r h u v =
      go (either page l r) refl
      (λ e i j a b. let w = pair_lower page form l r u v e i j a b in
      says_below n (member page l i) (member page r j) (omega arith) (member_used page form l u i a) (member_used page form r v j b))
    where
      go : (b : Bool) → either page l r ≡ b
          → (either page l r ≡ true → (i j : ℕ) → i < size_of page l → j < size_of page r
          → KnownSays page op clash (member page l i) (member page r j))
          → KnownSays page op clash l r
      go true e each =
          rw (known_eq page op clash form l r u v, e)
          (any_says page (binary_known page op clash) l r op clash (λ i. standing page (member page l i))
          (λ j. standing page (member page r j)) (each e) (standing page l) (standing page r) (shared page form l u) (shared page form r v))
      go false e each =
          let p = neither (is_union (kind_of page l)) (is_union (kind_of page r)) e in
          rw (known_eq page op clash form l r u v, e, standing_plain page form l u p.0, standing_plain page form r v p.1)
          (plain_says op clash (family_in page l) (family_in page r))

  pub known_says : (l r : ℕ) → l < types_in page → r < types_in page → KnownSays page op clash l r
  known_says l r u v = says_below (suc (l + r)) l r (omega arith) u v

  module _ (l r : ℕ) (u : l < types_in page) (v : r < types_in page) where
    pub known_passes : passes (binary_known page op clash l r) ≡ fits op clash (standing page l) (standing page r)
    known_passes = says_passes (known_says l r u v)

    -- a trial of two types is a trial of their leaves' families
    pub known_joined : (x : ℕ) (y : Option ℕ) (q : Tried)
        → joined x y (binary_known page op clash l r) q ≡ joined x y (plain_binary op clash (standing page l) (standing page r)) q
    known_joined = says_joined (known_says l r u v) (plain_says op clash (standing page l) (standing page r))

    leaf_known : binary_known page op clash (leaf_of false page l) (leaf_of false page r)
        ≡ plain_binary op clash (standing page l) (standing page r)
    leaf_known =
        known_eq page op clash form (leaf_of false page l) (leaf_of false page r)
        (leaf_used false page form l u) (leaf_used false page form r v)
        ∙ rw (leaf_plain false page form l u, leaf_plain false page form r v) refl

    -- and so a trial of their leaves
    pub stand_in : (x : ℕ) (y : Option ℕ) (q : Tried)
        → joined x y (binary_known page op clash (leaf_of false page l) (leaf_of false page r)) q
        ≡ joined x y (binary_known page op clash l r) q
    stand_in x y q = ap (λ (o : Outcome). joined x y o q) leaf_known ∙ sym (known_joined x y q)

    -- where no pair of members fails there is at most one result
    pub one_result : let q = rows_tried page (binary_known page op clash) l r (size_of page l) in
        q.failed ≡ None → length q.results ≤ 1
    one_result =
        one_at_most page (binary_known page op clash) l r op clash (λ i. standing page (member page l i))
        (λ j. standing page (member page r j))
        (λ i j h k. known_says (member page l i) (member page r j) (member_used page form l u i h) (member_used page form r v j k))

    abbrev trials : Tried
    trials = rows_tried page (binary_known page op clash) l r (size_of page l)

    alone : settled page trials ≡ concluded (Ok (settle_tally (tally_of trials))) page
    alone = settled_alone page trials.results trials.failed one_result

    -- which is what src/ keeps
    pub any_tally : settle_tally (tally_of trials) ≡ binary_any page op clash l r
    unfolding binary_any any_rule outcome_of
    any_tally = sym (ap (λ (z : Concluded). outcome_of z.conclusion) alone)

    -- and no union is made: the store stays as it is, and nothing is refused
    pub any_settled : settled page trials ≡ concluded (Ok (binary_any page op clash l r)) page
    any_settled = alone ∙ ap (λ (o : Outcome). concluded (Ok o) page) any_tally

    -- a check of members passes exactly where it answers a type
    pub any_passes : passes (binary_any page op clash l r) ≡ is_known (binary_any page op clash l r).checked
    any_passes = rw any_tally at (settle_passes (tally_of trials))

    -- and else Unknown
    pub any_unknown : passes (binary_any page op clash l r) ≡ false → (binary_any page op clash l r).checked ≡ Unknown
    any_unknown h =
        rw any_tally at (settle_unknown (tally_of trials) (ap (λ (o : Outcome). is_known o.checked) any_tally ∙ sym any_passes ∙ h))
