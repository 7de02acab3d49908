-- What the trials of every pair of members come to, where each pair answers what two families come to. Assumes nothing.
use Rattle.std.specs.Prelude.{Option, Some, None}
use mathlib.Core.Path.{◌≡◌, refl, ap, ap₂, sym, ◌∙◌}
use mathlib.Core.Bool.{Bool, true, false}
use mathlib.Core.List.{List, [], ◌∷◌}
use mathlib.Core.Logic.{⊎_elim}
use Prim.Native.Nat.{ℕ, zero, suc, ◌<◌, ◌≤◌}
use native.Mathlib.Omega.{arith}
use native.Mathlib.Nat.{not-suc-le-zero, le_of_suc-le-suc, eq-or-lt_of_le}
use borrow.Author.Tests.{eq-eqb}
use lib.ListN.{length}
use Rattle.matching.specs.declared.Checked.TheVariants.{Known}
use Rattle.operators.specs.Operators.{no_family, gives, fits}
use Rattle.operators.specs.Outcome.{no_error, outcome, passes}
use Rattle.operators.specs.declared.Failing.{Failing}
use Rattle.operators.specs.declared.Outcome.{Outcome}
use Rattle.members.specs.Members.{size_of, member, has, merged, union_of}
use Rattle.members.specs.Trials.{fold_to, no_failure, failed_at, Tried, tried, joined, settled}
use Rattle.binary.specs.Binary.{row_tried, rows_tried, outcome_of, any_rule}
use Rattle.binary.proofs.Rule.{never, Says, fits_same, fits_some}

-- ---- trials that all answer type t

abbrev none : Tried
none = tried [] no_failure

abbrev one : ℕ → Tried
one t = tried (t ∷ []) no_failure

module _ (t x : ℕ) (y : Option ℕ) where
  join_first : joined x y (outcome (Known t) no_error) none ≡ one t
  unfolding joined passes merged has
  join_first = refl

  join_again : joined x y (outcome (Known t) no_error) (one t) ≡ one t
  unfolding joined passes merged has
  join_again = rw (eq-eqb t t refl) refl

-- what trials come to
abbrev comes_to : List ℕ → Tried → Outcome
comes_to page q = outcome_of (settled page q).conclusion

settle_one : (page : List ℕ) (t : ℕ) → comes_to page (one t) ≡ outcome (Known t) no_error
unfolding outcome_of settled union_of
settle_one page t = refl

-- trials that pass: there is a result, and no failure
settled_passes : (page : List ℕ) (q : Tried) → passes (comes_to page q) ≡ true → (q.failed ≡ None) × (0 < length q.results)
unfolding outcome_of settled passes
settled_passes page q = go q.results q.failed
  where
    go : (ts : List ℕ) (f : Option Failing) → passes (comes_to page (tried ts f)) ≡ true → (f ≡ None) × (0 < length ts)
    go ts (Some f) h = absurd (never (sym h))
    go [] None h = absurd (never (sym h))
    go (t ∷ ts) None h = (refl, omega arith)

-- a trial after which there is no failure
join_passes : (x : ℕ) (y : Option ℕ) (o : Outcome) (q : Tried) → (joined x y o q).failed ≡ None → (q.failed ≡ None) × (passes o ≡ true)
unfolding joined
join_passes x y o q h = go (passes o) refl
  where
    go : (a : Bool) → passes o ≡ a → (q.failed ≡ None) × (passes o ≡ true)
    go true d = (rw d at h, d)
    go false d = absurd (let n : Some (failed_at x y q.failed) ≡ None = rw d at h in let z : ◌≡◌ {A = ℕ} 0 1 = cc in omega arith)

module _ (page : List ℕ) (rule : ℕ → ℕ → Outcome) (l r : ℕ) where
  -- the answer for member i of l and member j of r
  abbrev answer : ℕ → ℕ → Outcome
  answer i j = rule (member page l i) (member page r j)

  module _ (t : ℕ) where
    row_again : (i n : ℕ) → ((j : ℕ) → j < n → answer i j ≡ outcome (Known t) no_error) → row_tried page rule l r i n (one t) ≡ one t
    unfolding row_tried fold_to
    row_again i zero h = refl
    row_again i (suc n) h =
        rw (row_again i n (λ j k. h j (omega arith)), h n (omega arith)) (join_again t (member page l i) (Some (member page r n)))

    row_first : (i n : ℕ) → ((j : ℕ) → j < suc n → answer i j ≡ outcome (Known t) no_error) → row_tried page rule l r i (suc n) none ≡ one t
    unfolding row_tried fold_to
    row_first i zero h = rw (h 0 (omega arith)) (join_first t (member page l i) (Some (member page r 0)))
    row_first i (suc n) h =
        rw (row_first i n (λ j k. h j (omega arith)), h (suc n) (omega arith)) (join_again t (member page l i) (Some (member page r (suc n))))

    rows_one : (n m : ℕ) → size_of page r ≡ suc n → ((i j : ℕ) → i < suc m → j < suc n → answer i j ≡ outcome (Known t) no_error)
        → rows_tried page rule l r (suc m) ≡ one t
    unfolding rows_tried fold_to
    rows_one n zero e h = rw e (row_first 0 n (λ j k. h 0 j (omega arith) k))
    rows_one n (suc m) e h =
        let before = rows_one n m e (λ i j a b. h i j (omega arith) b) in
        rw (before, e) (row_again (suc m) (suc n) (λ j k. h (suc m) j (omega arith) k))

  -- ---- no trial, and no failing trial

  rows_none : size_of page r ≡ 0 → (m : ℕ) → rows_tried page rule l r m ≡ none
  unfolding rows_tried row_tried fold_to
  rows_none e zero = refl
  rows_none e (suc m) = rw (rows_none e m, e) refl

  no_rows : rows_tried page rule l r 0 ≡ none
  unfolding rows_tried fold_to
  no_rows = refl

  row_passes : (i n : ℕ) (q : Tried) → (row_tried page rule l r i n q).failed ≡ None
      → (q.failed ≡ None) × ((j : ℕ) → j < n → passes (answer i j) ≡ true)
  unfolding row_tried fold_to
  row_passes i zero q h = (h, λ j k. absurd (not-suc-le-zero k))
  row_passes i (suc n) q h =
      let a = join_passes (member page l i) (Some (member page r n)) (answer i n) (row_tried page rule l r i n q) h in
      let b = row_passes i n q a.0 in
      (b.0, λ j k. ⊎_elim (λ (e : j ≡ n). rw e a.1) (λ (m : j < n). b.1 j m) (eq-or-lt_of_le (le_of_suc-le-suc k)))

  rows_pass : (m : ℕ) → (rows_tried page rule l r m).failed ≡ None → (i j : ℕ) → i < m → j < size_of page r → passes (answer i j) ≡ true
  unfolding rows_tried fold_to
  rows_pass zero h i j k = absurd (not-suc-le-zero k)
  rows_pass (suc m) h i j k =
      let a = row_passes m (size_of page r) (rows_tried page rule l r m) h in
      ⊎_elim (λ (e : i ≡ m). rw e (a.1 j)) (λ (n : i < m). rows_pass m a.0 i j n) (eq-or-lt_of_le (le_of_suc-le-suc k))

-- ---- each pair answers what two families come to

-- the family F that n members share, whose families are f 0 to f (n − 1); none where they share none
pub record Shared (n : ℕ) (f : ℕ → ℕ) (F : ℕ) : Type 0 where
  pub some : (F ≡ no_family → ⊥) → (0 < n) × ((i : ℕ) → i < n → f i ≡ F)
  pub same : 0 < n → ((i : ℕ) → i < n → f i ≡ f 0) → F ≡ f 0

module _ (page : List ℕ) (rule : ℕ → ℕ → Outcome) (l r op : ℕ) (clash : Bool) (f g : ℕ → ℕ)
    (each : (i j : ℕ) → i < size_of page l → j < size_of page r → Says op clash (f i) (g j) (rule (member page l i) (member page r j))) where
  abbrev all : Tried
  all = rows_tried page rule l r (size_of page l)

  module _ (h : all.failed ≡ None) where
    pair_fits : (i j : ℕ) → i < size_of page l → j < size_of page r → fits op clash (f i) (g j) ≡ true
    pair_fits i j a b = go (fits op clash (f i) (g j)) refl
      where
        go : (v : Bool) → fits op clash (f i) (g j) ≡ v → fits op clash (f i) (g j) ≡ true
        go true e = e
        go false e = absurd (never (sym (rows_pass page rule l r (size_of page l) h i j a b) ∙ (each i j a b).failing e))

    pair_same : (i j : ℕ) → i < size_of page l → j < size_of page r → f i ≡ g j
    pair_same i j a b = fits_same op clash (f i) (g j) (pair_fits i j a b)

    left_same : 0 < size_of page r → (i : ℕ) → i < size_of page l → f i ≡ f 0
    left_same z i a = pair_same i 0 a z ∙ sym (pair_same 0 0 (omega arith) z)

    right_same : 0 < size_of page l → (j : ℕ) → j < size_of page r → g j ≡ g 0
    right_same z j b = sym (pair_same 0 j z b) ∙ pair_same 0 0 z (omega arith)

  -- all pairs fit, all left members are of family F, and there is a pair
  module _ (F : ℕ) (fit : (i j : ℕ) → i < size_of page l → j < size_of page r → fits op clash (f i) (g j) ≡ true)
      (same : (i : ℕ) → i < size_of page l → f i ≡ F) where
    all_one : 0 < size_of page l → 0 < size_of page r → all ≡ one (gives op F)
    all_one a b = go (size_of page l) (size_of page r) refl refl
      where
        pass : (i j : ℕ) → i < size_of page l → j < size_of page r
            → rule (member page l i) (member page r j) ≡ outcome (Known (gives op F)) no_error
        pass i j p q = (each i j p q).passing (fit i j p q) ∙ ap (λ (x : ℕ). outcome (Known (gives op x)) no_error) (same i p)

        go : (m n : ℕ) → size_of page l ≡ m → size_of page r ≡ n → all ≡ one (gives op F)
        go zero n d e = absurd (omega arith)
        go (suc m) zero d e = absurd (omega arith)
        go (suc m) (suc n) d e = rw d (rows_one page rule l r (gives op F) n m e (λ i j p q. pass i j (omega arith) (omega arith)))

  -- where there is a result there are members
  sizes_some : 0 < length all.results → (0 < size_of page l) × (0 < size_of page r)
  sizes_some h = go (size_of page l) (size_of page r) refl refl
    where
      go : (m n : ℕ) → size_of page l ≡ m → size_of page r ≡ n → (0 < size_of page l) × (0 < size_of page r)
      go zero n d e = absurd (omega (arith, rw (d, no_rows page rule l r) at h))
      go (suc m) zero d e = absurd (omega (arith, rw (rows_none page rule l r e (size_of page l)) at h))
      go (suc m) (suc n) d e = (omega arith, omega arith)

  -- where no pair fails there is at most one result
  pub one_at_most : all.failed ≡ None → length all.results ≤ 1
  one_at_most h = go (size_of page l) (size_of page r) refl refl
    where
      go : (m n : ℕ) → size_of page l ≡ m → size_of page r ≡ n → length all.results ≤ 1
      go zero n d e = rw (d, no_rows page rule l r) (omega arith)
      go (suc m) zero d e = rw (rows_none page rule l r e (size_of page l)) (omega arith)
      go (suc m) (suc n) d e =
          rw (all_one (f 0) (pair_fits h) (left_same h (omega arith)) (omega arith) (omega arith)) (omega arith)

  -- and all pairs together answer what the two shared families come to
  module _ (F G : ℕ) (left : Shared (size_of page l) f F) (right : Shared (size_of page r) g G) where
    pub any_says : Says op clash F G (any_rule page rule l r)
    unfolding any_rule
    any_says = record { passing = passed; failing = failed }
      where
        passed : fits op clash F G ≡ true → comes_to page all ≡ outcome (Known (gives op F)) no_error
        passed h =
            let a = fits_some op clash F G h in
            let e = fits_same op clash F G h in
            let m = left.some a in
            let n = right.some (λ z. a (e ∙ z)) in
            ap (comes_to page) (all_one F (λ i j p q. rw (m.1 i p, n.1 j q) h) m.1 m.0 n.0) ∙ settle_one page (gives op F)

        failed : fits op clash F G ≡ false → passes (comes_to page all) ≡ false
        failed h = go (passes (comes_to page all)) refl
          where
            go : (b : Bool) → passes (comes_to page all) ≡ b → passes (comes_to page all) ≡ false
            go false e = e
            go true e =
                let p = settled_passes page all e in
                let z = sizes_some p.1 in
                let x = left.same z.0 (left_same p.0 z.1) in
                let y = right.same z.1 (right_same p.0 z.0) in
                absurd (never (sym (pair_fits p.0 0 0 z.0 z.1) ∙ sym (ap₂ (fits op clash) x y) ∙ h))
