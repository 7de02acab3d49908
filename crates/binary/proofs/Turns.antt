-- The loops over pairs of members, turn by turn, on plain values. Assumes nothing.
use Rattle.std.specs.Prelude.{Some}
use mathlib.Core.Path.{◌≡◌, refl, ap, ap₂, ◌∙◌}
use mathlib.Core.Bool.{Bool, true, false}
use mathlib.Core.List.{List, []}
use Prim.Native.Nat.{ℕ, ◌+◌, ◌<◌, ◌≤◌}
use native.Mathlib.Omega.{arith}
use native.Mathlib.Numerals.{add-one}
use lib.ListN.{get_or}
use Rattle.types.specs.Store.{Formed}
use Rattle.types.specs.Types.{types_in}
use Rattle.operators.specs.declared.Outcome.{Outcome}
use Rattle.members.specs.Members.{size_of, member}
use Rattle.members.specs.Trials.{fold_to, no_failure, Tried, tried, joined}
use Rattle.members.specs.Leaves.{leaf_of}
use Rattle.members.proofs.Flattening.{Flattened, member_is}
use Rattle.members.proofs.Members.{member_used}
use Rattle.members.proofs.Leaves.{leaf_low}
use Rattle.binary.specs.Binary.{either, row_tried, rows_tried, binary_known, binary_any}
use Rattle.binary.specs.Tally.{tally_of, settle_tally}
use Rattle.binary.specs.declared.Tally.{Tally}
use Rattle.binary.proofs.Binary.{pair_lower, stand_in, any_tally}

module _ (page : List ℕ) (op : ℕ) (clash : Bool) (l r : ℕ) where
  -- the trials of the first m members of l, and of the next one with the first n of r
  abbrev pub rows : ℕ → Tried
  rows m = rows_tried page (binary_known page op clash) l r m

  abbrev pub row : ℕ → ℕ → Tried
  row i n = row_tried page (binary_known page op clash) l r i n (rows i)

  pub rows_start : tally_of (tried [] no_failure) ≡ tally_of (rows 0)
  unfolding rows_tried fold_to
  rows_start = refl

  pub row_start : (i : ℕ) → rows i ≡ row i 0
  unfolding row_tried fold_to
  row_start i = refl

  pub row_end : (i n : ℕ) → n ≡ size_of page r → row i n ≡ rows (i + 1)
  unfolding rows_tried fold_to
  row_end i n e = rw (add-one i, e) refl

  row_more : (i j : ℕ) → let x = member page l i in
      let y = member page r j in
      joined x (Some y) (binary_known page op clash x y) (row i j) ≡ row i (j + 1)
  unfolding row_tried fold_to
  row_more i j = rw (add-one j) refl

-- ---- a member and its leaf, as they are read

pub record Taken (page : List ℕ) (t i x p : ℕ) : Type 0 where
  pub inside : i < size_of page t
  pub is : x ≡ member page t i
  pub leaf : p ≡ leaf_of false page x

module _ (page : List ℕ) (form : Formed page) (t : ℕ) (u : t < types_in page) where
  -- a member that is read from all of them
  module _ (types : List ℕ) (n i x : ℕ) (fl : Flattened page t n types) (h : i < n) (k : x ≡ get_or types i 0) where
    read_is : x ≡ member page t i
    read_is = member_is page t n types fl i x h k

    pub read_used : x < types_in page
    read_used = rw read_is (member_used page form t u i (omega (arith, fl.0)))

    pub read_taken : (p : ℕ) → p ≡ leaf_of false page x → Taken page t i x p
    read_taken p z = record { inside = omega (arith, fl.0); is = read_is; leaf = z }

  module _ {i x p : ℕ} (m : Taken page t i x p) where
    pub member_in : x < types_in page
    member_in = rw m.is (member_used page form t u i m.inside)

    leaf_under : p ≤ x
    leaf_under = rw m.leaf (leaf_low false page form x member_in)

    pub leaf_in_lem : p < types_in page
    leaf_in_lem = omega (arith, leaf_under, member_in)

-- ---- one pair

module _ (page : List ℕ) (form : Formed page) (op : ℕ) (clash : Bool) (l r : ℕ) (u : l < types_in page) (v : r < types_in page) where
  module _ {i j x y p q : ℕ} (m : Taken page l i x p) (n : Taken page r j y q) where
    -- where one of two types is a union, two leaves of members are lower together
    pub leaves_lower : either page l r ≡ true → p + q < l + r
    leaves_lower e =
        let lower = pair_lower page form l r u v e i j m.inside n.inside in
        omega (arith, m.is, n.is, leaf_under page form l u m, leaf_under page form r v n)

    -- the trial of the leaves is the trial of the members
    pub turn : (o : Outcome) (w z : Tally) → w ≡ tally_of (row page op clash l r i j) → o ≡ binary_known page op clash p q
        → ((t : Tried) → w ≡ tally_of t → z ≡ tally_of (joined x (Some y) o t)) → z ≡ tally_of (row page op clash l r i (j + 1))
    turn o w z a b c =
        c (row page op clash l r i j) a
        ∙ ap tally_of
        (ap (λ (o : Outcome). joined x (Some y) o (row page op clash l r i j)) (b ∙ ap₂ (binary_known page op clash) m.leaf n.leaf)
        ∙ stand_in page form op clash x y (member_in page form l u m) (member_in page form r v n) x (Some y) (row page op clash l r i j)
        ∙ ap₂ (λ (x y : ℕ). joined x (Some y) (binary_known page op clash x y) (row page op clash l r i j)) m.is n.is
        ∙ row_more page op clash l r i j)

  -- ---- and all of them

  pub row_ended : (i n : ℕ) (w : Tally) → n ≡ size_of page r → w ≡ tally_of (row page op clash l r i n)
      → w ≡ tally_of (rows page op clash l r (i + 1))
  row_ended i n w e h = h ∙ ap tally_of (row_end page op clash l r i n e)

  pub rows_ended : (w : Tally) (m : ℕ) (o : Outcome) → m ≡ size_of page l → w ≡ tally_of (rows page op clash l r m) → o ≡ settle_tally w
      → o ≡ binary_any page op clash l r
  rows_ended w m o e h k =
      k ∙ ap settle_tally h ∙ ap (λ (m : ℕ). settle_tally (tally_of (rows page op clash l r m))) e ∙ any_tally page form op clash l r u v
