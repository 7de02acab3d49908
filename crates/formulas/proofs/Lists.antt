-- A list of nodes as bytes: what it comes to by its first node and the rest. Assumes nothing.
use Rattle.std.proofs.Common.{Ok, Err, Some, None, is_err}
use Rattle.refusals.specs.declared.Refusal.{Refusal}
use Rattle.refusals.specs.declared.Refusal.TheVariants.{Undefined}
use mathlib.Core.Path.{◌≡◌, refl, sym, ap, ◌∙◌}
use mathlib.Core.List.{List, [], ◌∷◌}
use Prim.Native.Nat.{ℕ, ◌+◌, ◌<◌, ◌≤◌}
use lib.ListN.{length, get_or, drop}
use Rattle.std.proofs.lemmas.List.{drop_more, drop_all}
use Rattle.formulas.specs.Nodes.{State, step_verdict, stepped, all_stepped, all_verdict}
use Rattle.formulas.specs.Bodies.{written_in, nodes_in, list_verdict}
use Rattle.formulas.specs.declared.Written.{Written}
use Rattle.formulas.proofs.Steps.{stepped_refused}

module _ (used : ℕ) (root : ℕ → ℕ) (s : State) where
  pub list_none : (Ok tt ≡ list_verdict used root s []) × (s ≡ all_stepped used root s (nodes_in []))
  unfolding list_verdict all_verdict all_stepped
  list_none = (refl, refl)

  module _ (b : List ℕ) (bs : List (List ℕ)) where
    pub list_undefined : written_in b ≡ None → (Err Undefined ≡ list_verdict used root s (b ∷ bs)) × (s ≡ all_stepped used root s (nodes_in (b ∷ bs)))
    unfolding list_verdict all_verdict all_stepped
    list_undefined e = (rw e refl, rw e refl)

    module _ (w : Written) (e : written_in b ≡ Some w) where
      pub list_refused : (r : Refusal) → step_verdict used root s w ≡ Err r
          → (Err r ≡ list_verdict used root s (b ∷ bs)) × (stepped used root s w ≡ all_stepped used root s (nodes_in (b ∷ bs)))
      unfolding list_verdict all_verdict all_stepped
      list_refused r v = (rw (e, v) refl, sym (stepped_refused used root s w (ap is_err v)) ∙ rw (e, v) refl)

      pub list_next : step_verdict used root s w ≡ Ok tt
          → (list_verdict used root (stepped used root s w) bs ≡ list_verdict used root s (b ∷ bs))
          × (all_stepped used root (stepped used root s w) (nodes_in bs) ≡ all_stepped used root s (nodes_in (b ∷ bs)))
      unfolding list_verdict all_verdict all_stepped
      list_next v = (rw (e, v) refl, rw (e, v) refl)

-- ---- a list that is gone through

module _ (used : ℕ) (root : ℕ → ℕ) (s : State) (bs : List (List ℕ)) where
  -- after i nodes: what is left of the list, from what there is by now, comes to what the whole does
  pub record Going (t : State) (i : ℕ) : Type 0 where
    pub verdict : list_verdict used root t (drop i bs) ≡ list_verdict used root s bs
    pub state : all_stepped used root t (nodes_in (drop i bs)) ≡ all_stepped used root s (nodes_in bs)

  pub going_start : Going s 0
  going_start = record { verdict = refl; state = refl }

  pub going_end : (t : State) (i : ℕ) → Going t i → length bs ≤ i
      → (Ok tt ≡ list_verdict used root s bs) × (t ≡ all_stepped used root s (nodes_in bs))
  going_end t i g l =
      let e = drop_all i bs l in
      let n = list_none used root t in
      (n.0 ∙ rw e at g.verdict, n.1 ∙ rw e at g.state)

  module _ (t : State) (i : ℕ) (g : Going t i) (l : i < length bs) where
    rest : drop i bs ≡ get_or bs i [] ∷ drop (i + 1) bs
    rest = drop_more bs i [] l

    pub going_undefined : written_in (get_or bs i []) ≡ None → (Err Undefined ≡ list_verdict used root s bs) × (t ≡ all_stepped used root s (nodes_in bs))
    going_undefined e =
        let n = list_undefined used root t (get_or bs i []) (drop (i + 1) bs) e in
        (n.0 ∙ rw rest at g.verdict, n.1 ∙ rw rest at g.state)

    module _ (w : Written) (e : written_in (get_or bs i []) ≡ Some w) where
      pub going_refused : (r : Refusal) → step_verdict used root t w ≡ Err r
          → (Err r ≡ list_verdict used root s bs) × (stepped used root t w ≡ all_stepped used root s (nodes_in bs))
      going_refused r v =
          let n = list_refused used root t (get_or bs i []) (drop (i + 1) bs) w e r v in
          (n.0 ∙ rw rest at g.verdict, n.1 ∙ rw rest at g.state)

      pub going_next : step_verdict used root t w ≡ Ok tt → Going (stepped used root t w) (i + 1)
      going_next v =
          let n = list_next used root t (get_or bs i []) (drop (i + 1) bs) w e v in
          record { verdict = n.0 ∙ rw rest at g.verdict; state = n.1 ∙ rw rest at g.state }
