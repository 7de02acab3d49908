-- Children in pairs: where the loop stands, and one law for each of its arms and returns. Assumes nothing.
use Rattle.std.proofs.Common.{Bool, true, false, Result, Ok, Err}
use Rattle.refusals.specs.declared.Refusal.{Refusal}
use mathlib.Core.Path.{◌≡◌, refl, sym, ◌∙◌, ap}
use mathlib.Core.Bool.{false≢true}
use mathlib.Core.List.{List}
use mathlib.Core.Logic.{⊎_elim}
use Prim.Native.Nat.{ℕ, zero, suc, ◌+◌, ◌<◌, ◌≤◌}
use native.Mathlib.Nat.{not-suc-le-zero, le_of_suc-le-suc, eq-or-lt_of_le}
use native.Mathlib.Numerals.{add-one}
use native.Mathlib.Omega.{arith}
use borrow.Author.Tests.{eq-eqb, ne_eqb}
use Rattle.types.specs.Store.{Formed}
use Rattle.types.specs.Types.{types_in, arity, child_of}
use Rattle.bindings.specs.declared.Bindings.{Bindings}
use Rattle.unification.specs.declared.Unified.{Unified}
use Rattle.unification.specs.Unification.{unified, and_then, pairs_to, all_pairs, unify, Given}
use Rattle.unification.proofs.Growth.{}
use Rattle.unification.proofs.Unification.{is_yes, unify_grown}

-- the first i pairs, of n, were answered yes, which made bindings c of b
pub record Paired (page : List ℕ) (e a n : ℕ) (b c : Bindings) (i : ℕ) : Type 0 where
  pub few : i ≤ n
  pub given : Given c (types_in page)
  pub agreed : pairs_to (unify page) page e a i b ≡ unified (Ok true) c

-- is an answer no yes
abbrev pub Ends : Result Bool Refusal → Type 0
Ends r = r ≡ Ok true → ⊥

pub err_ends : (r : Result Bool Refusal) (x : Refusal) → r ≡ Err x → Ends r
err_ends r x h k = false≢true (ap is_yes (sym h ∙ k))

pub no_ends : (r : Result Bool Refusal) (v : Bool) → r ≡ Ok v → v ≡ false → Ends r
no_ends r v h n k = false≢true (ap is_yes (ap (λ (b : Bool). Ok b) (sym n) ∙ sym h ∙ k))

then_ends : (r : Unified) (next : Bindings → Unified) → Ends r.answer → and_then r.answer r.bindings next ≡ r
unfolding and_then
then_ends r next = go r.answer
  where
    go : (q : Result Bool Refusal) → Ends q → and_then q r.bindings next ≡ unified q r.bindings
    go (Ok true) h = absurd (h refl)
    go (Ok false) h = refl
    go (Err q) h = refl

module _ (page : List ℕ) (e a n : ℕ) (b : Bindings) where
  pub paired_none : Given b (types_in page) → Paired page e a n b b 0
  unfolding pairs_to
  paired_none g = record { few = omega arith; given = g; agreed = refl }

  module _ (i : ℕ) (c : Bindings) (p : pairs_to (unify page) page e a i b ≡ unified (Ok true) c) (l : i < n) (x y : ℕ) (hx : x ≡ child_of page e i)
      (hy : y ≡ child_of page a i) (r : Unified) (h : r ≡ unify page x y c) where
    pub paired_more : Formed page → Given c (types_in page) → x < types_in page → y < types_in page → r.answer ≡ Ok true
        → Paired page e a n b r.bindings (i + 1)
    unfolding pairs_to and_then
    paired_more f g u v k = record {
      few = omega arith;
      given = rw h (unify_grown page f x y u v c g).given;
      agreed = rw (add-one i, p, ← hx, ← hy, ← h, ← k) refl;
    }

    -- what is not answered yes ends it
    pairs_end : Ends r.answer → (k : ℕ) → i < k → pairs_to (unify page) page e a k b ≡ r
    unfolding pairs_to and_then
    pairs_end z zero q = absurd (not-suc-le-zero q)
    pairs_end z (suc k) q =
        ⊎_elim (λ (w : i ≡ k). rw (← w, p, ← hx, ← hy) (sym h)) (λ (m : i < k). rw (pairs_end z k m) (then_ends r _ z))
        (eq-or-lt_of_le (le_of_suc-le-suc q))

    pub all_end : n ≡ arity page e → n ≡ arity page a → Ends r.answer → r ≡ all_pairs (unify page) page e a b
    unfolding all_pairs
    all_end q w z = rw (← q, ← w, eq-eqb n n refl) (sym (pairs_end z n l))

  pub all_uneven : (m : ℕ) → n ≡ arity page e → m ≡ arity page a → (n ≡ m → ⊥) → unified (Ok false) b ≡ all_pairs (unify page) page e a b
  unfolding all_pairs
  all_uneven m q w h = rw (← q, ← w, ne_eqb n m h) refl

  pub all_agreed : n ≡ arity page e → n ≡ arity page a → (c : Bindings) (i : ℕ) → i ≡ n → pairs_to (unify page) page e a i b ≡ unified (Ok true) c
      → unified (Ok true) c ≡ all_pairs (unify page) page e a b
  unfolding all_pairs
  all_agreed q w c i z p = rw (← q, ← w, eq-eqb n n refl, ← z) (sym p)
