-- A unit with each symbol's root in its place, one term at a time, and what is gathered from it. Assumes nothing.
use mathlib.Core.Path.{◌≡◌, refl, sym, ap, ◌∙◌}
use mathlib.Core.Bool.{true, false}
use mathlib.Core.List.{List, [], ◌∷◌, ◌++◌, append-nil, append_assoc}
use Prim.Native.Nat.{ℕ, ◌+◌, ◌≤◌, ◌<◌}
use native.Mathlib.Omega.{arith}
use lib.ListN.{length, length-append}
use Rattle.names.specs.Table.{names_max}
use Rattle.units.specs.Unit.{places_max, Term, term, formed, exponent}
use Rattle.units.specs.Product.{any_outside, written}
use Rattle.units.specs.Calls.{terms_of, terms_from, unit_of, with_term}
use Rattle.units.specs.declared.Unit.{Unit}
use Rattle.units.proofs.Form.{sym_at, exp_at, from_start, from_step, from_end, formed_length}
use Rattle.units.proofs.Held.{places_of, grown, terms_unit}
use Rattle.sums.specs.Sums.{rooted, group_sums, sums_of}
use Rattle.sums.proofs.Bound.{length_rooted, rooted_inside}

-- the first i terms of u have their roots
pub record Rooting (root : ℕ → ℕ) (u v : Unit) (i : ℕ) : Type 0 where
  pub done : List Term
  pub held : v ≡ unit_of done
  pub size : length done ≡ i
  pub whole : done ++ rooted root (terms_from u i) ≡ rooted root (terms_of u)
  pub i_in : i ≤ u.count

module _ (root : ℕ → ℕ) (u : Unit) where
  pub rooting_start : (v : Unit) → v ≡ unit_of [] → Rooting root u v 0
  rooting_start v e = record {
    done = [];
    held = e;
    size = refl;
    whole = ap (rooted root) (from_start (places_of u));
    i_in = omega arith;
  }

  module _ (v : Unit) (i : ℕ) (k : Rooting root u v i) where
    pub rooting_count : v.count ≡ i
    rooting_count = ap (λ (w : Unit). w.count) k.held ∙ k.size

    pub rooting_next : i < u.count → (r : Unit) → r ≡ with_term v (root (sym_at (places_of u) i)) (exp_at (places_of u) i) → Rooting root u r (i + 1)
    rooting_next h r e =
        let x : Term = term (root (sym_at (places_of u) i)) (exp_at (places_of u) i) in
        record {
          done = k.done ++ (x ∷ []);
          held = e ∙ grown v x.symbol x.exp k.done k.held;
          size = length-append k.done (x ∷ []) ∙ ap (λ m. m + 1) k.size;
          whole =
              append_assoc k.done (x ∷ []) (rooted root (terms_from u (i + 1))) ∙ ap (λ t. k.done ++ rooted root t) (sym (from_step (places_of u) i h)) ∙ k.whole;
          i_in = omega arith;
        }

    pub rooting_end : u.count ≤ i → v ≡ unit_of (rooted root (terms_of u))
    rooting_end h =
        k.held ∙ ap unit_of (sym (append-nil k.done) ∙ ap (λ t. k.done ++ rooted root t) (sym (from_end (places_of u) i h)) ∙ k.whole)

-- what is gathered from the unit v of the roots of u are the group sums of u
module _ (root : ℕ → ℕ) (u v : Unit) (h : formed places_max names_max (terms_of u) ≡ true) (e : v ≡ unit_of (rooted root (terms_of u))) where
  few : length (rooted root (terms_of u)) ≤ places_max
  few = omega (arith, length_rooted root (terms_of u), formed_length places_max names_max (terms_of u) h)

  the_terms : terms_of v ≡ rooted root (terms_of u)
  the_terms = ap terms_of e ∙ terms_unit (rooted root (terms_of u)) few

  pub roots_count : v.count ≤ places_max
  roots_count = rw e few

  pub roots_inside : any_outside (terms_of v) ≡ false
  roots_inside = ap any_outside the_terms ∙ rooted_inside places_max names_max root (terms_of u) h

  pub roots_sums : sums_of (written names_max (λ g. exponent g (terms_of v))) ≡ sums_of (group_sums names_max root (terms_of u))
  unfolding group_sums
  roots_sums = ap (λ (l : List Term). sums_of (written names_max (λ g. exponent g l))) the_terms
