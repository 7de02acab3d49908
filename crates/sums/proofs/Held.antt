-- Group sums in their struct, and whether two are the same. Assumes nothing.
use mathlib.Core.Path.{◌≡◌, refl, sym, ap, ◌∙◌}
use mathlib.Core.Bool.{Bool, true, ◌&&◌}
use mathlib.Core.List.{List}
use Prim.Native.Nat.{ℕ, ◌≤◌}
use lib.Dec.{eqb}
use lib.ListN.{length}
use Rattle.names.specs.Table.{names_max}
use Rattle.units.specs.Unit.{places_max, Term, formed}
use Rattle.units.specs.Calls.{terms_of}
use Rattle.units.specs.declared.Unit.{Unit}
use Rattle.units.proofs.Held.{terms_unit}
use Rattle.sums.specs.Sums.{group_sums, sums_of, sums_in}
use Rattle.sums.specs.declared.Sums.{Sums}
use Rattle.sums.proofs.Bound.{sums_bound}
use Rattle.std.specs.Bool.{Decides}
use Rattle.std.specs.Cmp.Lexicographic.{pointwise}
use Rattle.std.specs.Ordering.{int_eq}
use Rattle.std.proofs.lemmas.Bool.{eqb-true}
use Rattle.std.proofs.lemmas.Bool.Decides.{Decides-eqb, Decides-int_eq}
use Rattle.std.proofs.lemmas.Slice.Eq.{slice_eq-Decides}
use Rattle.pages.proofs.Quant.{and_true}
use Rattle.sums.specs.contracts.SumsEq.TheImpl.Laws as sums

-- the sums that are held are those that the struct was made of
terms_sums : (l : List Term) → length l ≤ places_max → sums_in (sums_of l) ≡ l
terms_sums l h = terms_unit l h

-- the struct of a unit's group sums
module _ (root : ℕ → ℕ) (u : Unit) (h : formed places_max names_max (terms_of u) ≡ true) (w : Sums) (e : w ≡ sums_of (group_sums names_max root (terms_of u))) where
  sums_held : sums_in w ≡ group_sums names_max root (terms_of u)
  sums_held = ap sums_in e ∙ terms_sums (group_sums names_max root (terms_of u)) (sums_bound places_max names_max root (terms_of u) h).1

-- ---- two

module _ (a b : Sums) where
  equal_parts : (r : Bool) → r ≡ eqb a.terms.count b.terms.count && (pointwise eqb a.terms.symbols b.terms.symbols && pointwise int_eq a.terms.exponents b.terms.exponents) → r ≡ true → a ≡ b
  equal_parts r e t =
      let p = and_true (eqb a.terms.count b.terms.count) (pointwise eqb a.terms.symbols b.terms.symbols && pointwise int_eq a.terms.exponents b.terms.exponents) (sym e ∙ t) in
      let q = and_true (pointwise eqb a.terms.symbols b.terms.symbols) (pointwise int_eq a.terms.exponents b.terms.exponents) p.1 in
      let symbols = (slice_eq-Decides Decides-eqb a.terms.symbols b.terms.symbols _ refl).0 q.0 in
      let exponents = (slice_eq-Decides Decides-int_eq a.terms.exponents b.terms.exponents _ refl).0 q.1 in
      λ i. record { terms = record { count = eqb-true a.terms.count b.terms.count p.0 i; symbols = symbols i; exponents = exponents i } }

-- `==` says whether the group sums of two units are the same
module _ (root : ℕ → ℕ) (u v : Unit) (h : formed places_max names_max (terms_of u) ≡ true) (k : formed places_max names_max (terms_of v) ≡ true) where
  pub equal_sums : (a b : Sums) → a ≡ sums_of (group_sums names_max root (terms_of u)) → b ≡ sums_of (group_sums names_max root (terms_of v))
      → (r : Bool) → r ≡ eqb a.terms.count b.terms.count && (pointwise eqb a.terms.symbols b.terms.symbols && pointwise int_eq a.terms.exponents b.terms.exponents)
      → Decides r (group_sums names_max root (terms_of u) ≡ group_sums names_max root (terms_of v))
  equal_sums a b ea eb r e = (
    λ t. sym (sums_held root u h a ea) ∙ ap sums_in (equal_parts a b r e t) ∙ sums_held root v k b eb,
    λ q. e ∙ rw (ea ∙ ap sums_of q ∙ sym eb) (sums.laws-law.refl b),
  )
