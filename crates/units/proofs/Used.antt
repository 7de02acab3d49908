-- Whether a unit's symbols are in use, place by place. Assumes nothing.
use mathlib.Core.Path.{◌≡◌, refl, sym, ap, ap₂, ◌∙◌}
use mathlib.Core.Bool.{true, ◌&&◌}
use mathlib.Core.List.{List, [], ◌∷◌}
use Prim.Native.Nat.{ℕ, zero, suc, ◌+◌, ◌≤◌}
use native.Mathlib.Omega.{arith}
use borrow.Author.Tests.{le-leb}
use lib.ListN.{length, get_or, take}
use lib.IntN.{ℤ}
use Rattle.std.specs.List.{list_all}
use Rattle.pages.specs.Quant.{all_to}
use Rattle.pages.proofs.Quant.{and_true, all_front, all_cong, all_taken}
use Rattle.names.specs.Table.{names_max}
use Rattle.names.specs.Calls.{is_used}
use Rattle.names.proofs.Used.{used_is}
use Rattle.units.specs.Unit.{places_max, Term, ordered, in_use}
use Rattle.units.specs.Calls.{terms, terms_of, filled, present}
use Rattle.units.specs.declared.Unit.{Unit}
use Rattle.units.proofs.Form.{Places, ordered_parts}

pub in_use_head : (n : ℕ) (x : Term) (xs : List Term) → in_use n (x ∷ xs) ≡ true → is_used n x.symbol ≡ true
unfolding in_use
in_use_head n x xs h = (and_true (is_used n x.symbol) (in_use n xs) h).0

pub in_use_tail : (n : ℕ) (x : Term) (xs : List Term) → in_use n (x ∷ xs) ≡ true → in_use n xs ≡ true
unfolding in_use
in_use_tail n x xs h = (and_true (is_used n x.symbol) (in_use n xs) h).1

pub in_use_more : (n : ℕ) (x : Term) (xs : List Term) → is_used n x.symbol ≡ true → in_use n xs ≡ true → in_use n (x ∷ xs) ≡ true
unfolding in_use
in_use_more n x xs l h = rw l h

-- ---- place by place

-- the places whose symbols can be looked up
abbrev pub seen_of : Unit → Places
seen_of u = record { count = filled u; symbols = u.symbols; exponents = u.exponents }

pub filled_few : (u : Unit) → u.count ≤ places_max → (u.count ≡ filled u) × (u.count ≤ places_max)
filled_few u h = (rw (le-leb u.count places_max h), h)

-- a unit with no more symbols than places shows them all
pub present_all : (u : Unit) → u.count ≤ places_max → present u ≡ terms_of u
present_all u h = rw (← (filled_few u h).0)

-- the symbols of the terms at places, number by number
in_use_terms : (n k i : ℕ) (ss : List ℕ) (es : List ℤ) → in_use n (terms k i ss es) ≡ all_to k (λ j. is_used n (get_or ss (i + j) 0))
unfolding in_use all_to
in_use_terms n zero i ss es = refl
in_use_terms n (suc k) i ss es =
    let on : all_to k (λ j. is_used n (get_or ss (suc i + j) 0)) ≡ all_to k (λ j. is_used n (get_or ss (i + suc j) 0)) =
    all_cong _ _ k (λ j h. let e : suc i + j ≡ i + suc j = omega arith in ap (λ (m : ℕ). is_used n (get_or ss m 0)) e) in
    let e : i ≡ i + 0 = omega arith in
    ap₂ (λ (m : ℕ) b. is_used n (get_or ss m 0) && b) e (in_use_terms n k (suc i) ss es ∙ on) ∙ sym (all_front k (λ j. is_used n (get_or ss (i + j) 0)))

-- the symbols in the first places, one by one
pub used_taken : (n k : ℕ) (ss : List ℕ) (es : List ℤ) → k ≤ length ss → list_all (is_used n) (take k ss) ≡ in_use n (terms k 0 ss es)
used_taken n k ss es h =
    let on : all_to k (λ j. is_used n (get_or ss j 0)) ≡ all_to k (λ j. is_used n (get_or ss (0 + j) 0)) =
    all_cong _ _ k (λ j l. let e : j ≡ 0 + j = omega arith in ap (λ (m : ℕ). is_used n (get_or ss m 0)) e) in
    all_taken (is_used n) 0 k ss h ∙ on ∙ sym (in_use_terms n k 0 ss es)

-- the symbols of terms in form are in use, where all names are
pub ordered_used : (lo : ℕ) (xs : List Term) → ordered names_max lo xs ≡ true → in_use names_max xs ≡ true
unfolding in_use
ordered_used lo [] h = refl
ordered_used lo (x ∷ xs) h =
    let p = ordered_parts names_max lo x xs h in
    in_use_more names_max x xs (used_is names_max x.symbol p.used p.used) (ordered_used (suc x.symbol) xs p.rest)
