-- What the call for a unit's text comes to, one law for each return. Assumes nothing.
use Rattle.std.proofs.Common.{Ok, Err}
use mathlib.Core.Path.{◌≡◌, refl, ◌∙◌, ap}
use mathlib.Core.Bool.{true, false, not}
use mathlib.Core.List.{List, [], ◌∷◌}
use Prim.Native.Nat.{ℕ, ◌≤◌}
use native.Mathlib.Omega.{arith}
use lib.ListN.{length}
use borrow.Author.Tests.{le-leb}
use Rattle.refusals.specs.Lowest.{◌when◌}
use Rattle.refusals.specs.declared.Refusal.{Refusal}
use Rattle.refusals.specs.declared.Refusal.TheVariants.{Broken, Unused, BadUnit}
use Rattle.refusals.proofs.Lowest.{first_holds}
use Rattle.pages.specs.Bytes.{count_of}
use Rattle.names.specs.Table.{names_max}
use Rattle.names.specs.Table as names
use Rattle.units.specs.Unit.{places_max, in_use}
use Rattle.units.specs.Unit as units
use Rattle.units.specs.Calls.{terms_of, present, unit_of}
use Rattle.units.specs.declared.Unit.{Unit}
use Rattle.units.proofs.Form.{length_terms, formed_count, formed_ordered}
use Rattle.units.proofs.Order.{ordered_inside}
use Rattle.units.proofs.Held.{places_of, terms_unit}
use Rattle.order.specs.Order.{by_name}
use Rattle.text.specs.Text.{line_of}
use Rattle.text.specs.Calls.{text_max, Writable, text_verdict, text_answer}
use Rattle.pages.specs.Pad.{padded}
use Rattle.text.proofs.Kept.{by_name_length, by_name_used, by_name_inside}

module _ (page : List ℕ) (u : Unit) where
  refused_text : (r : Refusal) → text_verdict page u ≡ Err r → Err r ≡ text_answer page u
  unfolding text_answer
  refused_text r v = rw v

  pub text_broken : names.formed page ≡ false → Err Broken ≡ text_answer page u
  unfolding text_verdict
  text_broken f = refused_text Broken v
    where
      v : text_verdict page u ≡ Err Broken
      v = rw f (first_holds Broken ((Unused when not (in_use (count_of page) (present u))) ∷ (BadUnit when not (units.formed places_max names_max (terms_of u))) ∷ []) refl)

  module _ (f : names.formed page ≡ true) (n : ℕ) (e : n ≡ count_of page) where
    pub text_unused : in_use n (present u) ≡ false → Err Unused ≡ text_answer page u
    unfolding text_verdict
    text_unused k = refused_text Unused v
      where
        v : text_verdict page u ≡ Err Unused
        v = rw (f, ← e, k) (first_holds Unused ((BadUnit when not (units.formed places_max names_max (terms_of u))) ∷ []) refl)

    module _ (k : in_use n (present u) ≡ true) where
      pub text_bad_unit : units.formed places_max names_max (terms_of u) ≡ false → Err BadUnit ≡ text_answer page u
      unfolding text_verdict
      text_bad_unit g = refused_text BadUnit v
        where
          v : text_verdict page u ≡ Err BadUnit
          v = rw (f, ← e, k, g)

      module _ (g : units.formed places_max names_max (terms_of u) ≡ true) where
        -- a unit in form has no more terms than there are places
        pub formed_few : u.count ≤ places_max
        formed_few = formed_count places_max names_max (places_of u) g

        pub formed_used : in_use (count_of page) (terms_of u) ≡ true
        formed_used = rw (le-leb u.count places_max formed_few, e) at k

        sorted_few : length (by_name page (terms_of u)) ≤ places_max
        sorted_few = omega (arith, formed_few, by_name_length page (terms_of u), length_terms u.count 0 u.symbols u.exponents)

        module _ (w : Unit) (s : w ≡ unit_of (by_name page (terms_of u))) where
          sorted : terms_of w ≡ by_name page (terms_of u)
          sorted = ap terms_of s ∙ terms_unit (by_name page (terms_of u)) sorted_few

          -- the terms in order can be written
          pub sorted_writable : Writable page w
          sorted_writable = record {
            few = rw s sorted_few;
            used = rw sorted (by_name_used page (count_of page) (terms_of u) formed_used);
            inside = rw sorted (by_name_inside page (terms_of u) (ordered_inside names_max 0 (terms_of u) (formed_ordered places_max names_max (terms_of u) g)));
          }

          pub text_given : Ok (padded text_max (line_of page (terms_of w))) ≡ text_answer page u
          unfolding text_answer text_verdict
          text_given = ap (λ l. Ok (padded text_max (line_of page l))) sorted ∙ rw (f, ← e, k, g)
