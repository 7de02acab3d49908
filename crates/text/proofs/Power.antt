-- A power, and what stands before it: one law for each return. Assumes nothing.
use mathlib.Core.Path.{◌≡◌, refl, sym, ◌∙◌}
use mathlib.Core.Bool.{Bool, true, false, cond}
use mathlib.Core.List.{List, [], ◌∷◌, ◌++◌, append_assoc, append-nil}
use Prim.Native.Nat.{ℕ, ◌+◌, ◌≤◌}
use native.Mathlib.Omega.{arith}
use lib.Dec.{eqb}
use lib.ListN.{length, length-append}
use borrow.Author.Tests.{eq-eqb, ne_eqb}
use Rattle.names.specs.Table.{name_max}
use Rattle.units.specs.Unit.{exponent_max}
use Rattle.digits.specs.Decimal.{decimal_of}
use Rattle.digits.proofs.Digits.{decimal_short}
use Rattle.digits.proofs.Wrote.{Wrote, wrote_none, spelled, wrote_both}
use Rattle.text.specs.Text.{power, separator}
use Rattle.text.specs.Calls.{exponent_digits}

-- ---- a power

module _ (name : List ℕ) (n : ℕ) where
  one_power : n ≡ 1 → power name n ≡ name
  unfolding power
  one_power e = rw (eq-eqb n 1 e) (append-nil name)

  more_power : (n ≡ 1 → ⊥) → power name n ≡ name ++ (94 ∷ decimal_of n)
  unfolding power
  more_power e = rw (ne_eqb n 1 e)

  -- how long it can be
  pub power_short : length name ≤ name_max → n ≤ exponent_max → length (power name n) ≤ name_max + exponent_digits + 1
  unfolding power
  power_short h k = rw (length-append name (cond (eqb n 1) [] (94 ∷ decimal_of n))) (go (eqb n 1))
    where
      go : (b : Bool) → length name + length (cond b [] (94 ∷ decimal_of n)) ≤ name_max + exponent_digits + 1
      go true = omega arith
      go false = let z = decimal_short n (omega arith) in omega arith

  module _ (o : List ℕ) (at r : ℕ) (p : List ℕ) (w : Wrote o at name r p) where
    pub power_plain : n ≡ 1 → Wrote o at (power name n) r p
    power_plain e = spelled o at name (power name n) r p (sym (one_power e)) w

    pub power_more : (s : ℕ) (q : List ℕ) (t : ℕ) (v : List ℕ) → (n ≡ 1 → ⊥) → at + length name + 1 + length (decimal_of n) ≤ length o → Wrote p r (94 ∷ []) s q → Wrote q s (decimal_of n) t v → Wrote o at (power name n) t v
    power_more s q t v e fits x y =
        let a : Wrote o at (name ++ (94 ∷ [])) s q = wrote_both o at name r p (94 ∷ []) s q (omega arith) w x in
        let b : Wrote o at ((name ++ (94 ∷ [])) ++ decimal_of n) t v = wrote_both o at (name ++ (94 ∷ [])) s q (decimal_of n) t v (rw (length-append name (94 ∷ [])) (omega arith)) a y in
        spelled o at ((name ++ (94 ∷ [])) ++ decimal_of n) (power name n) t v (append_assoc name (94 ∷ []) (decimal_of n) ∙ sym (more_power e)) b

-- ---- what stands before it

pub separator_short : (above : Bool) (text : List ℕ) → length (separator above text) ≤ 1
separator_short true [] = omega arith
separator_short false [] = omega arith
separator_short above (x ∷ text) = omega arith

module _ (above : Bool) (o : List ℕ) (start at : ℕ) (text : List ℕ) (e : at ≡ start + length text) where
  none_yet : at ≡ start → text ≡ []
  none_yet h = go text (omega arith)
    where
      go : (t : List ℕ) → length t ≡ 0 → t ≡ []
      go [] z = refl
      go (x ∷ t) z = absurd (omega arith)

  pub separator_none : at ≡ start → above ≡ true → Wrote o at (separator above text) at o
  separator_none h a = rw (none_yet h, a) (wrote_none o at)

  pub separator_lead : (r : ℕ) (p : List ℕ) → at ≡ start → above ≡ false → Wrote o at (47 ∷ []) r p → Wrote o at (separator above text) r p
  separator_lead r p h a w = rw (none_yet h, a) w

  pub separator_next : (r : ℕ) (p : List ℕ) → (at ≡ start → ⊥) → Wrote o at (42 ∷ []) r p → Wrote o at (separator above text) r p
  separator_next r p h w = go text e
    where
      go : (t : List ℕ) → at ≡ start + length t → Wrote o at (separator above t) r p
      go [] z = absurd (h (omega arith))
      go (x ∷ t) z = w
