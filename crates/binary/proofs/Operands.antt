-- The operands of a binary check that passes: both are Known types (`both_known`). Assumes nothing.
use mathlib.Core.Path.{◌≡◌, refl, sym, ◌∙◌}
use mathlib.Core.Bool.{Bool, true, false, cond}
use mathlib.Core.List.{List}
use Prim.Native.Nat.{ℕ}
use Rattle.kinds.specs.Kinds.{is_union}
use Rattle.types.specs.Types.{kind_of}
use Rattle.matching.specs.declared.Checked.{Checked}
use Rattle.matching.specs.declared.Checked.TheVariants.{Known, Unknown, Function}
use Rattle.operators.specs.Operators.{no_family, fits}
use Rattle.operators.specs.Outcome.{one_error, outcome, passes, plain_binary}
use Rattle.operators.specs.declared.Reason.TheVariants.{NoMember}
use Rattle.operators.specs.declared.Outcome.{Outcome}
use Rattle.binary.specs.Binary.{family_in, beside_function, check_binary}
use Rattle.binary.proofs.Rule.{never, plain_says, fits_same, fits_some}

-- ---- a Function is of no family, which no operator takes

module _ (op : ℕ) (clash : Bool) (f : ℕ) where
  left_none : passes (plain_binary op clash no_family f) ≡ false
  left_none = (plain_says op clash no_family f).failing (go (fits op clash no_family f) refl)
    where
      go : (b : Bool) → fits op clash no_family f ≡ b → fits op clash no_family f ≡ false
      go true e = absurd (fits_some op clash no_family f e refl)
      go false e = e

  right_none : passes (plain_binary op clash f no_family) ≡ false
  right_none = (plain_says op clash f no_family).failing (go (fits op clash f no_family) refl)
    where
      go : (b : Bool) → fits op clash f no_family ≡ b → fits op clash f no_family ≡ false
      go true e = absurd (fits_some op clash f no_family e (fits_same op clash f no_family e))
      go false e = e

-- and with a union beside it there is no member either
pub beside_fails : (page : List ℕ) (t : ℕ) (o : Outcome) → passes o ≡ false → passes (beside_function page t o) ≡ false
unfolding beside_function passes
beside_fails page t o h = go (is_union (kind_of page t))
  where
    go : (b : Bool) → passes (cond b (outcome Unknown (one_error NoMember)) o) ≡ false
    go true = refl
    go false = h

module _ (page : List ℕ) (op : ℕ) (clash : Bool) where
  -- a check that passes has two Known operands
  pub both_known : (x y : Checked) → passes (check_binary page op clash x y) ≡ true
      → (l : ℕ) × (r : ℕ) × (x ≡ Known l) × (y ≡ Known r)
  unfolding check_binary passes
  both_known Unknown y h = absurd (never (sym h))
  both_known (Known l) Unknown h = absurd (never (sym h))
  both_known (Known l) (Known r) h = (l, r, refl, refl)
  both_known (Known l) (Function g) h =
      absurd (never (sym h ∙ beside_fails page l _ (right_none op clash (family_in page l))))
  both_known (Function f) Unknown h = absurd (never (sym h))
  both_known (Function f) (Known r) h =
      absurd (never (sym h ∙ beside_fails page r _ (left_none op clash (family_in page r))))
  both_known (Function f) (Function g) h = absurd (never (sym h ∙ left_none op clash no_family))
