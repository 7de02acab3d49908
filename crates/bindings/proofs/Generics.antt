-- `has_generic`: one law for each return. Assumes nothing.
use mathlib.Core.Path.{◌≡◌, refl, sym, ◌∙◌, ap}
use mathlib.Core.Bool.{Bool, true, false, ◌||◌, ◌&&◌}
use mathlib.Core.Logic.{⊎_elim}
use mathlib.Core.List.{List}
use Prim.Native.Nat.{ℕ, ◌+◌, ◌<◌}
use native.Mathlib.Nat.{eq-or-lt_of_le}
use native.Mathlib.Omega.{arith}
use lib.Dec.{eqb}
use lib.ListN.{length, set}
use lib.Seq.{get_or-set_same, get_or-set_other}
use borrow.Author.Tests.{eq-eqb, ne_eqb}
use Rattle.pages.specs.Quant.{any_to}
use Rattle.pages.proofs.Quant.{any_cong}
use Rattle.kinds.specs.Kinds.{generic}
use Rattle.types.specs.Store.{Formed}
use Rattle.types.specs.Types.{types_in, kind_of, arity, child_of}
use Rattle.types.specs.Recur.{below}
use Rattle.types.proofs.Recur.{below_lt, cov_eq}
use Rattle.types.proofs.Types.{child_lower}
use Rattle.bindings.specs.Generics.{is_entered, generic_rule, has_generic, Told}

module _ (page : List ℕ) (f : Formed page) (t : ℕ) (u : t < types_in page) where
  -- some child has one
  abbrev pub in_child : ℕ → Bool
  in_child i = has_generic page (child_of page t i)

  pub generic_eq : has_generic page t ≡ generic_rule page (has_generic page) t
  unfolding has_generic generic_rule
  generic_eq =
      cov_eq false (λ s rule. generic_rule page rule s) t
      ∙ ap (λ (x : Bool). eqb (kind_of page t) generic || (is_entered (kind_of page t) && x))
      (any_cong (λ i. below false t (has_generic page) (child_of page t i)) in_child (arity page t)
      (λ i l. below_lt false t (has_generic page) (child_of page t i) (child_lower page f t u i l)))

  module _ (k : ℕ) (is : k ≡ kind_of page t) where
    pub generic_itself : k ≡ generic → true ≡ has_generic page t
    unfolding generic_rule
    generic_itself e = rw (generic_eq, ← is, eq-eqb k generic e) refl

    module _ (h : k ≡ generic → ⊥) where
      pub generic_closed : is_entered k ≡ false → false ≡ has_generic page t
      unfolding generic_rule
      generic_closed e = rw (generic_eq, ← is, ne_eqb k generic h, e) refl

      pub generic_inside : is_entered k ≡ true → (x : Bool) → any_to (arity page t) in_child ≡ x → x ≡ has_generic page t
      unfolding generic_rule
      generic_inside e x a = rw (generic_eq, ← is, ne_eqb k generic h, e) (sym a)

-- one more
pub told_more : (page : List ℕ) (found : List Bool) (t : ℕ) (x : Bool) → t < length found → Told page found t → x ≡ has_generic page t → Told page (set found t x) (t + 1)
told_more page found t x l h e k m =
    ⊎_elim (λ (q : k ≡ t). rw q (get_or-set_same found t x false l ∙ e)) (λ (q : k < t). get_or-set_other found t k x false (omega arith) ∙ h k q)
    (eq-or-lt_of_le {n = k} {m = t} (omega arith))
