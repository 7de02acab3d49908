-- The family of the leaf that stands for a type: its members' families, where they share one. Assumes nothing.
use mathlib.Core.Path.{◌≡◌, refl, ap, sym, ◌∙◌}
use mathlib.Core.Bool.{Bool, true, false, cond}
use mathlib.Core.List.{List}
use Prim.Native.Nat.{ℕ, zero, suc, ◌<◌}
use native.Mathlib.Omega.{arith}
use native.Mathlib.Nat.{not-suc-le-zero}
use borrow.Author.Tests.{eq-eqb, eqb-true}
use lib.Dec.{eqb}
use Rattle.pages.specs.Quant.{all_to}
use Rattle.pages.proofs.Quant.{all_at, all_each}
use Rattle.kinds.specs.Kinds.{null, is_union}
use Rattle.types.specs.Store.{Formed}
use Rattle.types.specs.Types.{types_in, kind_of}
use Rattle.types.proofs.Types.{kind_fixed}
use Rattle.operators.specs.Operators.{no_family, family_of}
use Rattle.members.specs.Members.{size_of, member}
use Rattle.members.specs.Leaves.{key_of, agreed, leaf_of}
use Rattle.members.proofs.Members.{size_one, member_one}
use Rattle.members.proofs.Leaves.{leaf_union, leaf_itself}
use Rattle.binary.specs.Binary.{family_in}
use Rattle.binary.proofs.Rule.{never}
use Rattle.binary.proofs.Trials.{Shared}

-- the family of the leaf that stands for type t
abbrev pub standing : List ℕ → ℕ → ℕ
standing page t = family_in page (leaf_of false page t)

agreed_shared : (key : ℕ → ℕ) (n : ℕ) (x : ℕ → ℕ) → key null ≡ no_family → Shared n (λ i. key (x i)) (key (agreed key n x))
unfolding agreed
agreed_shared key zero x z =
    record { some = λ h. absurd (h z); same = λ h k. absurd (not-suc-le-zero h) }
agreed_shared key (suc n) x z = go (all_to (suc n) (λ i. eqb (key (x i)) (key (x 0)))) refl
  where
    go : (b : Bool) → all_to (suc n) (λ i. eqb (key (x i)) (key (x 0))) ≡ b → Shared (suc n) (λ i. key (x i)) (key (cond b (x 0) null))
    go true e = record {
      some = λ h. (omega arith, λ i k. eqb-true (key (x i)) (key (x 0)) (all_at (λ i. eqb (key (x i)) (key (x 0))) (suc n) i e k));
      same = λ h k. refl;
    }
    go false e = record {
      some = λ h. absurd (h z);
      same = λ h k.
          let all = all_each (suc n) (λ i. eqb (key (x i)) (key (x 0))) (λ i l. eq-eqb (key (x i)) (key (x 0)) (k i l)) in
          absurd (never (sym all ∙ e));
    }

null_family : (page : List ℕ) → family_in page null ≡ no_family
unfolding family_of
null_family page = rw (← kind_fixed page null (omega arith)) refl

module _ (page : List ℕ) (form : Formed page) (t : ℕ) (u : t < types_in page) where
  -- it is the family that the members share
  pub shared : Shared (size_of page t) (λ i. standing page (member page t i)) (standing page t)
  unfolding key_of
  shared = go (is_union (kind_of page t)) refl
    where
      go : (b : Bool) → is_union (kind_of page t) ≡ b → Shared (size_of page t) (λ i. standing page (member page t i)) (standing page t)
      go true e =
          rw (leaf_union false page form t u e)
          (agreed_shared (family_in page) (size_of page t) (λ i. leaf_of false page (member page t i)) (null_family page))
      go false e = record {
        some = λ h. (omega (arith, size_one page t e), λ i l. ap (standing page) (member_one page t e i l));
        same = λ z h. sym (ap (standing page) (member_one page t e 0 z));
      }

  -- a type that is no union stands for itself
  pub standing_plain : is_union (kind_of page t) ≡ false → standing page t ≡ family_in page t
  standing_plain e = ap (family_in page) (leaf_itself false page form t u e)
