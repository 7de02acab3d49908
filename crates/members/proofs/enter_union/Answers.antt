use Prim.Native.Nat.{ℕ}
use Rattle.std.proofs.Common.{Result}
use Rattle.refusals.specs.declared.Refusal.{Refusal}
use mathlib.Core.Path.{refl, ◌∙◌, ap₂}
use mathlib.Core.List.{List}
use native.Mathlib.Omega.{arith}
use Rattle.types.proofs.Types.{measured_by}
use Rattle.members.specs.Members.{entered}
use Rattle.members.proofs.Merging.{union_one, union_wide, union_several, union_ready}
use Rattle.members.proofs.enter_union.Goals as goal

pub returns-then-types-eq1 : goal.returns-then-types-eq1
returns-then-types-eq1 c =
    let a = c.args in
    record { page_after = rw c.member_at.ensures (union_one a.maker.now.page.now a.types.now c.if-types-eq1.true); same = (refl, refl) }

pub returns-then-types-gt-CHILDREN : goal.returns-then-types-gt-CHILDREN
returns-then-types-gt-CHILDREN c =
    let a = c.args in
    record { page_after = union_wide a.maker.now.page.now a.types.now c.if-types-gt-CHILDREN.true; same = (refl, refl) }

pub enter_type-requires : goal.enter_type-requires
enter_type-requires c =
    let a = c.args in
    let few = c.if-types-gt-CHILDREN.false in
    record { children_len_bound = few; ready = union_ready a.maker.now.page.now _ _ a.types.now (measured_by a.maker.now.measured) c.requires.1 few }

pub returns : goal.returns
returns c =
    let a = c.args in
    let e = c.enter_type.ensures in record {
      page_after = ap₂ (λ (r : Result ℕ Refusal) (page : List _). entered r page) e.value.0 e.value.1
          ∙ union_several a.maker.now.page.now a.types.now (omega (arith, c.requires.0, c.if-types-eq1.false)) (omega (arith, c.if-types-gt-CHILDREN.false));
      same = e.same;
    }
