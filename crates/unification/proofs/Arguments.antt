-- `unify_arg`: one law for each return, and how its bindings grow. Assumes nothing.
use Rattle.std.proofs.Common.{Ok}
use mathlib.Core.Path.{◌≡◌, refl}
use mathlib.Core.Bool.{Bool, true, false, cond}
use mathlib.Core.List.{List}
use Prim.Native.Nat.{ℕ, ◌<◌}
use native.Mathlib.Omega.{arith}
use lib.Dec.{ltb}
use borrow.Author.Tests.{ltb-true}
use Rattle.pages.proofs.Quant.{and_true}
use Rattle.kinds.specs.Kinds.{callback}
use Rattle.types.specs.Store.{Formed}
use Rattle.types.specs.Types.{types_in, arity, child_of}
use Rattle.types.proofs.Types.{child_lower}
use Rattle.matching.specs.Matching.{is_kind, function_matches, in_use}
use Rattle.marks.specs.Marks.{Noted}
use Rattle.matching.specs.declared.Checked.{Checked}
use Rattle.matching.specs.declared.Checked.TheVariants.{Known, Unknown, Function}
use Rattle.matching.proofs.Matching.{known_in_use}
use Rattle.bindings.specs.declared.Bindings.{Bindings}
use Rattle.unification.specs.declared.Unified.{Unified}
use Rattle.unification.specs.Unification.{unified, said, all_pairs, unify, unify_arg, SettledAt, Given}
use Rattle.unification.proofs.Growth.{Grown, grown_refl}
use Rattle.unification.proofs.Unification.{Grows, said_grown, all_grown, unify_grown}

pub function_in_use : (page : List ℕ) (f : ℕ) → in_use page (Function f) ≡ true → f < types_in page
unfolding in_use
function_in_use page f h = ltb-true f (types_in page) (and_true (ltb f (types_in page)) (is_kind callback page f) h).0

module _ (page : List ℕ) (e : ℕ) (b : Bindings) where
  -- what is neither Known nor a Function is Unknown
  pub arg_unknown : (actual : Checked) → ((a : ℕ) → actual ≡ Known a → ⊥) → ((f : ℕ) → actual ≡ Function f → ⊥) → unified (Ok true) b ≡ unify_arg page e actual b
  unfolding unify_arg
  arg_unknown (Known a) h k = absurd (h a refl)
  arg_unknown Unknown h k = refl
  arg_unknown (Function f) h k = absurd (k f refl)

  pub arg_known : (a : ℕ) → unify page e a b ≡ unify_arg page e (Known a) b
  unfolding unify_arg
  arg_known a = refl

  pub arg_callback : (f : ℕ) → is_kind callback page e ≡ true → all_pairs (unify page) page e f b ≡ unify_arg page e (Function f) b
  unfolding unify_arg
  arg_callback f h = rw h refl

  pub arg_function : (f : ℕ) → is_kind callback page e ≡ false → said (function_matches page f (Known e)) b ≡ unify_arg page e (Function f) b
  unfolding unify_arg
  arg_function f h = rw h refl

-- a plain yes or no binds nothing, so what was settled still is
pub said_noted : (page : List ℕ) (b : Bindings) (seen : List ℕ) → Noted (SettledAt page b) seen → (x : Bool) (r : Unified) → r ≡ said x b
    → Noted (SettledAt page r.bindings) seen
said_noted page b seen n true r h = rw h n
said_noted page b seen n false r h = rw h n

module _ (page : List ℕ) (f : Formed page) (e : ℕ) (u : e < types_in page) (b : Bindings) (g : Given b (types_in page)) where
  pub unify_arg_grown : (actual : Checked) → in_use page actual ≡ true → Grown b (types_in page) (unify_arg page e actual b).bindings
  unfolding unify_arg
  unify_arg_grown Unknown h = grown_refl b (types_in page) g
  unify_arg_grown (Known a) h = unify_grown page f e a u (known_in_use page a h) b g
  unify_arg_grown (Function a) h = go (is_kind callback page e)
    where
      children : (i : ℕ) → i < arity page e → i < arity page a → Grows page (unify page) e a (types_in page) i
      children i p q =
          let x = child_lower page f e u i p in
          let v = function_in_use page a h in
          let y = child_lower page f a v i q in
          unify_grown page f (child_of page e i) (child_of page a i) (omega arith) (omega arith)

      go : (x : Bool) → Grown b (types_in page) (cond x (all_pairs (unify page) page e a b) (said (function_matches page a (Known e)) b)).bindings
      go true = all_grown page (unify page) e a (types_in page) children b g
      go false = said_grown b (types_in page) g (function_matches page a (Known e))
