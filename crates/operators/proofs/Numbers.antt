-- A type's kind is a number's exactly where its own number is (`number_kind`): numbers are fixed types. Assumes nothing.
use mathlib.Core.Path.{◌≡◌, refl, sym, ap, ◌∙◌}
use mathlib.Core.Bool.{Bool, true, false}
use mathlib.Core.List.{List}
use Prim.Native.Nat.{ℕ, ◌+◌, ◌-◌, ◌<◌, ◌≤◌}
use native.Mathlib.Omega.{arith}
use borrow.Author.Tests.{ltb-true, ltb-false, leb-true, lt-leb}
use lib.Dec.{ltb, leb}
use Rattle.pages.proofs.Bytes.{and_false}
use Rattle.pages.proofs.Quant.{and_true}
use Rattle.kinds.specs.Kinds.{fixed_max, kind_last, is_stored}
use Rattle.types.specs.Store.{kind_at, parts_at, Formed}
use Rattle.types.specs.Types.{types_in, place_of, kind_of}
use Rattle.types.proofs.Types.{kind_fixed, kind_entry, all_good}
use Rattle.operators.specs.Operators.{is_number}

-- numbers are below the stored kinds
past_numbers : (k : ℕ) → fixed_max ≤ k → is_number k ≡ false
past_numbers k h = rw (lt-leb k 6 (omega arith), lt-leb k 12 (omega arith), and_false (leb 1 k), and_false (leb 11 k)) refl

stored_kind : (page : List ℕ) (n t o : ℕ) → parts_at page n t o ≡ true → fixed_max ≤ kind_at page o
unfolding parts_at
stored_kind page n t o h =
    leb-true fixed_max (kind_at page o) (and_true (leb fixed_max (kind_at page o)) (leb (kind_at page o) kind_last) (and_true (is_stored (kind_at page o)) _ h).0).0

-- a type in use is of a number's kind exactly where its number is one
pub number_kind : (page : List ℕ) → Formed page → (t : ℕ) → t < types_in page → is_number (kind_of page t) ≡ is_number t
number_kind page f t u = go (ltb t fixed_max) refl
  where
    go : (b : Bool) → ltb t fixed_max ≡ b → is_number (kind_of page t) ≡ is_number t
    go true e = ap is_number (sym (kind_fixed page t (ltb-true t fixed_max e)))
    go false e =
        let l = ltb-false t fixed_max e in
        let k = stored_kind page f.names (fixed_max + (t - fixed_max)) (place_of page t) (all_good page f (t - fixed_max) (omega arith)).parts in
        past_numbers (kind_of page t) (rw (kind_entry page t l) at k) ∙ sym (past_numbers t l)
