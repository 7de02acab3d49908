-- Tests on bytes, names and pages, one law for each return. Assumes nothing.
use mathlib.Core.Path.{◌≡◌, refl, sym}
use mathlib.Core.Bool.{Bool, true, false}
use mathlib.Core.List.{List}
use mathlib.Core.Logic.{⊎_elim}
use Prim.Native.Nat.{ℕ, zero, suc, ◌+◌, ◌<◌, ◌≤◌}
use native.Mathlib.Numerals.{add-one}
use native.Mathlib.Omega.{arith}
use native.Mathlib.Nat.{not-suc-le-zero, le_of_suc-le-suc, eq-or-lt_of_le}
use lib.ListN.{length, get_or, take, drop}
use lib.Dec.{leb}
use borrow.Author.Tests.{le-leb, lt-leb}
use Rattle.pages.specs.Quant.{all_to}
use Rattle.pages.specs.Bytes.{eqs, zeros, count_bytes, count_of}
use Rattle.pages.proofs.Quant.{all_failed}
use Rattle.names.specs.Table.{names_max, name_max, digit, name_byte_at, well_named, offset, name_at, named, number_of, good_at, formed}

-- ---- names

module _ (name : List ℕ) where
  module _ (h : 1 ≤ length name) (k : length name ≤ name_max) where
    pub named_all : digit (get_or name 0 0) ≡ false → all_to (length name) (name_byte_at name) ≡ well_named name
    unfolding well_named
    named_all d = rw (le-leb 1 (length name) h, le-leb (length name) name_max k, d)

-- ---- offsets

pub offset_suc : (page : List ℕ) (i : ℕ) → offset page (i + 1) ≡ offset page i + 1 + get_or page (offset page i) 0
unfolding offset
offset_suc page i = rw (add-one i)

pub offset_lt : (page : List ℕ) (i n : ℕ) → i < n → offset page i + 1 + get_or page (offset page i) 0 ≤ offset page n
unfolding offset
offset_lt page i zero h = absurd (not-suc-le-zero h)
offset_lt page i (suc n) h =
    ⊎_elim (λ (e : i ≡ n). rw e (omega arith)) (λ (l : i < n). let z = offset_lt page i n l in omega arith) (eq-or-lt_of_le (le_of_suc-le-suc h))

pub offset_ge : (page : List ℕ) (n : ℕ) → count_bytes ≤ offset page n
unfolding offset
offset_ge page zero = omega arith
offset_ge page (suc n) = let z = offset_ge page n in omega arith

-- a loop that steps from name to name
module _ (page : List ℕ) (i at n : ℕ) (e : at ≡ offset page i) (h : i < n) (f : offset page n ≤ length page) where
  pub step_in : at + 1 + get_or page at 0 ≤ length page
  step_in = rw e (let z = offset_lt page i n h in omega arith)

  pub step_at : at + 1 + get_or page at 0 ≡ offset page (i + 1)
  step_at = rw e (sym (offset_suc page i))

-- the name that stands there
pub name_there : (page : List ℕ) (i at : ℕ) → at ≡ offset page i → take (get_or page at 0) (drop (at + 1) page) ≡ name_at page i
unfolding name_at
name_there page i at e = rw e

-- a test on it, of either outcome
pub found_at : (page : List ℕ) (i : ℕ) (there name : List ℕ) → there ≡ name_at page i → (b : Bool) → eqs there name ≡ b → named page name i ≡ b
unfolding named
found_at page i there name e b h = rw (← e) h

-- ---- the form, test by test

module _ (page : List ℕ) (i at end : ℕ) (e : at ≡ offset page i) (k : end ≡ at + 1 + get_or page at 0) where
  next_is : end ≡ offset page (suc i)
  unfolding offset
  next_is = rw (k, e)

  pub bad_long : length page < end → good_at page i ≡ false
  unfolding good_at
  bad_long h = rw (← next_is, lt-leb end (length page) h)

  module _ (h : end ≤ length page) (name : List ℕ) (is : name ≡ name_at page i) where
    pub bad_name : well_named name ≡ false → good_at page i ≡ false
    unfolding good_at
    bad_name w = let v : well_named (name_at page i) ≡ false = rw is at w in rw (← next_is, le-leb end (length page) h, v)

    pub good_name : well_named name ≡ true → (n : ℕ) → n ≡ number_of page i name → good_at page i ≡ leb i n
    unfolding good_at
    good_name w n m =
        let v : well_named (name_at page i) ≡ true = rw is at w in
        let o : n ≡ number_of page i (name_at page i) = rw is at m in
        rw (← next_is, le-leb end (length page) h, v, o)

pub bad_past : (page : List ℕ) (i at : ℕ) → at ≡ offset page i → length page ≤ at → good_at page i ≡ false
bad_past page i at e h = bad_long page i at (at + 1 + get_or page at 0) e refl (omega arith)

pub unformed_short : (page : List ℕ) → length page < count_bytes → false ≡ formed page
unfolding formed
unformed_short page h = rw (lt-leb count_bytes (length page) h)

module _ (page : List ℕ) (n : ℕ) (e : n ≡ count_of page) (h : count_bytes ≤ length page) where
  pub unformed_many : names_max < n → false ≡ formed page
  unfolding formed
  unformed_many k = rw (← e, le-leb count_bytes (length page) h, lt-leb n names_max k)

  pub unformed_at : n ≤ names_max → (i : ℕ) → i < n → good_at page i ≡ false → false ≡ formed page
  unfolding formed
  unformed_at k i l b = rw (← e, le-leb count_bytes (length page) h, le-leb n names_max k, all_failed (good_at page) n i l b)

  pub formed_when : n ≤ names_max → all_to n (good_at page) ≡ true → (at : ℕ) → at ≡ offset page n → zeros (drop at page) ≡ formed page
  unfolding formed
  formed_when k a at o = rw (← e, le-leb count_bytes (length page) h, le-leb n names_max k, a, o)
