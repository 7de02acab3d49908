-- What reading a value comes to, one law for each return. Assumes nothing.
use Rattle.std.proofs.Common.{Some, None, Ok, Err}
use mathlib.Core.Path.{◌≡◌}
use mathlib.Core.Bool.{true, false}
use mathlib.Core.List.{List}
use Prim.Native.Nat.{ℕ, ◌+◌, ◌*◌, ◌≤◌, ◌<◌}
use native.Mathlib.Omega.{arith}
use lib.Dec.{eqb}
use lib.ListN.{length, get_or}
use borrow.Author.Tests.{le-leb, lt-leb, eq-eqb, ne_eqb}
use Rattle.refusals.specs.declared.Refusal.TheVariants.{BadUnit}
use Rattle.pages.proofs.Bytes.{and_false}
use Rattle.units.specs.Unit.{places_max}
use Rattle.units.specs.Calls.{unit_of}
use Rattle.values.specs.Value.{none_count, term_bytes, terms_at, is_none, is_some, readable, value_verdict, unit_in, value_in}

module _ (bytes : List ℕ) where
  neither : is_none bytes ≡ false → is_some bytes ≡ false → Err BadUnit ≡ value_in bytes
  unfolding value_verdict readable unit_in
  neither h k = rw (h, k)

  pub read_nothing : length bytes < 1 → Err BadUnit ≡ value_in bytes
  read_nothing h = neither (rw (ne_eqb (length bytes) 1 (λ e. omega arith))) (rw (lt-leb 1 (length bytes) h))

  module _ (h : 1 ≤ length bytes) (n : ℕ) (e : n ≡ get_or bytes 0 0) where
    module _ (few : n ≤ places_max) where
      not_none : is_none bytes ≡ false
      not_none = rw (← e, ne_eqb n none_count (λ q. omega arith)) (and_false (eqb (length bytes) 1))

      pub read_some : length bytes ≡ 1 + term_bytes * n → Ok (Some (unit_of (terms_at bytes n 1))) ≡ value_in bytes
      unfolding value_verdict readable unit_in
      read_some l =
          let s : is_some bytes ≡ true = rw (le-leb 1 (length bytes) h, ← e, le-leb n places_max few, eq-eqb (length bytes) (1 + term_bytes * n) l) in
          rw (not_none, s, e)

      pub read_cut : (length bytes ≡ 1 + term_bytes * n → ⊥) → Err BadUnit ≡ value_in bytes
      read_cut l = neither not_none (rw (le-leb 1 (length bytes) h, ← e, le-leb n places_max few, ne_eqb (length bytes) (1 + term_bytes * n) l))

    module _ (many : places_max < n) where
      not_some : is_some bytes ≡ false
      not_some = rw (le-leb 1 (length bytes) h, ← e, lt-leb n places_max many)

      pub read_many : (n ≡ none_count → ⊥) → Err BadUnit ≡ value_in bytes
      read_many o = neither (rw (← e, ne_eqb n none_count o) (and_false (eqb (length bytes) 1))) not_some

      pub read_long : (length bytes ≡ 1 → ⊥) → Err BadUnit ≡ value_in bytes
      read_long l = neither (rw (ne_eqb (length bytes) 1 l)) not_some

      pub read_none : n ≡ none_count → length bytes ≡ 1 → Ok None ≡ value_in bytes
      unfolding value_verdict readable unit_in
      read_none o l =
          let s : is_none bytes ≡ true = rw (eq-eqb (length bytes) 1 l, ← e, eq-eqb n none_count o) in
          rw (not_some, s)
