-- A unit's bytes say the unit: reading what was written gives the same terms (`written_read`). Assumes nothing.
use mathlib.Core.Path.{◌≡◌, refl, sym, ap, ap₂, ◌∙◌}
use mathlib.Core.Bool.{true, false}
use mathlib.Core.List.{List, [], ◌∷◌}
use Prim.Native.Nat.{ℕ, ◌+◌, ◌-◌, ◌/◌, ◌%◌}
use native.Mathlib.Nat.{div-add-mod', mod-eq_of_lt}
use native.Mathlib.Omega.{arith}
use lib.ListN.{length, get_or, drop}
use lib.Seq.{drop-drop, get_or-drop}
use lib.IntN.{ℤ, pos, negsuc}
use borrow.Author.Tests.{lt-ltb, le-ltb}
use Rattle.pages.specs.Bytes.{word_at}
use Rattle.names.specs.Table.{names_max}
use Rattle.names.proofs.Used.{used_below}
use Rattle.units.specs.Unit.{Term, outside, in_use}
use Rattle.units.specs.Product.{any_outside}
use Rattle.units.proofs.Signed.{small}
use Rattle.units.proofs.Order.{or_both}
use Rattle.units.proofs.Used.{in_use_head, in_use_tail}
use Rattle.values.specs.Value.{term_bytes, signed_of, terms_at, raw_of, bytes_in, unit_bytes}

-- an exponent within its limits comes back from its sixteen bits
signed_raw : (e : ℤ) → outside e ≡ false → signed_of (raw_of e) ≡ e
signed_raw (pos n) h = let k = small (pos n) h in rw (lt-ltb n 32768 (omega arith))
signed_raw (negsuc n) h =
    let k = small (negsuc n) h in
    rw (le-ltb (65535 - n) 32768 (omega arith)) (ap negsuc (omega arith))

byte_at : (bytes : List ℕ) (at k : ℕ) (l : List ℕ) → drop at bytes ≡ l → get_or bytes (at + k) 0 ≡ get_or l k 0
byte_at bytes at k l e = sym (get_or-drop at bytes k 0) ∙ ap (λ t. get_or t k 0) e

terms_back : (bytes : List ℕ) (xs : List Term) (at : ℕ) → drop at bytes ≡ bytes_in xs → any_outside xs ≡ false → in_use names_max xs ≡ true → terms_at bytes (length xs) at ≡ xs
terms_back bytes [] at e h u = refl
terms_back bytes (x ∷ xs) at e h u =
    let o = or_both (outside x.exp) (any_outside xs) h in
    let n = raw_of x.exp in
    let z : at + 0 ≡ at = omega arith in
    let m = (used_below names_max x.symbol (in_use_head names_max x xs u)).1 in
    let s : get_or bytes at 0 ≡ x.symbol = rw z at (byte_at bytes at 0 (bytes_in (x ∷ xs)) e) ∙ mod-eq_of_lt m in
    let a : get_or bytes (at + 1) 0 ≡ n / 256 = byte_at bytes at 1 (bytes_in (x ∷ xs)) e in
    let t : at + 1 + 1 ≡ at + 2 = omega arith in
    let b : get_or bytes (at + 1 + 1) 0 ≡ n % 256 = rw t (byte_at bytes at 2 (bytes_in (x ∷ xs)) e) in
    let w : word_at bytes (at + 1) ≡ n = rw (a, b) (div-add-mod' n 256) in
    let d : drop (at + term_bytes) bytes ≡ bytes_in xs = sym (drop-drop term_bytes at bytes) ∙ ap (drop term_bytes) e in
    ap₂ {C = List Term} (λ (y : Term) (l : List Term). y ∷ l) (λ i. record { symbol = s i; exp = (ap signed_of w ∙ signed_raw x.exp o.0) i })
    (terms_back bytes xs (at + term_bytes) d o.1 (in_use_tail names_max x xs u))

pub written_read : (xs : List Term) → any_outside xs ≡ false → in_use names_max xs ≡ true → terms_at (unit_bytes xs) (length xs) 1 ≡ xs
written_read xs h u = terms_back (unit_bytes xs) xs 1 refl h u
