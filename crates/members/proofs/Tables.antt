-- The offsets and depths of a store that has grown are right for the store that it has grown out of, too (`measured_back`). Assumes
-- nothing.
use mathlib.Core.Path.{◌≡◌, sym, ◌∙◌, ap}
use mathlib.Core.List.{List, [], ◌∷◌, ◌++◌}
use Prim.Native.Nat.{ℕ, zero, suc, ◌+◌, ◌-◌, ◌<◌, ◌≤◌}
use native.Mathlib.Omega.{arith}
use native.Mathlib.Nat.{le_refl}
use lib.ListN.{length, get_or, take, length-append}
use lib.Seq.{length-take-le, take-suc, take_at}
use Rattle.pages.specs.Bytes.{count_of}
use Rattle.types.specs.Store.{offset, depth_at, depths, Formed}
use Rattle.types.specs.Types.{Measured}
use Rattle.types.specs.Making.{Grows}
use Rattle.types.proofs.Types.{whole}
use Rattle.types.proofs.Grown.{offset_grown, depths_grown}

module _ (page ds : List ℕ) where
  -- depths that are known of n + 1 entries are known of n
  known_front : (n : ℕ) → n < length ds → take (suc n) ds ≡ depths page (suc n) → take n ds ≡ depths page n
  unfolding depths
  known_front n l e =
      let x = depth_at page (depths page n) (offset page n) in
      let both : take n ds ++ (get_or ds n 0 ∷ []) ≡ depths page n ++ (x ∷ []) = sym (take-suc ds n 0 l) ∙ e in
      let size = length-take-le n ds (omega arith) in
      let lengths = ap length both in
      let left = length-append (take n ds) (get_or ds n 0 ∷ []) in
      let right = length-append (depths page n) (x ∷ []) in
      let few : length (depths page n) ≡ n = omega (arith, lengths, left, right, size) in
      sym (take_at (take n ds) (get_or ds n 0 ∷ []) n size) ∙ ap (take n) both ∙ take_at (depths page n) (x ∷ []) n few

  known_down : (k n : ℕ) → n + k ≤ length ds → take (n + k) ds ≡ depths page (n + k) → take n ds ≡ depths page n
  known_down zero n l e = let z : n + 0 ≡ n = omega arith in rw z at e
  known_down (suc k) n l e =
      let z : n + suc k ≡ suc (n + k) = omega arith in
      known_down k n (omega arith) (known_front (n + k) (omega arith) (rw z at e))

pub measured_back : (page after os ds : List ℕ) → Formed page → Grows page after → Measured after os ds → Measured page os ds
measured_back page after os ds f g m = record {
  held = record {
    sound = f;
    size = m.held.size;
    places = λ k h. m.held.places k (omega (arith, g.more)) ∙ offset_grown page after f g k h;
  };
  size = m.size;
  known =
      let n = count_of page in
      let k = count_of after - count_of page in
      let all : n + k ≡ count_of after = omega (arith, g.more) in
      let fits = (whole after m.held.sound.names m.held.sound.form).few in
      known_down after ds k n (omega (arith, all, fits, m.size)) (rw all m.known) ∙ depths_grown page after f g n (le_refl n);
}
