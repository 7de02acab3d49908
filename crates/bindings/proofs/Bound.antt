-- Bindings: one law for each return, and what bindings in form have. Assumes nothing.
use mathlib.Core.Path.{◌≡◌}
use mathlib.Core.Bool.{Bool, true, false}
use Prim.Native.Nat.{ℕ, ◌<◌, ◌≤◌}
use lib.Dec.{leb}
use lib.ListN.{get_or}
use borrow.Author.Tests.{le-leb, lt-leb, leb-true, ltb-true}
use Rattle.pages.specs.Quant.{all_to}
use Rattle.pages.proofs.Quant.{and_true, all_at}
use Rattle.names.specs.Calls.{is_used}
use Rattle.bindings.specs.Bindings.{bindings_max, place_in, good_binding, formed, Usable}
use Rattle.bindings.specs.declared.Bindings.{Bindings}

module _ (n t : ℕ) (b : Bindings) where
  pub formed_many : bindings_max < b.count → false ≡ formed n t b
  unfolding formed
  formed_many h = rw (lt-leb b.count bindings_max h)

  pub formed_rest : b.count ≤ bindings_max → (x : Bool) → all_to b.count (good_binding n t b) ≡ x → x ≡ formed n t b
  unfolding formed
  formed_rest h x e = rw (le-leb b.count bindings_max h, e)

  pub usable : formed n t b ≡ true → Usable b t
  unfolding formed good_binding
  usable h = let z = and_true (leb b.count bindings_max) (all_to b.count (good_binding n t b)) h in record {
    few = leb-true b.count bindings_max z.0;
    used = λ i l. used i (all_at (good_binding n t b) b.count i z.1 l);
  }
    where
      used : (i : ℕ) → good_binding n t b i ≡ true → get_or b.types i 0 < t
      used i g = ltb-true (get_or b.types i 0) t (and_true (is_used n (get_or b.names i 0)) _ (and_true (leb i (place_in b i (get_or b.names i 0))) _ g).1).1
