-- The tables of chains, from none on, a thing more at a time. Assumes nothing.
use mathlib.Core.Path.{◌≡◌, refl, sym}
use mathlib.Core.Bool.{Bool, true, false}
use mathlib.Core.List.{List}
use Prim.Native.Nat.{ℕ, ◌+◌, ◌<◌}
use native.Mathlib.Nat.{not-suc-le-zero}
use native.Mathlib.Numerals.{add-one}
use native.Mathlib.Omega.{arith}
use lib.ListN.{length, get_or, set, replicate, length-set}
use lib.Seq.{get_or-set_same, get_or-set_other}
use lib.Dec.{eqb}
use borrow.Author.Tests.{eqb-true, eqb-false, eq-eqb}
use Rattle.pages.proofs.Bytes.{made_at}
use Rattle.chains.specs.Last.{last_below, Heads, Links}

module _ (bucket : ℕ → ℕ) where
  pub heads_none : (n : ℕ) → Heads bucket (replicate n 0) 0
  unfolding last_below
  heads_none n b h = made_at n b

  pub links_none : (links : List ℕ) → Links bucket links 0
  links_none links j h = absurd (not-suc-le-zero h)

  pub heads_more : (heads : List ℕ) (i : ℕ) → Heads bucket heads i → bucket i < length heads → Heads bucket (set heads (bucket i) (i + 1)) (i + 1)
  unfolding last_below
  heads_more heads i h l b k = go (eqb (bucket i) b) refl
    where
      go : (x : Bool) → eqb (bucket i) b ≡ x → get_or (set heads (bucket i) (i + 1)) b 0 ≡ last_below bucket (i + 1) b
      go true e =
          let f = eqb-true (bucket i) b e in
          rw (← f, get_or-set_same heads (bucket i) (i + 1) 0 l, add-one i, eq-eqb (bucket i) (bucket i) refl) refl
      go false e =
          let f = eqb-false (bucket i) b e in
          rw (get_or-set_other heads (bucket i) b (i + 1) 0 (λ g. f (sym g)), add-one i, e) (h b (omega (arith, length-set heads (bucket i) (i + 1))))

  pub links_more : (links : List ℕ) (i v : ℕ) → Links bucket links i → i < length links → v ≡ last_below bucket i (bucket i) → Links bucket (set links i v) (i + 1)
  links_more links i v h l e j k = go (eqb j i) refl
    where
      go : (x : Bool) → eqb j i ≡ x → get_or (set links i v) j 0 ≡ last_below bucket j (bucket j)
      go true f = rw (eqb-true j i f, get_or-set_same links i v 0 l) e
      go false f =
          let g = eqb-false j i f in
          rw (get_or-set_other links i j v 0 g) (h j (omega arith))
