-- What the const forms of stored kinds have of them. Assumes nothing.
use mathlib.Core.Path.{◌≡◌, refl, sym, ◌∙◌}
use mathlib.Core.Bool.{Bool, true, false, ◌&&◌, ◌||◌, not, cond}
use Prim.Native.Nat.{ℕ, ◌+◌, ◌-◌, ◌≤◌}
use native.Mathlib.Decide.{ℕ_discrete}
use native.Mathlib.Omega.{arith}
use lib.Dec.{eqb, leb}
use borrow.Author.Tests.{eq-eqb, ne_eqb, eqb-true, leb-true}
use Rattle.pages.specs.Quant.{all_to}
use Rattle.pages.proofs.Quant.{and_true, all_at}
use Rattle.kinds.specs.Kinds.{fixed_max, kind_last, is_named, is_stored, fewest, most, const_variant}

-- ---- the next code

-- one more is a difference of one
one_more_lem : (a b : ℕ) → b ≤ a → eqb (a - b) 1 ≡ eqb a (b + 1)
one_more_lem a b h = go (ℕ_discrete a (b + 1))
  where
    go : Dec (a ≡ b + 1) → eqb (a - b) 1 ≡ eqb a (b + 1)
    go (yes e) = eq-eqb (a - b) 1 (omega arith) ∙ sym (eq-eqb a (b + 1) e)
    go (no ne) = ne_eqb (a - b) 1 (λ e. ne (omega arith)) ∙ sym (ne_eqb a (b + 1) ne)

or_none_lem : (a : Bool) → (a || false) ≡ a
or_none_lem true = refl
or_none_lem false = refl

-- ---- what the const form of a kind that is stored has of it

alike : Bool → Bool → Bool
alike a b = cond a b (not b)

alike_eq : (a b : Bool) → alike a b ≡ true → a ≡ b
unfolding alike
alike_eq true b h = sym h
alike_eq false true h = h
alike_eq false false h = refl

kept : ℕ → Bool
kept k =
    is_stored (const_variant k)
    && (alike (is_named (const_variant k)) (is_named k)
    && (eqb (fewest (const_variant k)) (fewest k) && eqb (most (const_variant k)) (most k)))

-- the i-th of the kinds that are stored
kept_at : ℕ → Bool
kept_at i = kept (fixed_max + i)

all_kept : all_to (kind_last + 1 - fixed_max) kept_at ≡ true
unfolding all_to kept_at kept alike const_variant fewest most
all_kept = refl

pub record Keeps (k : ℕ) : Type 0 where
  pub stored : is_stored (const_variant k) ≡ true
  pub named : is_named (const_variant k) ≡ is_named k
  pub few : fewest (const_variant k) ≡ fewest k
  pub many : most (const_variant k) ≡ most k

pub variant_keeps : (k : ℕ) → is_stored k ≡ true → Keeps k
unfolding kept_at kept
variant_keeps k s =
    let l = and_true (leb fixed_max k) (leb k kind_last) s in
    let a = leb-true fixed_max k l.0 in
    let b = leb-true k kind_last l.1 in
    let e : fixed_max + (k - fixed_max) ≡ k = omega arith in
    let t : kept k ≡ true = rw e at (all_at kept_at (kind_last + 1 - fixed_max) (k - fixed_max) all_kept (omega arith)) in
    let x = and_true (is_stored (const_variant k)) _ t in
    let y = and_true (alike (is_named (const_variant k)) (is_named k)) _ x.1 in
    let z = and_true (eqb (fewest (const_variant k)) (fewest k)) _ y.1 in
    record {
      stored = x.0;
      named = alike_eq (is_named (const_variant k)) (is_named k) y.0;
      few = eqb-true (fewest (const_variant k)) (fewest k) z.0;
      many = eqb-true (most (const_variant k)) (most k) z.1;
    }
