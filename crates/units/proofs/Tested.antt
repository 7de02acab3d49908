-- Sums of exponents over the terms whose symbol passes a test: that it is one symbol, or that it is in a group. A product's sum is the
-- sum of its units' sums, and a quotient's their difference (`merged_sum`), whatever the test. Assumes nothing.
use mathlib.Core.Path.{◌≡◌, refl, sym, ap, ap₂, ◌∙◌}
use mathlib.Core.Bool.{Bool, true, false, cond}
use mathlib.Core.List.{List, [], ◌∷◌}
use Prim.Native.Nat.{ℕ}
use native.Mathlib.Omega.{arith}
use lib.Dec.{ltb, eqb}
use lib.IntN.{ℤ, pos, neg_ℤ, ◌+ℤ◌, +ℤ_idl, +ℤ_assoc, +ℤ_comm, neg_ℤ-+ℤ}
use borrow.Author.Tests.{ltb-false}
use Rattle.units.specs.Unit.{Term, term, is_zero, exponent}
use Rattle.units.specs.Product.{combine}
use Rattle.units.specs.Merge.{turn, turned, joined, weave, merge}
use Rattle.units.proofs.Signed.{zero_is}

-- ---- sums of integers

pub swap : (a b c : ℤ) → a +ℤ (b +ℤ c) ≡ b +ℤ (a +ℤ c)
swap a b c = sym (+ℤ_assoc a b c) ∙ ap (λ z. z +ℤ c) (+ℤ_comm a b) ∙ +ℤ_assoc b a c

four : (a b c d : ℤ) → (a +ℤ b) +ℤ (c +ℤ d) ≡ (a +ℤ c) +ℤ (b +ℤ d)
four a b c d = +ℤ_assoc a b (c +ℤ d) ∙ ap (λ z. a +ℤ z) (swap b c d) ∙ sym (+ℤ_assoc a c (b +ℤ d))

pub combine_turn : (d : Bool) (e f : ℤ) → combine d e f ≡ e +ℤ turn d f
combine_turn true e f = refl
combine_turn false e f = refl

-- ---- what a term counts where its symbol passes, or not

-- an exponent that counts, or 0
abbrev pub counted : Bool → ℤ → ℤ
counted b e = cond b e (pos 0)

counted_sum : (b : Bool) (e f : ℤ) → counted b (e +ℤ f) ≡ counted b e +ℤ counted b f
counted_sum true e f = refl
counted_sum false e f = refl

counted_zero : (b : Bool) → counted b (pos 0) ≡ pos 0
counted_zero true = refl
counted_zero false = refl

counted_neg : (b : Bool) (e : ℤ) → counted b (neg_ℤ e) ≡ neg_ℤ (counted b e)
counted_neg true e = refl
counted_neg false e = refl

-- the sum of the exponents of the terms whose symbol passes
abbrev pub sum_by : (ℕ → Bool) → List Term → ℤ
sum_by c [] = pos 0
sum_by c (x ∷ xs) = counted (c x.symbol) x.exp +ℤ sum_by c xs

-- the exponent of a symbol is the sum at the test that it is this one
pub exponent_by : (s : ℕ) (xs : List Term) → exponent s xs ≡ sum_by (eqb s) xs
exponent_by s [] = refl
exponent_by s (x ∷ xs) = ap (λ z. counted (eqb s x.symbol) x.exp +ℤ z) (exponent_by s xs)

module _ (c : ℕ → Bool) where
  pub joined_sum : (t : ℕ) (e : ℤ) (l : List Term) → sum_by c (joined t e l) ≡ counted (c t) e +ℤ sum_by c l
  joined_sum t e l = go (is_zero e) refl
    where
      go : (b : Bool) → is_zero e ≡ b → sum_by c (cond b l (term t e ∷ l)) ≡ counted (c t) e +ℤ sum_by c l
      go true h = sym (ap (λ z. counted (c t) z +ℤ sum_by c l) (zero_is e h) ∙ ap (λ z. z +ℤ sum_by c l) (counted_zero (c t)) ∙ +ℤ_idl (sum_by c l))
      go false h = refl

  module _ (x : Term) (rest : List Term → List Term) (R : ℤ) (known : (zs : List Term) → sum_by c (rest zs) ≡ R +ℤ sum_by c zs) where
    weave_sum : (ys : List Term) → sum_by c (weave x rest ys) ≡ (counted (c x.symbol) x.exp +ℤ R) +ℤ sum_by c ys
    weave_sum [] = ap (λ z. counted (c x.symbol) x.exp +ℤ z) (known []) ∙ sym (+ℤ_assoc (counted (c x.symbol) x.exp) R (pos 0))
    weave_sum (y ∷ ys) = go (ltb x.symbol y.symbol) (ltb y.symbol x.symbol) refl refl (weave_sum ys)
      where
        go : (a b : Bool) → ltb x.symbol y.symbol ≡ a → ltb y.symbol x.symbol ≡ b
            → sum_by c (weave x rest ys) ≡ (counted (c x.symbol) x.exp +ℤ R) +ℤ sum_by c ys
            → sum_by c (cond a (x ∷ rest (y ∷ ys)) (cond b (y ∷ weave x rest ys) (joined x.symbol (x.exp +ℤ y.exp) (rest ys))))
            ≡ (counted (c x.symbol) x.exp +ℤ R) +ℤ (counted (c y.symbol) y.exp +ℤ sum_by c ys)
        go true b q r ih =
            ap (λ z. counted (c x.symbol) x.exp +ℤ z) (known (y ∷ ys))
            ∙ sym (+ℤ_assoc (counted (c x.symbol) x.exp) R (counted (c y.symbol) y.exp +ℤ sum_by c ys))
        go false true q r ih =
            ap (λ z. counted (c y.symbol) y.exp +ℤ z) ih ∙ swap (counted (c y.symbol) y.exp) (counted (c x.symbol) x.exp +ℤ R) (sum_by c ys)
        go false false q r ih =
            let e : y.symbol ≡ x.symbol = omega (arith, ltb-false x.symbol y.symbol q, ltb-false y.symbol x.symbol r) in
            joined_sum x.symbol (x.exp +ℤ y.exp) (rest ys)
            ∙ ap₂ ◌+ℤ◌
            (counted_sum (c x.symbol) x.exp y.exp ∙ ap (λ t. counted (c x.symbol) x.exp +ℤ counted (c t) y.exp) (sym e))
            (known ys)
            ∙ four (counted (c x.symbol) x.exp) (counted (c y.symbol) y.exp) R (sum_by c ys)

  merge_sum : (xs ys : List Term) → sum_by c (merge xs ys) ≡ sum_by c xs +ℤ sum_by c ys
  merge_sum [] ys = sym (+ℤ_idl (sum_by c ys))
  merge_sum (x ∷ xs) ys = weave_sum x (merge xs) (sum_by c xs) (merge_sum xs) ys

  turned_sum : (d : Bool) (ys : List Term) → sum_by c (turned d ys) ≡ turn d (sum_by c ys)
  turned_sum true [] = refl
  turned_sum true (y ∷ ys) =
      ap₂ ◌+ℤ◌ (counted_neg (c y.symbol) y.exp) (turned_sum true ys) ∙ sym (neg_ℤ-+ℤ (counted (c y.symbol) y.exp) (sum_by c ys))
  turned_sum false [] = refl
  turned_sum false (y ∷ ys) = ap (λ z. counted (c y.symbol) y.exp +ℤ z) (turned_sum false ys)

  pub merged_sum : (d : Bool) (xs ys : List Term) → sum_by c (merge xs (turned d ys)) ≡ combine d (sum_by c xs) (sum_by c ys)
  merged_sum d xs ys =
      merge_sum xs (turned d ys) ∙ ap (λ z. sum_by c xs +ℤ z) (turned_sum d ys) ∙ sym (combine_turn d (sum_by c xs) (sum_by c ys))
