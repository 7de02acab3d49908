-- Terms in order: a merge keeps them so, and terms in order are fixed by their exponents. For any number of symbols.
-- Assumes nothing.
use mathlib.Core.Path.{◌≡◌, refl, sym, ap, ap₂, subst, ◌∙◌}
use mathlib.Core.Bool.{Bool, true, false, cond, ◌||◌}
use mathlib.Core.List.{List, [], ◌∷◌, ◌++◌}
use Prim.Native.Nat.{ℕ, zero, suc, ◌≤◌, ◌<◌}
use native.Mathlib.Omega.{arith}
use lib.Dec.{T, ltb, eqb}
use lib.IntN.{ℤ, pos, ◌+ℤ◌, ◌-ℤ◌, +ℤ_idr, +ℤ_comm, +ℤ-neg_ℤ_cancel}
use borrow.Author.Tests.{ltb-true, ltb-false, lt-ltb, eq-eqb, ne_eqb, le-leb}
use Rattle.units.specs.Unit.{Term, term, is_zero, outside, ordered, part, exponent}
use Rattle.units.specs.Product.{any_outside, power, written}
use Rattle.units.specs.Merge.{turned, joined, weave, merge}
use Rattle.units.proofs.Form.{ordered_parts}
use Rattle.units.proofs.Signed.{abs_turn}

-- ascending from lo, with no zero
pub data Asc : ℕ → List Term → Type 0 where
  asc_none : {lo : ℕ} → Asc lo []
  asc_more : {lo : ℕ} {x : Term} {xs : List Term} → lo ≤ x.symbol → is_zero x.exp ≡ false → Asc (suc x.symbol) xs → Asc lo (x ∷ xs)

pub lower : {lo : ℕ} {xs : List Term} (k : ℕ) → k ≤ lo → Asc lo xs → Asc k xs
lower k h asc_none = asc_none
lower k h (asc_more {x = x} l z r) = let m : k ≤ x.symbol = omega arith in asc_more m z r

pub raise : {lo : ℕ} {x : Term} {xs : List Term} (k : ℕ) → k ≤ x.symbol → Asc lo (x ∷ xs) → Asc k (x ∷ xs)
raise k h (asc_more l z r) = asc_more h z r

pub tail_of : {lo : ℕ} {x : Term} {xs : List Term} → Asc lo (x ∷ xs) → Asc (suc x.symbol) xs
tail_of (asc_more l z r) = r

pub head_low : {lo : ℕ} {x : Term} {xs : List Term} → Asc lo (x ∷ xs) → lo ≤ x.symbol
head_low (asc_more l z r) = l

pub head_nonzero : {lo : ℕ} {x : Term} {xs : List Term} → Asc lo (x ∷ xs) → is_zero x.exp ≡ false
head_nonzero (asc_more l z r) = z

-- ---- a merge

pub joined_asc : (lo t : ℕ) (e : ℤ) (l : List Term) → lo ≤ t → Asc (suc t) l → Asc lo (joined t e l)
joined_asc lo t e l h a = go (is_zero e) refl
  where
    go : (b : Bool) → is_zero e ≡ b → Asc lo (cond b l (term t e ∷ l))
    go true z = lower lo (omega arith) a
    go false z = asc_more h z a

module _ (x : Term) (rest : List Term → List Term) (known : (zs : List Term) → Asc (suc x.symbol) zs → Asc (suc x.symbol) (rest zs)) (z : is_zero x.exp ≡ false) where
  weave_asc : (lo : ℕ) (ys : List Term) → lo ≤ x.symbol → Asc lo ys → Asc lo (weave x rest ys)
  weave_asc lo [] h a = asc_more h z (known [] asc_none)
  weave_asc lo (y ∷ ys) h a = go (ltb x.symbol y.symbol) (ltb y.symbol x.symbol) refl refl (weave_asc (suc y.symbol) ys)
    where
      go : (b c : Bool) → ltb x.symbol y.symbol ≡ b → ltb y.symbol x.symbol ≡ c → (suc y.symbol ≤ x.symbol → Asc (suc y.symbol) ys → Asc (suc y.symbol) (weave x rest ys))
          → Asc lo (cond b (x ∷ rest (y ∷ ys)) (cond c (y ∷ weave x rest ys) (joined x.symbol (x.exp +ℤ y.exp) (rest ys))))
      go true c p q ih = asc_more h z (known (y ∷ ys) (raise (suc x.symbol) (ltb-true x.symbol y.symbol p) a))
      go false true p q ih = asc_more (head_low a) (head_nonzero a) (ih (ltb-true y.symbol x.symbol q) (tail_of a))
      go false false p q ih =
          let l = ltb-false x.symbol y.symbol p in
          let g = ltb-false y.symbol x.symbol q in
          joined_asc lo x.symbol (x.exp +ℤ y.exp) (rest ys) h (known ys (lower (suc x.symbol) (omega arith) (tail_of a)))

pub merge_asc : (lo : ℕ) (xs ys : List Term) → Asc lo xs → Asc lo ys → Asc lo (merge xs ys)
merge_asc lo [] ys a b = b
merge_asc lo (x ∷ xs) ys a b =
    weave_asc x (merge xs) (λ zs c. merge_asc (suc x.symbol) xs zs (tail_of a) c) (head_nonzero a) lo ys (head_low a) b

-- ---- from the test and back to it

pub turned_none : (xs : List Term) → turned false xs ≡ xs
turned_none [] = refl
turned_none (x ∷ xs) = ap (λ t. x ∷ t) (turned_none xs)

pub ordered_asc : (d : Bool) (n lo : ℕ) (xs : List Term) → ordered n lo xs ≡ true → Asc lo (turned d xs)
ordered_asc d n lo [] h = asc_none
ordered_asc d n lo (x ∷ xs) h =
    let o = ordered_parts n lo x xs h in
    asc_more o.low (ap (λ n. eqb n 0) (abs_turn d x.exp) ∙ o.nonzero) (ordered_asc d n (suc x.symbol) xs o.rest)

pub or_both : (b c : Bool) → b || c ≡ false → (b ≡ false) × (c ≡ false)
or_both true c h = absurd (subst T h tt)
or_both false c h = (refl, h)

-- ---- exponents

pub part_same : (s : ℕ) (x : Term) → s ≡ x.symbol → part s x ≡ x.exp
part_same s x h = rw (eq-eqb s x.symbol h)

pub part_other : (s : ℕ) (x : Term) → (s ≡ x.symbol → ⊥) → part s x ≡ pos 0
part_other s x h = rw (ne_eqb s x.symbol h)

-- no symbol below the first
pub below : (s lo : ℕ) (xs : List Term) → s < lo → Asc lo xs → exponent s xs ≡ pos 0
below s lo [] h a = refl
below s lo (x ∷ xs) h a =
    let l = head_low a in
    ap₂ ◌+ℤ◌ (part_other s x (omega arith)) (below s (suc x.symbol) xs (omega arith) (tail_of a))

pub first : (lo : ℕ) (x : Term) (xs : List Term) → Asc lo (x ∷ xs) → exponent x.symbol (x ∷ xs) ≡ x.exp
first lo x xs a =
    ap₂ ◌+ℤ◌ (part_same x.symbol x refl) (below x.symbol (suc x.symbol) xs (omega arith) (tail_of a)) ∙ +ℤ_idr x.exp

not_zero : (e : ℤ) → is_zero e ≡ false → e ≡ pos 0 → ⊥
not_zero e h z = subst T (sym (ap is_zero z) ∙ h) tt

cancel : (a b c : ℤ) → a +ℤ b ≡ a +ℤ c → b ≡ c
cancel a b c h =
    sym (+ℤ-neg_ℤ_cancel b a) ∙ ap (λ z. z -ℤ a) (+ℤ_comm b a ∙ h ∙ +ℤ_comm a c) ∙ +ℤ-neg_ℤ_cancel c a

-- terms in order are fixed by their exponents
pub unique : (lo : ℕ) (xs ys : List Term) → Asc lo xs → Asc lo ys → ((s : ℕ) → exponent s xs ≡ exponent s ys) → xs ≡ ys
unique lo [] [] a b h = refl
unique lo [] (y ∷ ys) a b h = absurd (not_zero y.exp (head_nonzero b) (sym (first lo y ys b) ∙ sym (h y.symbol)))
unique lo (x ∷ xs) [] a b h = absurd (not_zero x.exp (head_nonzero a) (sym (first lo x xs a) ∙ h x.symbol))
unique lo (x ∷ xs) (y ∷ ys) a b h = go (ltb x.symbol y.symbol) (ltb y.symbol x.symbol) refl refl (unique (suc x.symbol) xs ys (tail_of a))
  where
    go : (p q : Bool) → ltb x.symbol y.symbol ≡ p → ltb y.symbol x.symbol ≡ q → (Asc (suc x.symbol) ys → ((s : ℕ) → exponent s xs ≡ exponent s ys) → xs ≡ ys) → x ∷ xs ≡ y ∷ ys
    go true q lt _ ih =
        absurd (not_zero x.exp (head_nonzero a) (sym (first lo x xs a) ∙ h x.symbol
        ∙ below x.symbol (suc x.symbol) (y ∷ ys) (omega arith) (raise (suc x.symbol) (ltb-true x.symbol y.symbol lt) b)))
    go false true _ lt ih =
        absurd (not_zero y.exp (head_nonzero b) (sym (first lo y ys b) ∙ sym (h y.symbol)
        ∙ below y.symbol (suc y.symbol) (x ∷ xs) (omega arith) (raise (suc y.symbol) (ltb-true y.symbol x.symbol lt) a)))
    go false false le ge ih =
        let l = ltb-false x.symbol y.symbol le in
        let g = ltb-false y.symbol x.symbol ge in
        let e : x.symbol ≡ y.symbol = omega arith in
        let f : x.exp ≡ y.exp = sym (first lo x xs a) ∙ h x.symbol ∙ ap (λ s. exponent s (y ∷ ys)) e ∙ first lo y ys b in
        ap₂ {C = List Term} (λ (t : Term) (l : List Term). t ∷ l) (λ i. record { symbol = e i; exp = f i })
        (ih (subst (λ s. Asc (suc s) ys) (sym e) (tail_of b))
        (λ s. cancel (part s x) (exponent s xs) (exponent s ys) (h s ∙ ap (λ z. z +ℤ exponent s ys) (ap₂ (λ (t : ℕ) (z : ℤ). part s (term t z)) (sym e) (sym f)))))

-- ---- symbols below a limit

pub data Within : ℕ → List Term → Type 0 where
  within_none : {n : ℕ} → Within n []
  within_more : {n : ℕ} {x : Term} {xs : List Term} → x.symbol < n → Within n xs → Within n (x ∷ xs)

within_wider : {n : ℕ} {xs : List Term} → Within n xs → Within (suc n) xs
within_wider within_none = within_none
within_wider {n = n} (within_more {x = x} l b) = let h : x.symbol < suc n = omega arith in within_more h (within_wider b)

within_append : {n : ℕ} {xs : List Term} (ys : List Term) → Within n xs → Within n ys → Within n (xs ++ ys)
within_append ys within_none b = b
within_append ys (within_more l a) b = within_more l (within_append ys a b)

power_within : (n : ℕ) (e : ℤ) → Within (suc n) (power n e)
power_within n e = go (is_zero e)
  where
    go : (b : Bool) → Within (suc n) (cond b [] (term n e ∷ []))
    go true = within_none
    go false = let h : n < suc n = omega arith in within_more h within_none

pub written_within : (n : ℕ) (f : ℕ → ℤ) → Within n (written n f)
written_within zero f = within_none
written_within (suc n) f = within_append (power n (f n)) (within_wider (written_within n f)) (power_within n (f n))

pub ordered_within : (n lo : ℕ) (xs : List Term) → ordered n lo xs ≡ true → Within n xs
ordered_within n lo [] h = within_none
ordered_within n lo (x ∷ xs) h = let o = ordered_parts n lo x xs h in within_more o.used (ordered_within n (suc x.symbol) xs o.rest)

pub asc_ordered : {n lo : ℕ} {xs : List Term} → Asc lo xs → Within n xs → any_outside xs ≡ false → ordered n lo xs ≡ true
asc_ordered asc_none b w = refl
asc_ordered {n = n} {lo = lo} (asc_more {x = x} {xs = xs} l z r) (within_more u b) w =
    let v = or_both (outside x.exp) (any_outside xs) w in
    rw (le-leb lo x.symbol l, lt-ltb x.symbol n u, z, v.0) (asc_ordered r b v.1)

-- terms in form have no exponent outside the limits
pub ordered_inside : (n lo : ℕ) (xs : List Term) → ordered n lo xs ≡ true → any_outside xs ≡ false
ordered_inside n lo [] h = refl
ordered_inside n lo (x ∷ xs) h = let o = ordered_parts n lo x xs h in rw o.inside (ordered_inside n (suc x.symbol) xs o.rest)
