-- What is asked of a formula, by tests that compute of a formula that is given (`fine_tested`). Assumes nothing.
use Rattle.std.specs.List.{list_all}
use mathlib.Core.Path.{◌≡◌, refl, sym, ap, ◌∙◌}
use mathlib.Core.Logic.{inl, inr}
use mathlib.Core.Bool.{Bool, true, false, ◌||◌, not, cond}
use mathlib.Core.List.{List, [], ◌∷◌, Memᴰ}
use mathlib.Core.List.Memᴰ.{head, tail}
use Prim.Native.Nat.{ℕ, suc, ◌<◌}
use native.Mathlib.Omega.{arith}
use lib.Dec.{eqb, ltb}
use borrow.Author.Tests.{ltb-true}
use Rattle.pages.specs.Quant.{all_to}
use Rattle.pages.proofs.Quant.{and_true, all_at}
use Rattle.types.specs.Store.{Formed}
use Rattle.operators.specs.Operators.{minus}
use Rattle.formulas.specs.Nodes.{State}
use Rattle.formulas.specs.Below.{written_at, operands_of, Part, passes}
use Rattle.formulas.specs.declared.Written.{Written}
use Rattle.formulas.specs.declared.Written.TheVariants.{Value, Unary, Binary, Index}
use Rattle.formulas.proofs.Parts.{Lower, part_below}
use Rattle.routes.specs.Routes.{plus, Adds}
use Rattle.routes.specs.Rule.{Formula, Lent, answers_in, checked_at, is_unitless, is_number_in, admitted, Fine}

-- ---- operands are lower

abbrev lower_at : List Written → ℕ → Bool
lower_at ws n = list_all (λ a. ltb a n) (operands_of (written_at ws n))

abbrev pub are_lower : List Written → ℕ → Bool
are_lower ws k = all_to k (lower_at ws)

of_all : (p : ℕ → Bool) (xs : List ℕ) → list_all p xs ≡ true → (a : ℕ) → Memᴰ a xs → p a ≡ true
of_all p [] h a m = elim m [ ]
of_all p (x ∷ xs) h a (head e) = ap p e ∙ (and_true (p x) (list_all p xs) h).0
of_all p (x ∷ xs) h a (tail m) = of_all p xs (and_true (p x) (list_all p xs) h).1 a m

lower_tested : (ws : List Written) (k : ℕ) → are_lower ws k ≡ true → Lower ws k
lower_tested ws k h n l a m = ltb-true a n (of_all (λ b. ltb b n) (operands_of (written_at ws n)) (all_at (lower_at ws) k n h l) a m)

-- ---- the sides of sums

-- are both of two tests passed, or neither
abbrev alike : Bool → Bool → Bool
alike a b = cond a b (not b)

alike_is : (a b : Bool) → alike a b ≡ true → a ≡ b
alike_is true true h = refl
alike_is true false h = sym h
alike_is false true h = h
alike_is false false h = refl

abbrev sides_at : State → Written → Bool
sides_at s (Value t u) = true
sides_at s (Unary op a) = true
sides_at s (Binary op a b) = not (eqb op plus || eqb op minus) || alike (is_unitless s a) (is_unitless s b)
sides_at s (Index a k) = true

sum_tested : (op : ℕ) (b : Bool) → Adds op → (not (eqb op plus || eqb op minus) || b) ≡ true → b ≡ true
sum_tested op b (inl e) h = rw e at h
sum_tested op b (inr e) h = rw e at h

-- ---- all that is asked

module _ (lent : Lent) (store : List ℕ) (f : Formula) where
  abbrev pub are_admitted : Bool
  are_admitted = all_to (suc f.root) (λ n. admitted (answers_in lent store f).store (checked_at (answers_in lent store f) n))

  abbrev pub have_sides : Bool
  have_sides = all_to (suc f.root) (λ n. sides_at (answers_in lent store f) (written_at f.nodes n))

  pub fine_tested : Formed store → passes (answers_in lent store f).nodes f.root ≡ true
      → is_number_in (answers_in lent store f).store (checked_at (answers_in lent store f) f.root) ≡ true
      → are_lower f.nodes (suc f.root) ≡ true → are_admitted ≡ true → have_sides ≡ true → Fine lent store f
  fine_tested sound pass number low plain sides =
      let below : (n : ℕ) → Part f.nodes f.root n → n < suc f.root =
      λ n p. let h = part_below f.nodes (suc f.root) (lower_tested f.nodes (suc f.root) low) {r = f.root} {n = n} (omega arith) p in omega (arith, h) in
      record {
        sound = sound;
        pass = pass;
        number = number;
        plain = λ n p. all_at (λ m. admitted (answers_in lent store f).store (checked_at (answers_in lent store f) m)) (suc f.root) n plain (below n p);
        sides = λ n op a b p st su.
            let h = all_at (λ m. sides_at (answers_in lent store f) (written_at f.nodes m)) (suc f.root) n sides (below n p) in
            let s = answers_in lent store f in
            alike_is (is_unitless s a) (is_unitless s b)
            (sum_tested op (alike (is_unitless s a) (is_unitless s b)) su (ap (sides_at s) (sym st.1) ∙ h));
      }
