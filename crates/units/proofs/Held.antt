-- A sum in its struct, and how it grows by one term. Assumes nothing.
use mathlib.Core.Path.{◌≡◌, refl, sym, ap, ap₂, ◌∙◌}
use mathlib.Core.Bool.{Bool, true, false, ◌||◌}
use mathlib.Core.List.{List, [], ◌∷◌, ◌++◌}
use Prim.Native.Nat.{ℕ, suc, ◌+◌, ◌≤◌, ◌<◌}
use native.Mathlib.Nat.{add-zero, zero-add, add-suc, suc-add, suc-le-suc_iff, zero-lt-suc}
use native.Mathlib.Omega.{arith}
use native.Mathlib.Decide.{dec_lt}
use lib.ListN.{length, get_or, set, length-append}
use lib.Seq.{set_out}
use lib.IntN.{ℤ, pos}
use Rattle.pages.specs.Pad.{pad}
use Rattle.pages.proofs.Pad.{pad_more, pad_full, length_pad, get_d_pad}
use Rattle.units.specs.Unit.{places_max, Term, term, outside}
use Rattle.units.specs.Product.{any_outside}
use Rattle.units.specs.Calls.{terms, terms_of, syms, exps, unit_of, with_term, sum_of}
use Rattle.units.specs.declared.Sum.{Sum}
use Rattle.units.specs.declared.Unit.{Unit}
use Rattle.units.proofs.Form.{Places}
use Rattle.units.proofs.Merge.{Kind}

abbrev pub places_of : Unit → Places
places_of u = record { count = u.count; symbols = u.symbols; exponents = u.exponents }

abbrev pub kind : Kind Sum
kind = record { Held = λ w l. w ≡ sum_of l; count = λ w. w.unit.count; counts = λ w l e. ap (λ (v : Sum). v.unit.count) e }

syms_more : (l : List Term) (x : Term) → syms (l ++ (x ∷ [])) ≡ syms l ++ (x.symbol ∷ [])
syms_more [] x = refl
syms_more (y ∷ l) x = ap (λ t. y.symbol ∷ t) (syms_more l x)

exps_more : (l : List Term) (x : Term) → exps (l ++ (x ∷ [])) ≡ exps l ++ (x.exp ∷ [])
exps_more [] x = refl
exps_more (y ∷ l) x = ap (λ t. y.exp ∷ t) (exps_more l x)

length_syms : (l : List Term) → length (syms l) ≡ length l
length_syms [] = refl
length_syms (y ∷ l) = ap suc (length_syms l)

length_exps : (l : List Term) → length (exps l) ≡ length l
length_exps [] = refl
length_exps (y ∷ l) = ap suc (length_exps l)

or_false : (x : Bool) → x || false ≡ x
or_false true = refl
or_false false = refl

or_assoc : (x y z : Bool) → (x || y) || z ≡ x || (y || z)
or_assoc true y z = refl
or_assoc false y z = refl

wide_more : (l : List Term) (x : Term) → any_outside l || outside x.exp ≡ any_outside (l ++ (x ∷ []))
wide_more [] x = sym (or_false (outside x.exp))
wide_more (y ∷ l) x = or_assoc (outside y.exp) (any_outside l) (outside x.exp) ∙ ap (λ t. outside y.exp || t) (wide_more l x)

count_more : (l : List Term) (x : Term) → length l + 1 ≡ length (l ++ (x ∷ []))
count_more l x = sym (length-append l (x ∷ []))

-- over the number of places
module _ (n : ℕ) (l : List Term) (x : Term) where
  symbols_room : length l < n → set (pad n 0 (syms l)) (length l) x.symbol ≡ pad n 0 (syms (l ++ (x ∷ [])))
  symbols_room h =
      ap (λ k. set (pad n 0 (syms l)) k x.symbol) (sym (length_syms l))
      ∙ pad_more n 0 (syms l) x.symbol (rw (length_syms l) h)
      ∙ ap (pad n 0) (sym (syms_more l x))

  exponents_room : length l < n → set (pad n (pos 0) (exps l)) (length l) x.exp ≡ pad n (pos 0) (exps (l ++ (x ∷ [])))
  exponents_room h =
      ap (λ k. set (pad n (pos 0) (exps l)) k x.exp) (sym (length_exps l))
      ∙ pad_more n (pos 0) (exps l) x.exp (rw (length_exps l) h)
      ∙ ap (pad n (pos 0)) (sym (exps_more l x))

  symbols_full : n ≤ length l → pad n 0 (syms l) ≡ pad n 0 (syms (l ++ (x ∷ [])))
  symbols_full h = pad_full n 0 (syms l) (x.symbol ∷ []) (rw (length_syms l) h) ∙ ap (pad n 0) (sym (syms_more l x))

  exponents_full : n ≤ length l → pad n (pos 0) (exps l) ≡ pad n (pos 0) (exps (l ++ (x ∷ [])))
  exponents_full h = pad_full n (pos 0) (exps l) (x.exp ∷ []) (rw (length_exps l) h) ∙ ap (pad n (pos 0)) (sym (exps_more l x))

-- ---- a unit in its struct

-- a unit that holds a list holds one term more, as far as there are places
pub grown : (u : Unit) (s : ℕ) (e : ℤ) (l : List Term) → u ≡ unit_of l → with_term u s e ≡ unit_of (l ++ (term s e ∷ []))
grown u s e l h =
    ap (λ (v : Unit). with_term v s e) h
    ∙ elim (dec_lt (length l) places_max) [
      | yes k ↦ (λ i. record {
        count = count_more l (term s e) i;
        symbols = symbols_room places_max l (term s e) k i;
        exponents = exponents_room places_max l (term s e) k i;
      })
      | no k ↦ (λ i. record {
        count = count_more l (term s e) i;
        symbols = (set_out (pad places_max 0 (syms l)) (length l) s (past places_max 0 (syms l) (omega arith)) ∙ symbols_full places_max l (term s e) (omega arith)) i;
        exponents = (set_out (pad places_max (pos 0) (exps l)) (length l) e (past places_max (pos 0) (exps l) (omega arith)) ∙ exponents_full places_max l (term s e) (omega arith)) i;
      })
    ]
  where
    past : {A : Type 0} (n : ℕ) (d : A) (xs : List A) → n ≤ length l → length (pad n d xs) ≤ length l
    past n d xs g = rw (length_pad n d xs) g

-- past the places a term is only counted
counted : (l : List Term) (x : Term) → places_max ≤ length l
    → ◌≡◌ {A = Unit} (record { count = length l + 1; symbols = pad places_max 0 (syms l); exponents = pad places_max (pos 0) (exps l) }) (unit_of (l ++ (x ∷ [])))
counted l x h = λ i. record { count = count_more l x i; symbols = symbols_full places_max l x h i; exponents = exponents_full places_max l x h i }

-- a sum that holds a list, with one term more
module _ (w : Sum) (s : ℕ) (e : ℤ) (l : List Term) (h : w ≡ sum_of l) where
  wide_next : w.wide || outside e ≡ any_outside (l ++ (term s e ∷ []))
  wide_next = ap (λ (v : Sum). v.wide || outside e) h ∙ wide_more l (term s e)

  pub sum_room : ◌≡◌ {A = Sum} (record { unit = with_term w.unit s e; wide = w.wide || outside e }) (sum_of (l ++ (term s e ∷ [])))
  sum_room = λ i. record { unit = grown w.unit s e l (ap (λ (v : Sum). v.unit) h) i; wide = wide_next i }

  pub sum_full : places_max ≤ w.unit.count
      → ◌≡◌ {A = Sum} (record { unit = record { count = w.unit.count + 1; symbols = w.unit.symbols; exponents = w.unit.exponents }; wide = w.wide || outside e }) (sum_of (l ++ (term s e ∷ [])))
  sum_full k = λ i. record {
    unit = (
        ap (λ (v : Sum). record { count = v.unit.count + 1; symbols = v.unit.symbols; exponents = v.unit.exponents }) h
        ∙ counted l (term s e) (rw h at k)
        ) i;
    wide = wide_next i;
  }

terms_at_lem : (l : List Term) (i : ℕ) (ss : List ℕ) (es : List ℤ)
    → ((k : ℕ) → k < length l → get_or ss (i + k) 0 ≡ get_or (syms l) k 0) → ((k : ℕ) → k < length l → get_or es (i + k) (pos 0) ≡ get_or (exps l) k (pos 0))
    → terms (length l) i ss es ≡ l
terms_at_lem [] i ss es f g = refl
terms_at_lem (x ∷ l) i ss es f g =
    ap₂ {C = List Term} (λ (t : Term) (r : List Term). t ∷ r)
    (λ d. record { symbol = (ap (λ (k : ℕ). get_or ss k 0) (sym (add-zero i)) ∙ f 0 (zero-lt-suc (length l))) d; exp = (ap (λ (k : ℕ). get_or es k (pos 0)) (sym (add-zero i)) ∙ g 0 (zero-lt-suc (length l))) d })
    (terms_at_lem l (suc i) ss es (λ k h. rw (suc-add i k, ← add-suc i k) (f (suc k) (suc-le-suc_iff.1 h))) (λ k h. rw (suc-add i k, ← add-suc i k) (g (suc k) (suc-le-suc_iff.1 h))))

-- the terms that a unit holds are those that it was made of
pub terms_unit : (l : List Term) → length l ≤ places_max → terms_of (unit_of l) ≡ l
terms_unit l h =
    terms_at_lem l 0 (pad places_max 0 (syms l)) (pad places_max (pos 0) (exps l))
    (λ k lt. rw zero-add (get_d_pad places_max 0 (syms l) k (omega arith))) (λ k lt. rw zero-add (get_d_pad places_max (pos 0) (exps l) k (omega arith)))
