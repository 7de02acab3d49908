-- The merge of two units, turn by turn, for every number of places. Assumes nothing.
use mathlib.Core.Path.{◌≡◌, refl, sym, ap, ◌∙◌}
use mathlib.Core.Bool.{Bool, true, false, cond}
use mathlib.Core.List.{List, [], ◌∷◌, ◌++◌, append_assoc}
use Prim.Native.Nat.{ℕ, ◌+◌, ◌≤◌, ◌<◌}
use native.Mathlib.Omega.{arith}
use lib.ListN.{length, length-append}
use lib.IntN.{ℤ, ◌+ℤ◌}
use borrow.Author.Tests.{lt-ltb, le-ltb}
use Rattle.units.specs.Unit.{Term, term, is_zero, formed}
use Rattle.units.specs.Merge.{turn, turned, joined, merge}
use Rattle.units.proofs.Form.{Places, sym_at, exp_at, terms_from, terms_in, from_start, from_step, from_end, formed_count}

-- W is what the sum is gathered in: which terms it holds, and how many
pub record Kind (W : Type 0) : Type 1 where
  pub Held : W → List Term → Type 0
  pub count : W → ℕ
  pub counts : (w : W) (l : List Term) → Held w l → count w ≡ length l

-- what `pushed` ensures
abbrev pub Pushed : {W : Type 0} → Kind W → W → W → ℕ → ℤ → Type 0
Pushed K w r s e = (l : List Term) → K.Held w l → K.Held r (l ++ (term s e ∷ []))

-- what `joined_to` ensures
abbrev pub Joined : {W : Type 0} → Kind W → W → W → ℕ → ℤ → Type 0
Joined K w r s e = (l : List Term) → K.Held w l → K.Held r (l ++ joined s e [])

joined_before : (s : ℕ) (e : ℤ) (rest : List Term) → joined s e [] ++ rest ≡ joined s e rest
joined_before s e rest = go (is_zero e)
  where
    go : (b : Bool) → cond b [] (term s e ∷ []) ++ rest ≡ cond b rest (term s e ∷ rest)
    go true = refl
    go false = refl

joined_short : (s : ℕ) (e : ℤ) → length (joined s e []) ≤ 1
joined_short s e = go (is_zero e)
  where
    go : (b : Bool) → length (cond b [] (term s e ∷ [])) ≤ 1
    go true = omega arith
    go false = omega arith

abbrev pub left : Bool → Places → Places → ℕ → ℕ → List Term
left d a b i j = merge (terms_from a i) (turned d (terms_from b j))

abbrev pub whole_of : Bool → Places → Places → List Term
whole_of d a b = merge (terms_in a) (turned d (terms_in b))

-- Where the merge stands: the terms that are out, with what is left, come to the whole.
pub record Stand {W : Type 0} (K : Kind W) (n : ℕ) (d : Bool) (a b : Places) (w : W) (i j : ℕ) : Type 0 where
  pub out : List Term
  pub held : K.Held w out
  pub whole : out ++ left d a b i j ≡ whole_of d a b
  pub i_in : i ≤ a.count
  pub j_in : j ≤ b.count
  pub a_in : a.count ≤ n
  pub b_in : b.count ≤ n
  pub short : K.count w ≤ i + j

module _ {W : Type 0} (K : Kind W) (n : ℕ) (d : Bool) (a b : Places) where
  pub stand_start : (m : ℕ) (w : W) → K.Held w [] → formed n m (terms_in a) ≡ true → formed n m (terms_in b) ≡ true → Stand K n d a b w 0 0
  stand_start m w e h k =
      let z : K.count w ≡ 0 = K.counts w [] e in
      record {
        out = [];
        held = e;
        whole = rw (from_start a, from_start b);
        i_in = omega arith;
        j_in = omega arith;
        a_in = formed_count n m a h;
        b_in = formed_count n m b k;
        short = omega arith;
      }

  module _ (w r : W) (i j : ℕ) (st : Stand K n d a b w i j) where
    pushed_count : (s : ℕ) (e : ℤ) → Pushed K w r s e → K.count r ≡ K.count w + 1
    pushed_count s e f =
        K.counts r (st.out ++ (term s e ∷ [])) (f st.out st.held) ∙ length-append st.out (term s e ∷ [])
        ∙ ap (λ (k : ℕ). k + 1) (sym (K.counts w st.out st.held))

    out_more : (s : ℕ) (e : ℤ) (rest : List Term) → left d a b i j ≡ term s e ∷ rest → (st.out ++ (term s e ∷ [])) ++ rest ≡ whole_of d a b
    out_more s e rest q = append_assoc st.out (term s e ∷ []) rest ∙ ap (λ t. st.out ++ t) (sym q) ∙ st.whole

    -- a term of a goes out, or a term of b
    module _ (h : i < a.count) (f : Pushed K w r (sym_at a i) (exp_at a i)) where
      by_left : left d a b i j ≡ term (sym_at a i) (exp_at a i) ∷ left d a b (i + 1) j → Stand K n d a b r (i + 1) j
      by_left q =
          let k = pushed_count (sym_at a i) (exp_at a i) f in
          record {
            out = st.out ++ (term (sym_at a i) (exp_at a i) ∷ []);
            held = f st.out st.held;
            whole = out_more (sym_at a i) (exp_at a i) (left d a b (i + 1) j) q;
            i_in = omega arith;
            j_in = st.j_in;
            a_in = st.a_in;
            b_in = st.b_in;
            short = omega arith;
          }

      pub left_low : j < b.count → sym_at a i < sym_at b j → Stand K n d a b r (i + 1) j
      left_low k lt = by_left (rw (from_step a i h, from_step b j k, lt-ltb (sym_at a i) (sym_at b j) lt))

      pub left_last : b.count ≤ j → Stand K n d a b r (i + 1) j
      left_last k = by_left (rw (from_step a i h, from_end b j k))

    module _ (h : j < b.count) (f : Pushed K w r (sym_at b j) (turn d (exp_at b j))) where
      by_right : left d a b i j ≡ term (sym_at b j) (turn d (exp_at b j)) ∷ left d a b i (j + 1) → Stand K n d a b r i (j + 1)
      by_right q =
          let k = pushed_count (sym_at b j) (turn d (exp_at b j)) f in
          record {
            out = st.out ++ (term (sym_at b j) (turn d (exp_at b j)) ∷ []);
            held = f st.out st.held;
            whole = out_more (sym_at b j) (turn d (exp_at b j)) (left d a b i (j + 1)) q;
            i_in = st.i_in;
            j_in = omega arith;
            a_in = st.a_in;
            b_in = st.b_in;
            short = omega arith;
          }

      pub right_low : i < a.count → sym_at b j < sym_at a i → Stand K n d a b r i (j + 1)
      right_low k lt =
          by_right (rw (from_step a i k, from_step b j h, le-ltb (sym_at a i) (sym_at b j) (omega arith), lt-ltb (sym_at b j) (sym_at a i) lt))

      pub right_last : a.count ≤ i → Stand K n d a b r i (j + 1)
      right_last k = by_right (rw (from_end a i k, from_step b j h))

    -- a term of each: what they come to goes out, unless it is zero
    module _ (h : i < a.count) (k : j < b.count) (le : sym_at a i ≤ sym_at b j) (ge : sym_at b j ≤ sym_at a i) where
      both : left d a b i j ≡ joined (sym_at a i) (exp_at a i +ℤ turn d (exp_at b j)) (left d a b (i + 1) (j + 1))
      both = rw (from_step a i h, from_step b j k, le-ltb (sym_at a i) (sym_at b j) ge, le-ltb (sym_at b j) (sym_at a i) le)

      pub both_next : Joined K w r (sym_at a i) (exp_at a i +ℤ turn d (exp_at b j)) → Stand K n d a b r (i + 1) (j + 1)
      both_next f =
          let x = joined (sym_at a i) (exp_at a i +ℤ turn d (exp_at b j)) [] in
          let z = joined_short (sym_at a i) (exp_at a i +ℤ turn d (exp_at b j)) in
          let h1 : K.count r ≡ length (st.out ++ x) = K.counts r (st.out ++ x) (f st.out st.held) in
          let h2 : length (st.out ++ x) ≡ length st.out + length x = length-append st.out x in
          let h3 : K.count w ≡ length st.out = K.counts w st.out st.held in
          record {
            out = st.out ++ x;
            held = f st.out st.held;
            whole = append_assoc st.out x (left d a b (i + 1) (j + 1)) ∙ ap (λ t. st.out ++ t) (joined_before (sym_at a i) (exp_at a i +ℤ turn d (exp_at b j)) (left d a b (i + 1) (j + 1)) ∙ sym both) ∙ st.whole;
            i_in = omega arith;
            j_in = omega arith;
            a_in = st.a_in;
            b_in = st.b_in;
            short = omega arith;
          }
