-- The terms of a unit read from bytes and written to them, one after another. Assumes nothing.
use mathlib.Core.Path.{◌≡◌, refl, sym, ap, ap₂, ◌∙◌}
use mathlib.Core.List.{List, [], ◌∷◌, ◌++◌, append_assoc, append-nil}
use Prim.Native.Nat.{ℕ, suc, ◌+◌, ◌-◌, ◌*◌, ◌%◌, ◌≤◌, ◌<◌}
use native.Mathlib.Omega.{arith}
use lib.ListN.{length, get_or, drop, replicate, length-append, length-replicate}
use Rattle.std.specs.Simd.{first_chunks}
use Rattle.std.proofs.lemmas.List.{get_or-drop}
use Rattle.pages.proofs.Blocks.{block_at}
use Rattle.pages.specs.Bytes.{word_at, bytes_of, put}
use Rattle.pages.specs.Pad.{pad}
use Rattle.pages.proofs.Put.{put_none, put_append, put_length}
use Rattle.pages.proofs.Pad.{put_pad}
use Rattle.units.specs.Unit.{places_max, Term, term}
use Rattle.units.specs.Calls.{terms_of, terms_from, unit_of}
use Rattle.units.specs.declared.Unit.{Unit}
use Rattle.units.proofs.Form.{sym_at, exp_at, length_terms, from_start, from_step, from_end}
use Rattle.units.proofs.Held.{places_of}
use Rattle.values.specs.Value.{term_bytes, unit_max, signed_of, terms_at, raw_of, bytes_in, unit_bytes}

-- ---- reading: the terms that are out, with those still in the bytes, are all

pub record Reading (bytes : List ℕ) (n : ℕ) (u : Unit) (at i : ℕ) : Type 0 where
  pub out : List Term
  pub held : u ≡ unit_of out
  pub size : length out ≡ i
  pub whole : out ++ terms_at bytes (n - i) at ≡ terms_at bytes n 1
  pub place : at ≡ 1 + term_bytes * i
  pub i_in : i ≤ n

module _ (bytes : List ℕ) (n : ℕ) where
  pub reading_start : (u : Unit) → u ≡ unit_of [] → Reading bytes n u 1 0
  reading_start u e = record {
    out = [];
    held = e;
    size = refl;
    whole = let z : n - 0 ≡ n = omega arith in ap (λ k. terms_at bytes k 1) z;
    place = omega arith;
    i_in = omega arith;
  }

  module _ (u : Unit) (at i : ℕ) (st : Reading bytes n u at i) where
    pub reading_count : u.count ≡ i
    reading_count = ap (λ (v : Unit). v.count) st.held ∙ st.size

    pub reading_end : n ≤ i → u ≡ unit_of (terms_at bytes n 1)
    reading_end h =
        let z : n - i ≡ 0 = omega arith in
        st.held ∙ ap unit_of (sym (append-nil st.out) ∙ ap (λ k. st.out ++ terms_at bytes k at) (sym z) ∙ st.whole)

    pub reading_next : i < n → (r : Unit) → ((l : List Term) → u ≡ unit_of l → r ≡ unit_of (l ++ (term (get_or bytes at 0) (signed_of (word_at bytes (at + 1))) ∷ [])))
        → Reading bytes n r (at + term_bytes) (i + 1)
    reading_next h r f =
        let x = term (get_or bytes at 0) (signed_of (word_at bytes (at + 1))) in
        let e : n - i ≡ suc (n - (i + 1)) = omega arith in
        let p = st.place in
        record {
          out = st.out ++ (x ∷ []);
          held = f st.out st.held;
          size = length-append st.out (x ∷ []) ∙ ap (λ k. k + 1) st.size;
          whole = append_assoc st.out (x ∷ []) (terms_at bytes (n - (i + 1)) (at + term_bytes)) ∙ ap (λ k. st.out ++ terms_at bytes k at) (sym e) ∙ st.whole;
          place = omega arith;
          i_in = omega arith;
        }

-- a term's bytes, where each term has them by itself
module _ (bytes : List ℕ) (n : ℕ) (terms : List (List ℕ)) (is : terms ≡ first_chunks term_bytes n (drop 1 bytes)) (i : ℕ) (h : i < n) where
  byte : (j : ℕ) → j < term_bytes → (p : ℕ) → 1 + (term_bytes * i + j) ≡ p → get_or (get_or terms i []) j 0 ≡ get_or bytes p 0
  byte j m p e = rw is (block_at term_bytes n i j (drop 1 bytes) h m) ∙ get_or-drop 1 bytes (term_bytes * i + j) 0 ∙ ap (λ (q : ℕ). get_or bytes q 0) e

  pub term_read : (get_or (get_or terms i []) 0 0 ≡ get_or bytes (1 + term_bytes * i) 0) × (get_or (get_or terms i []) 1 0 * 256 + get_or (get_or terms i []) 2 0 ≡ word_at bytes ((1 + term_bytes * i) + 1))
  term_read = (
    byte 0 (omega arith) (1 + term_bytes * i) (omega arith),
    ap₂ (λ (a b : ℕ). a * 256 + b) (byte 1 (omega arith) ((1 + term_bytes * i) + 1) (omega arith)) (byte 2 (omega arith) ((1 + term_bytes * i) + 1 + 1) (omega arith)),
  )

-- ---- writing: the bytes that are out, with those of the terms still to come, are all

pub length_bytes : (xs : List Term) → length (bytes_in xs) ≡ term_bytes * length xs
length_bytes [] = refl
length_bytes (x ∷ xs) = let z = length_bytes xs in omega arith

abbrev pub entry_of : Unit → ℕ → List ℕ
entry_of u i = sym_at (places_of u) i % 256 ∷ bytes_of (raw_of (exp_at (places_of u) i))

pub record Writing (page : List ℕ) (u : Unit) (out : List ℕ) (at i : ℕ) : Type 0 where
  pub text : List ℕ
  pub held : out ≡ put page 1 text
  pub size : length text ≡ term_bytes * i
  pub whole : text ++ bytes_in (terms_from u i) ≡ bytes_in (terms_of u)
  pub place : at ≡ 1 + term_bytes * i
  pub i_in : i ≤ u.count
  pub long : length out ≡ length page

module _ (page : List ℕ) (u : Unit) where
  pub writing_start : Writing page u page 1 0
  writing_start = record {
    text = [];
    held = sym (put_none page 1);
    size = omega arith;
    whole = ap bytes_in (from_start (places_of u));
    place = omega arith;
    i_in = omega arith;
    long = refl;
  }

  module _ (out : List ℕ) (at i : ℕ) (st : Writing page u out at i) where
    pub writing_end : u.count ≤ i → out ≡ put page 1 (bytes_in (terms_of u))
    writing_end h =
        st.held ∙ ap (put page 1) (sym (append-nil st.text) ∙ ap (λ t. st.text ++ bytes_in t) (sym (from_end (places_of u) i h)) ∙ st.whole)

    pub writing_next : i < u.count → u.count ≤ places_max → unit_max ≤ length page → (r : List ℕ) → r ≡ put out at (entry_of u i) → Writing page u r (at + term_bytes) (i + 1)
    writing_next h few room r e =
        let p = st.place in
        let s = st.size in
        let a : at ≡ 1 + length st.text = omega arith in
        let fits : 1 + length st.text + length (entry_of u i) ≤ length page = omega arith in
        let j : put (put page 1 st.text) (1 + length st.text) (entry_of u i) ≡ put page 1 (st.text ++ entry_of u i) = put_append page 1 st.text (entry_of u i) fits in
        let q : r ≡ put page 1 (st.text ++ entry_of u i) = e ∙ rw (st.held, a) j in
        let m : length (st.text ++ entry_of u i) ≡ term_bytes * (i + 1) = rw (length-append st.text (entry_of u i)) (omega arith) in
        record {
          text = st.text ++ entry_of u i;
          held = q;
          size = m;
          whole = append_assoc st.text (entry_of u i) (bytes_in (terms_from u (i + 1))) ∙ ap (λ t. st.text ++ bytes_in t) (sym (from_step (places_of u) i h)) ∙ st.whole;
          place = omega arith;
          i_in = omega arith;
          long = ap length q ∙ put_length page 1 (st.text ++ entry_of u i) (omega arith);
        }

-- the count, and the terms after it, in a page of zeros
pub whole_bytes : (u : Unit) (out : List ℕ) → u.count ≤ places_max → out ≡ put (put (replicate unit_max 0) 0 (u.count ∷ [])) 1 (bytes_in (terms_of u)) → out ≡ pad unit_max 0 (unit_bytes (terms_of u))
whole_bytes u out few e =
    let n : length (terms_of u) ≡ u.count = length_terms u.count 0 u.symbols u.exponents in
    let m = length_bytes (terms_of u) in
    let fits : 0 + length (u.count ∷ []) + length (bytes_in (terms_of u)) ≤ length (replicate {A = ℕ} unit_max 0) = rw (length-replicate {A = ℕ} unit_max 0) (omega arith) in
    let few' : length (u.count ∷ bytes_in (terms_of u)) ≤ unit_max = omega arith in
    e ∙ put_append (replicate unit_max 0) 0 (u.count ∷ []) (bytes_in (terms_of u)) fits ∙ put_pad unit_max (u.count ∷ bytes_in (terms_of u)) few' ∙ ap (λ k. pad unit_max 0 (k ∷ bytes_in (terms_of u))) (sym n)
