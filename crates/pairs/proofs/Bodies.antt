-- The bytes of pairs, each by itself. Assumes nothing.
use Rattle.std.proofs.Common.{◌≡◌, refl, sym, ap, ap₂, ◌∙◌, Bool, true, false, cond, List, [], ◌∷◌, ◌++◌, ℕ, zero, suc, ◌+◌, ◌*◌, ◌<◌, ◌≤◌, length, take, length-take-le, get_or, eqb, ltb, Some, None, arith, take_all, ltb-true, ltb-false}
use mathlib.Core.List.{map, map-append}
use native.Mathlib.Numerals.{add-one}
use lib.ListN.{length-map}
use lib.Seq.{take-suc}
use Rattle.std.specs.Prelude.{option_map}
use Rattle.std.specs.List.{list_all, find, position_or_len, slice_get}
use Rattle.std.specs.Simd.{first_chunks}
use Rattle.std.proofs.lemmas.List.Folds.{find_at}
use Rattle.std.proofs.lemmas.Option.{slice_get_past, slice_get-get_or}
use Rattle.pages.specs.Bytes.{long_bytes}
use Rattle.pages.specs.Quant.{all_to, first_to}
use Rattle.pages.proofs.Bytes.{number_alike}
use Rattle.pages.proofs.Quant.{all_listed, all_cong, first_taken, first_cong}
use Rattle.pages.proofs.Blocks.{length_blocks, block_at}
use Rattle.names.specs.Table.{names_max}
use Rattle.groups.specs.Groups.{Pair, pair, selves, enter, enter_all, parents_of}
use Rattle.groups.proofs.Walks.{parents_snoc}
use Rattle.pairs.specs.Table.{pair_bytes, base_at, factor_at, pair_at, pairs_in, said, both_used, used_at}
use Rattle.pairs.specs.Calls.{is_of, factor_of, factor_said, first_factor}

-- one more body of them
taken_next : (bodies : List (List ℕ)) (i : ℕ) → i < length bodies → take (i + 1) bodies ≡ take i bodies ++ (get_or bodies i [] ∷ [])
taken_next bodies i h = rw add-one (take-suc bodies i [] h)

-- one more body joins what its pair does
pub said_next : (bodies : List (List ℕ)) (i : ℕ) → i < length bodies
    → enter i (parents_of names_max (map said (take i bodies))) (said (get_or bodies i [])) ≡ parents_of names_max (map said (take (i + 1) bodies))
said_next bodies i h =
    let n : length (map said (take i bodies)) ≡ i = length-map (take i bodies) said ∙ length-take-le i bodies (omega (arith, h)) in
    sym (ap (λ (bs : List (List ℕ)). parents_of names_max (map said bs)) (taken_next bodies i h)
    ∙ ap (parents_of names_max) (map-append said (take i bodies) (get_or bodies i [] ∷ []))
    ∙ parents_snoc names_max (map said (take i bodies)) (said (get_or bodies i [])) ∙ rw n)

-- no body joins nothing
pub said_none : (bodies : List (List ℕ)) → selves 0 names_max ≡ parents_of names_max (map said (take 0 bodies))
unfolding parents_of enter_all
said_none bodies = refl

module _ (k : ℕ) (l : List ℕ) (bodies : List (List ℕ)) (is : bodies ≡ first_chunks pair_bytes k l) where
  long : length bodies ≡ k
  long = ap length is ∙ length_blocks pair_bytes k l

  -- a byte of a body
  byte : (i j : ℕ) → i < k → j < pair_bytes → get_or (get_or bodies i []) j 0 ≡ get_or l (pair_bytes * i + j) 0
  byte i j h m = rw is (block_at pair_bytes k i j l h m)

  front : (i : ℕ) → i < k → get_or (get_or bodies i []) 0 0 ≡ get_or l (pair_bytes * i) 0
  front i h = byte i 0 h (omega arith) ∙ ap (λ (p : ℕ). get_or l p 0) (omega arith)

  -- the pair that a body says is the one at its place
  pub said_at : (i : ℕ) → i < k → said (get_or bodies i []) ≡ pair_at l i
  said_at i h = ap₂ pair (front i h) (byte i base_at h (omega arith))

  factor_at_place : (i : ℕ) → i < k → factor_said (get_or bodies i []) ≡ factor_of l i
  factor_at_place i h =
      ap₂ (λ (f b : ℕ). record { factor = f; base = b })
      (number_alike (get_or bodies i []) l factor_at (pair_bytes * i + factor_at) long_bytes (λ j m. byte i (factor_at + j) h (omega (arith, m)) ∙ ap (λ (p : ℕ). get_or l p 0) (omega arith)))
      (byte i base_at h (omega arith))

  -- the symbols of all pairs are in use if those of all bodies are
  pub all_said : (n : ℕ) → list_all (λ b. both_used n (said b)) bodies ≡ all_to k (used_at l n)
  all_said n =
      all_listed (λ b. both_used n (said b)) [] bodies ∙ ap (λ (m : ℕ). all_to m (λ i. both_used n (said (get_or bodies i [])))) long
      ∙ all_cong (λ i. both_used n (said (get_or bodies i []))) (used_at l n) k (λ i h. ap (both_used n) (said_at i h))

  -- the pairs that the bodies say are those at their places
  said_front : (i : ℕ) → i ≤ k → map said (take i bodies) ≡ pairs_in l i
  unfolding pairs_in
  said_front zero h = refl
  said_front (suc i) h =
      let few : i < k = omega (arith, h) in
      ap (map said) (take-suc bodies i [] (omega (arith, long, few))) ∙ map-append said (take i bodies) (get_or bodies i [] ∷ [])
      ∙ ap₂ (λ (ps : List Pair) (q : Pair). ps ++ (q ∷ [])) (said_front i (omega (arith, h))) (said_at i few)

  pub said_pairs : map said bodies ≡ pairs_in l k
  said_pairs = ap (map said) (sym (take_all k bodies (omega (arith, long)))) ∙ said_front k (omega arith)

  -- the first body that has a symbol
  first_place : (s : ℕ) → find (λ b. eqb (get_or b 0 0) s) bodies ≡ slice_get bodies (first_to k (is_of l s))
  first_place s =
      let has : List ℕ → Bool = λ b. eqb (get_or b 0 0) s in
      let all : position_or_len has bodies ≡ first_to (length bodies) (λ i. has (get_or bodies i [])) = ap (position_or_len has) (sym (take_all (length bodies) bodies (omega arith))) ∙ first_taken has [] (length bodies) bodies (omega arith) in
      find_at has bodies
      ∙ ap (slice_get bodies) (all ∙ ap (λ (m : ℕ). first_to m (λ i. has (get_or bodies i []))) long
      ∙ first_cong (λ i. has (get_or bodies i [])) (is_of l s) k (λ i h. ap (λ (x : ℕ). eqb x s) (front i h)))

  -- its factor is the first
  pub first_said : (s : ℕ) → option_map factor_said (find (λ b. eqb (get_or b 0 0) s) bodies) ≡ first_factor l k s
  first_said s = ap (option_map factor_said) (first_place s) ∙ go (ltb (first_to k (is_of l s)) k) refl
    where
      f : ℕ
      f = first_to k (is_of l s)

      go : (b : Bool) → ltb (first_to k (is_of l s)) k ≡ b → option_map factor_said (slice_get bodies f) ≡ cond b (Some (factor_of l f)) None
      go true h =
          let l : f < k = ltb-true f k h in
          ap (option_map factor_said) (slice_get-get_or bodies f [] (omega (arith, long, l))) ∙ ap Some (factor_at_place f l)
      go false h = rw (slice_get_past bodies f (omega (arith, long, ltb-false f k h)))
