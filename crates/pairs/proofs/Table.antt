-- The table by value: its form and insertion, one law for each return. Assumes nothing.
use Rattle.std.proofs.Common.{Ok, Err}
use mathlib.Core.Path.{◌≡◌, refl, sym, ◌∙◌}
use mathlib.Core.Bool.{true, false, not}
use mathlib.Core.List.{List, [], ◌∷◌, ◌++◌}
use Prim.Native.Nat.{ℕ, zero, suc, ◌+◌, ◌*◌, ◌<◌, ◌≤◌}
use native.Mathlib.Numerals.{add-one}
use lib.Dec.{leb}
use lib.ListN.{length, length-append}
use borrow.Author.Tests.{le-leb, lt-leb, leb-true}
use Rattle.refusals.specs.declared.Refusal.{Refusal}
use Rattle.refusals.specs.declared.Refusal.TheVariants.{Broken, Unused, Full}
use Rattle.refusals.specs.Lowest.{◌when◌}
use Rattle.refusals.proofs.Lowest.{first_holds, answer_of_ok, answer_of_err}
use Rattle.pages.specs.Quant.{all_to}
use Rattle.pages.specs.Bytes.{eqs, big_endian, long_bytes, put}
use Rattle.pages.proofs.Quant.{and_true}
use Rattle.pages.proofs.Bytes.{eqs_true}
use Rattle.pages.proofs.Put.{put_append}
use Rattle.names.specs.Table.{names_max}
use Rattle.names.specs.Calls.{is_used}
use Rattle.names.proofs.Used.{used_below}
use Rattle.groups.specs.Groups.{Pair, pair, enter, parents_of}
use Rattle.groups.proofs.Walks.{parents_snoc}
use Rattle.pairs.specs.Table.{pairs_max, pair_bytes, factor_at, body_of, pair_at, pairs_in, listed, both_used, used_at, formed, insert_verdict, with_pair, insertion, after_insertion}
use Rattle.pairs.specs.declared.ConversionTable.{ConversionTable}

-- ---- pairs

pub length_pairs : (bodies : List ℕ) (k : ℕ) → length (pairs_in bodies k) ≡ k
unfolding pairs_in
length_pairs bodies zero = refl
length_pairs bodies (suc k) = length-append (pairs_in bodies k) (pair_at bodies k ∷ []) ∙ rw (length_pairs bodies k, add-one)

-- one more pair of a list of bodies
pub pairs_next : (bodies : List ℕ) (k : ℕ) → pairs_in bodies (k + 1) ≡ pairs_in bodies k ++ (pair_at bodies k ∷ [])
unfolding pairs_in
pairs_next bodies k = rw (add-one k)

-- ---- symbols in use

module _ (s b n : ℕ) where
  pub symbol_unused : is_used n s ≡ false → false ≡ both_used n (pair s b)
  symbol_unused h = rw h

  pub base_decides : is_used n s ≡ true → is_used n b ≡ both_used n (pair s b)
  base_decides h = rw h

-- they are symbols that a table can have
pub both_below : (n : ℕ) (q : Pair) → both_used n q ≡ true → (q.symbol < names_max) × (q.base < names_max)
both_below n q u =
    let a = and_true (is_used n q.symbol) (is_used n q.base) u in
    ((used_below n q.symbol a.0).1, (used_below n q.base a.1).1)

-- ---- a table in form

module _ (t : ConversionTable) (n : ℕ) where
  pub form_many : pairs_max < t.count → false ≡ formed t n
  unfolding formed
  form_many h = rw (lt-leb t.count pairs_max h)

  module _ (few : t.count ≤ pairs_max) where
    pub form_unused : all_to t.count (used_at t.pairs n) ≡ false → false ≡ formed t n
    unfolding formed
    form_unused h = rw (le-leb t.count pairs_max few, h)

    pub form_rest : all_to t.count (used_at t.pairs n) ≡ true → eqs t.parents (parents_of names_max (listed t)) ≡ formed t n
    unfolding formed
    form_rest h = rw (le-leb t.count pairs_max few, h)

-- what a table in form has
pub record Form (t : ConversionTable) (n : ℕ) : Type 0 where
  pub few : t.count ≤ pairs_max
  pub used : all_to t.count (used_at t.pairs n) ≡ true
  pub given : t.parents ≡ parents_of names_max (listed t)

pub form : (t : ConversionTable) (n : ℕ) → formed t n ≡ true → Form t n
unfolding formed
form t n e =
    let a = and_true (leb t.count pairs_max) _ e in
    let b = and_true (all_to t.count (used_at t.pairs n)) _ a.1 in
    record { few = leb-true _ _ a.0; used = b.0; given = eqs_true _ _ b.1 }

-- ---- one more pair

module _ (t : ConversionTable) (s f b : ℕ) (k : ℕ) (is : k ≡ t.count) (fits : pair_bytes * k + factor_at + long_bytes ≤ length t.pairs)
    (given : t.parents ≡ parents_of names_max (listed t)) where
  pub with_pair_lem : (bodies parents : List ℕ)
      → bodies ≡ put (put t.pairs (pair_bytes * k) (s ∷ b ∷ [])) (pair_bytes * k + factor_at) (big_endian long_bytes f)
      → parents ≡ enter k t.parents (pair s b)
      → ◌≡◌ {A = ConversionTable} (record { count = k + 1; pairs = bodies; parents = parents }) (with_pair t s f b)
  unfolding with_pair
  with_pair_lem bodies parents eb ep =
      let body : bodies ≡ put t.pairs (pair_bytes * k) (body_of s f b) = eb ∙ put_append t.pairs (pair_bytes * k) (s ∷ b ∷ []) (big_endian long_bytes f) fits in
      let l = length_pairs t.pairs t.count in
      let up : parents ≡ parents_of names_max (listed t ++ (pair s b ∷ [])) = ep ∙ rw (given, is) (sym (parents_snoc names_max (listed t) (pair s b) ∙ rw l)) in
      rw (body, up, is)

-- ---- insertion

module _ (t : ConversionTable) (n s f b : ℕ) where
  refused : (r : Refusal) → insert_verdict t n (pair s b) ≡ Err r → Err r ≡ insertion t n s f b
  unfolding insertion
  refused r v = rw v

  pub insert_broken : formed t n ≡ false → Err Broken ≡ insertion t n s f b
  unfolding insert_verdict
  insert_broken e = refused Broken v
    where
      v : insert_verdict t n (pair s b) ≡ Err Broken
      v = rw e (first_holds Broken ((Unused when not (both_used n (pair s b))) ∷ (Full when leb pairs_max t.count) ∷ []) refl)

  module _ (e : formed t n ≡ true) where
    pub insert_unused : both_used n (pair s b) ≡ false → Err Unused ≡ insertion t n s f b
    unfolding insert_verdict
    insert_unused u = refused Unused v
      where
        v : insert_verdict t n (pair s b) ≡ Err Unused
        v = rw (e, u) (first_holds Unused ((Full when leb pairs_max t.count) ∷ []) refl)

    module _ (u : both_used n (pair s b) ≡ true) where
      pub insert_full : pairs_max ≤ t.count → Err Full ≡ insertion t n s f b
      unfolding insert_verdict
      insert_full h = refused Full v
        where
          v : insert_verdict t n (pair s b) ≡ Err Full
          v = rw (e, u, le-leb pairs_max t.count h)

      insert_passed : t.count < pairs_max → insert_verdict t n (pair s b) ≡ Ok tt
      unfolding insert_verdict
      insert_passed h = rw (e, u, lt-leb pairs_max t.count h)

      pub insert_done : t.count < pairs_max → Ok (with_pair t s f b) ≡ insertion t n s f b
      unfolding insertion
      insert_done h = rw (insert_passed h)

  -- what `insert` answers and leaves, where the insertion by value is refused or not
  pub insert_err : (r : Refusal) → Err r ≡ insertion t n s f b → (Err r ≡ insert_verdict t n (pair s b)) × (t ≡ after_insertion t n s f b)
  unfolding insertion after_insertion
  insert_err r e =
      let v = answer_of_err (insert_verdict t n (pair s b)) (with_pair t s f b) r e in
      (sym v, rw v)

  -- and what the table that is lent is afterwards, what it answers
  pub inserted_ok : (x : ConversionTable) → Ok tt ≡ insert_verdict t n (pair s b) → x ≡ after_insertion t n s f b → Ok x ≡ insertion t n s f b
  unfolding insertion after_insertion
  inserted_ok x v e = rw (e, ← v)

  pub inserted_err : (r : Refusal) → Err r ≡ insert_verdict t n (pair s b) → Err r ≡ insertion t n s f b
  unfolding insertion
  inserted_err r v = rw (← v)

  pub insert_ok : (x : ConversionTable) → Ok x ≡ insertion t n s f b → (Ok tt ≡ insert_verdict t n (pair s b)) × (x ≡ after_insertion t n s f b)
  unfolding insertion after_insertion
  insert_ok x e =
      let v = answer_of_ok (insert_verdict t n (pair s b)) (with_pair t s f b) x e in
      (sym v.0, v.1 ∙ rw v.0)
