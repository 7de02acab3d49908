-- The bytes of an entry: what they say, and how they are written. Assumes nothing.
use mathlib.Core.Path.{◌≡◌, refl, ◌∙◌}
use mathlib.Core.Bool.{Bool, true, false, ◌&&◌, ◌||◌, not, cond}
use mathlib.Core.List.{List, [], ◌∷◌}
use Prim.Native.Nat.{ℕ, zero, suc, ◌+◌, ◌*◌, ◌%◌, ◌^◌, ◌<◌, ◌≤◌}
use native.Mathlib.Nat.{not-suc-le-zero, le_of_suc-le-suc}
use native.Mathlib.Omega.{arith}
use lib.Dec.{ltb, eqb}
use lib.ListN.{length, get_or, take, replicate}
use Rattle.pages.specs.Bytes.{within, words, big_endian, put}
use Rattle.pages.specs.Pad.{pad, padded}
use Rattle.pages.specs.declared.Padded.{Padded}
use Rattle.pages.proofs.Quant.{and_true, all_each}
use Rattle.pages.proofs.Bytes.{big_length, number_back}
use Rattle.pages.proofs.Put.{put_append}
use Rattle.pages.proofs.Words.{words_length, words_at_lem}
use Rattle.pages.proofs.Pad.{put_pad, pad_front}
use Rattle.names.specs.Calls.{is_used}
use Rattle.names.proofs.Used.{used_below}
use Rattle.kinds.specs.Kinds.{children_max, is_named, is_stored, fewest, most}
use Rattle.types.specs.Store.{head_bytes, child_bytes, name_bytes, children_at, kind_at, child_at, name_at, size_at, is_below, children_below, parts_at}
use Rattle.types.specs.Making.{entry_of, entry_max}
use Rattle.types.specs.Calls.{all_below}
use Rattle.types.proofs.Width.{byte_name, names_fit}

-- ---- children below t

below_at : (cs : List ℕ) (t : ℕ) → all_below t cs ≡ true → (i : ℕ) → i < length cs → ltb (get_or cs i 0) t ≡ true
below_at [] t u i l = absurd (not-suc-le-zero l)
below_at (c ∷ cs) t u zero l = (and_true (ltb c t) (all_below t cs) u).0
below_at (c ∷ cs) t u (suc i) l = below_at cs t (and_true (ltb c t) (all_below t cs) u).1 i (le_of_suc-le-suc l)

-- the front of an entry's places is the entry
pub entry_front : (e : List ℕ) (v : Padded entry_max) → (v ≡ padded entry_max e) × (v.size ≤ entry_max) → take v.size v.bytes ≡ e
entry_front e v h = rw h.0 (pad_front entry_max e (length e) refl (rw h.0 at h.1))

-- ---- an entry

module _ (k : ℕ) (cs : List ℕ) (m : ℕ) where
  pub entry_kind : kind_at (entry_of k cs m) 0 ≡ k
  unfolding entry_of
  entry_kind = go (is_named k)
    where
      go : (b : Bool) → get_or (cond b (0 ∷ k ∷ big_endian name_bytes m) (length cs ∷ k ∷ words cs)) 1 0 ≡ k
      go true = refl
      go false = refl

  module _ (h : is_named k ≡ true) where
    named_is : entry_of k cs m ≡ 0 ∷ k ∷ big_endian name_bytes m
    unfolding entry_of
    named_is = rw h

    pub entry_childless : children_at (entry_of k cs m) 0 ≡ 0
    entry_childless = rw named_is

    name_bytes_lem : (i : ℕ) → i < name_bytes → get_or (entry_of k cs m) (0 + head_bytes + i) 0 ≡ get_or (big_endian name_bytes m) i 0
    name_bytes_lem i l = let e : 0 + head_bytes + i ≡ suc (suc i) = omega arith in rw (named_is, e) refl

    -- a name in use is read as it was written
    pub entry_name : (n : ℕ) → is_used n m ≡ true → name_at (entry_of k cs m) 0 ≡ m
    entry_name n u =
        let s : m < 256 ^ name_bytes = omega (arith, (used_below n m u).1, names_fit) in
        number_back (entry_of k cs m) (0 + head_bytes) m name_bytes s name_bytes_lem

    named_size : head_bytes + name_bytes ≡ length (entry_of k cs m)
    named_size = rw (named_is, big_length name_bytes m) (omega arith)

    pub named_made : 0 ∷ k ∷ m % 256 ∷ [] ≡ entry_of k cs m
    named_made = rw (named_is, byte_name m) refl

  module _ (h : is_named k ≡ false) where
    other_is : entry_of k cs m ≡ length cs ∷ k ∷ words cs
    unfolding entry_of
    other_is = rw h

    pub entry_children : children_at (entry_of k cs m) 0 ≡ length cs
    entry_children = rw other_is

    pub entry_child : (i : ℕ) → i < length cs → child_at (entry_of k cs m) 0 i ≡ get_or cs i 0
    entry_child i l =
        let a : 0 + head_bytes + child_bytes * i ≡ suc (suc (child_bytes * i)) = omega arith in
        let b : suc (suc (child_bytes * i)) + 1 ≡ suc (suc (child_bytes * i + 1)) = omega arith in
        rw (other_is, a, b) (words_at_lem cs i l)

    pub other_size : head_bytes + child_bytes * length cs ≡ length (entry_of k cs m)
    other_size = rw other_is (omega (arith, words_length cs))

    pub other_made : length cs ≤ children_max
        → put (put (replicate entry_max 0) 0 (length cs ∷ k ∷ [])) head_bytes (words cs) ≡ pad entry_max 0 (entry_of k cs m)
    other_made l =
        let w = words_length cs in
        rw other_is
        (put_append (replicate entry_max 0) 0 (length cs ∷ k ∷ []) (words cs) (omega (arith, w))
        ∙ put_pad entry_max (length cs ∷ k ∷ words cs) (omega (arith, w)))

  -- all of it
  pub entry_whole : size_at (entry_of k cs m) 0 ≡ length (entry_of k cs m)
  unfolding size_at
  entry_whole = rw entry_kind (go (is_named k) refl)
    where
      go : (b : Bool) → is_named k ≡ b → head_bytes + cond b name_bytes (child_bytes * children_at (entry_of k cs m) 0) ≡ length (entry_of k cs m)
      go true e = named_size e
      go false e = rw (entry_children e) (other_size e)

  -- with its parts: a kind that is stored, children below t or a name of n, and as many children as the kind has
  module _ (n t : ℕ) (s : is_stored k ≡ true) (u : all_below t cs ≡ true) (v : (not (is_named k) || is_used n m) ≡ true)
      (w : within (fewest k) (most k) (length cs) ≡ true) where
    pub entry_parts : parts_at (entry_of k cs m) n t 0 ≡ true
    unfolding parts_at
    entry_parts = rw (entry_kind, s) (go (is_named k) refl)
      where
        go : (b : Bool) → is_named k ≡ b → cond b (eqb (children_at (entry_of k cs m) 0) 0 && is_used n (name_at (entry_of k cs m) 0))
            (within (fewest k) (most k) (children_at (entry_of k cs m) 0) && children_below (entry_of k cs m) 0 t) ≡ true
        go true e = let u : is_used n m ≡ true = rw e at v in rw (entry_childless e, entry_name e n u) u
        go false e =
            rw (entry_children e, w)
            (all_each (length cs) (is_below (entry_of k cs m) 0 t) (λ i l. rw (entry_child e i l) (below_at cs t u i l)))
