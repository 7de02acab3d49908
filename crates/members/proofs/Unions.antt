-- The union of results: it leaves a store in form that has grown (`union_sound`), and a union made once is found again in every
-- store that grows out of the one it left (`union_again`). Assumes nothing.
use Rattle.std.proofs.Common.{Result, Ok, Err}
use mathlib.Core.Path.{◌≡◌, refl, ap, ap₂}
use mathlib.Core.Bool.{Bool, true, false, cond}
use mathlib.Core.List.{List, [], ◌∷◌, ◌++◌}
use Prim.Native.Nat.{ℕ, ◌+◌, ◌<◌, ◌≤◌}
use native.Mathlib.Omega.{arith}
use lib.Dec.{ltb}
use lib.ListN.{length}
use borrow.Author.Tests.{lt-ltb, ltb-true, ltb-false, le-leb}
use Rattle.refusals.specs.declared.Refusal.{Refusal}
use Rattle.refusals.specs.declared.Refusal.TheVariants.{Width}
use Rattle.refusals.specs.Lowest.{unless_refused, answer_of}
use Rattle.refusals.specs.Numbers.{Verdict}
use Rattle.pages.specs.Bytes.{count_of}
use Rattle.pages.proofs.Quant.{and_true}
use Rattle.kinds.specs.Kinds.{fixed_max, children_max, any, fewest, most}
use Rattle.types.specs.Store.{equal_to, Formed}
use Rattle.types.specs.Types.{types_in}
use Rattle.types.specs.Making.{entry_of, is_made, Enterable, enter_verdict, enter_answer, with_entry, enter_page, Grows}
use Rattle.types.specs.Calls.{all_below}
use Rattle.types.proofs.Grown.{grows_refl}
use Rattle.types.proofs.Entries.{entry_whole, entry_parts}
use Rattle.types.proofs.Again.{at_inj, enter_grows, enter_used, enter_again}
use Rattle.members.specs.Members.{has, merged, Entered, entered, union_of}

-- ---- numbers below a bound

pub below_more : (t u : ℕ) (rs : List ℕ) → t ≤ u → all_below t rs ≡ true → all_below u rs ≡ true
below_more t u [] h e = refl
below_more t u (r ∷ rs) h e =
    let z = and_true (ltb r t) (all_below t rs) e in
    let l : r < u = omega (arith, ltb-true r t z.0) in
    rw (lt-ltb r u l) (below_more t u rs h z.1)

below_last : (t : ℕ) (rs : List ℕ) (r : ℕ) → all_below t rs ≡ true → r < t → all_below t (rs ++ (r ∷ [])) ≡ true
below_last t [] r e l = rw (lt-ltb r t l) refl
below_last t (x ∷ rs) r e l = let z = and_true (ltb x t) (all_below t rs) e in rw z.0 (below_last t rs r z.1 l)

-- one more result
module _ (r : ℕ) (rs : List ℕ) where
  pub merged_below : (t : ℕ) → all_below t rs ≡ true → r < t → all_below t (merged r rs) ≡ true
  unfolding merged
  merged_below t e l = go (has r rs)
    where
      go : (b : Bool) → all_below t (cond b rs (rs ++ (r ∷ []))) ≡ true
      go true = e
      go false = below_last t rs r e l

-- and then there is one
pub merged_some : (r : ℕ) (rs : List ℕ) → 0 < length (merged r rs)
unfolding merged has
merged_some r [] = omega arith
merged_some r (x ∷ rs) = go (has r (x ∷ rs))
  where
    go : (b : Bool) → 0 < length (cond b (x ∷ rs) ((x ∷ rs) ++ (r ∷ [])))
    go true = omega arith
    go false = omega arith

-- ---- the store afterwards: it has grown and is in form, and what was made is in use
pub record Sound (page : List ℕ) (o : Entered) : Type 0 where
  pub grown : Grows page o.store
  pub form : Formed o.store
  pub used : (r : ℕ) → o.made ≡ Ok r → r < types_in o.store

-- what was refused has no number
pub refused_not : (q : Refusal) (r : ℕ) → ◌≡◌ {A = Result ℕ Refusal} (Err q) (Ok r) → ⊥
refused_not q r e = let z : ◌≡◌ {A = ℕ} 0 1 = cc in omega arith

pub itself : (page : List ℕ) (x : ℕ) → Formed page → x < types_in page → Sound page (entered (Ok x) page)
itself page x f l = record { grown = grows_refl page; form = f; used = λ r e. rw (← at_inj x r e) l }

-- what a check came to in a store s is found again, under its number, in every store that grows out of the one it left
abbrev pub Again : (List ℕ → Entered) → List ℕ → Type 0
Again f s = (r : ℕ) → (f s).made ≡ Ok r → (q : List ℕ) → Grows (f s).store q → Formed q → f q ≡ entered (Ok r) q

-- ---- a union of results

pub union_enterable : (s rs : List ℕ) (f : Formed s) → length rs ≤ children_max → all_below (types_in s) rs ≡ true
    → Enterable s (entry_of any rs 0) f
unfolding fewest most
union_enterable s rs f l u = record {
  whole = entry_whole any rs 0;
  parts =
      entry_parts any rs 0 f.names (types_in s) refl u refl
      (rw (le-leb 0 (length rs) (omega arith), le-leb (length rs) children_max l) refl);
}

module _ (s : List ℕ) (f : Formed s) where
  pub union_sound : (rs : List ℕ) → all_below (types_in s) rs ≡ true → Sound s (union_of s rs)
  unfolding union_of
  union_sound [] u = itself s 0 f (omega arith)
  union_sound (x ∷ []) u = itself s x f (ltb-true x (types_in s) (and_true (ltb x (types_in s)) true u).0)
  union_sound (x ∷ y ∷ rs) u = go (ltb children_max (length (x ∷ y ∷ rs))) refl
    where
      entry : List ℕ
      entry = entry_of any (x ∷ y ∷ rs) 0

      go : (b : Bool) → ltb children_max (length (x ∷ y ∷ rs)) ≡ b
          → Sound s (cond b (entered (Err Width) s) (entered (enter_answer s entry) (enter_page s entry)))
      go true e = record { grown = grows_refl s; form = f; used = λ r h. absurd (refused_not Width r h) }
      go false e =
          let n = union_enterable s (x ∷ y ∷ rs) f (ltb-false children_max (length (x ∷ y ∷ rs)) e) u in
          let g = enter_grows s entry f n in
          record { grown = g.0; form = g.1; used = λ r h. enter_used s entry f n r h }

  pub union_again : (rs : List ℕ) → all_below (types_in s) rs ≡ true → Again (λ x. union_of x rs) s
  unfolding union_of
  union_again [] u r h q g fq = ap (λ (x : Result ℕ Refusal). entered x q) h
  union_again (x ∷ []) u r h q g fq = ap (λ (m : Result ℕ Refusal). entered m q) h
  union_again (x ∷ y ∷ rs) u r h q g fq = go (ltb children_max (length (x ∷ y ∷ rs))) refl h g
    where
      entry : List ℕ
      entry = entry_of any (x ∷ y ∷ rs) 0

      go : (b : Bool) → ltb children_max (length (x ∷ y ∷ rs)) ≡ b
          → (cond b (entered (Err Width) s) (entered (enter_answer s entry) (enter_page s entry))).made ≡ Ok r
          → Grows (cond b (entered (Err Width) s) (entered (enter_answer s entry) (enter_page s entry))).store q
          → cond b (entered (Err Width) q) (entered (enter_answer q entry) (enter_page q entry)) ≡ entered (Ok r) q
      go true e k w = absurd (refused_not Width r k)
      go false e k w =
          let n = union_enterable s (x ∷ y ∷ rs) f (ltb-false children_max (length (x ∷ y ∷ rs)) e) u in
          let a = enter_again s entry f n r k q w fq in
          ap₂ entered a.0 a.1

-- ---- a union that is refused changes nothing

enter_refused : (s entry : List ℕ) (q : Refusal) → enter_answer s entry ≡ Err q → enter_page s entry ≡ s
unfolding enter_answer enter_page
enter_refused s entry q = go (enter_verdict s entry)
  where
    go : (v : Verdict) → answer_of v (fixed_max + equal_to s (count_of s) entry) ≡ Err q
        → unless_refused v (cond (is_made s entry) s (with_entry s entry)) s ≡ s
    go (Ok _) e = absurd (let z : ◌≡◌ {A = ℕ} 0 1 = cc in omega arith)
    go (Err r) e = refl

pub union_refused : (s rs : List ℕ) (q : Refusal) → (union_of s rs).made ≡ Err q → (union_of s rs).store ≡ s
unfolding union_of
union_refused s [] q e = refl
union_refused s (x ∷ []) q e = refl
union_refused s (x ∷ y ∷ rs) q e = go (ltb children_max (length (x ∷ y ∷ rs))) e
  where
    entry : List ℕ
    entry = entry_of any (x ∷ y ∷ rs) 0

    go : (b : Bool) → (cond b (entered (Err Width) s) (entered (enter_answer s entry) (enter_page s entry))).made ≡ Err q
        → (cond b (entered (Err Width) s) (entered (enter_answer s entry) (enter_page s entry))).store ≡ s
    go true k = refl
    go false k = enter_refused s entry q k
