-- Indexing a checked type: one law for each return, and the store that it leaves. Assumes nothing.
use Rattle.std.proofs.Common.{Ok, Err}
use mathlib.Core.Path.{◌≡◌, refl}
use mathlib.Core.Bool.{Bool, true, false, cond}
use mathlib.Core.List.{List}
use Prim.Native.Nat.{ℕ, ◌<◌}
use native.Mathlib.Omega.{arith}
use lib.Dec.{eqb}
use Rattle.refusals.specs.declared.Refusal.{Refusal}
use Rattle.kinds.specs.Kinds.{is_union}
use Rattle.types.specs.Store.{Formed}
use Rattle.types.specs.Types.{types_in, kind_of}
use Rattle.matching.specs.Matching.{in_use}
use Rattle.matching.specs.declared.Checked.{Checked}
use Rattle.matching.specs.declared.Checked.TheVariants.{Known, Unknown, Function}
use Rattle.matching.proofs.Matching.{known_in_use}
use Rattle.operators.specs.Outcome.{no_error, one_error, count_of, outcome}
use Rattle.operators.specs.declared.Reason.TheVariants.{NotIndexable}
use Rattle.members.specs.Members.{size_of, union_of, concluded, conclude}
use Rattle.members.specs.Trials.{Tried, errors_in, settled}
use Rattle.members.proofs.Unions.{union_sound, union_refused}
use Rattle.members.proofs.Kept.{Kept, unknown_used, kept_same, kept_entered, refused_made}
use Rattle.indexing.specs.Indexing.{index_target, members_tried, index_any, check_index}
use Rattle.indexing.proofs.Targets.{target_in_use}
use Rattle.indexing.proofs.Trying.{tried_used}

-- ---- what is answered

module _ (page : List ℕ) (key : Checked) where
  pub index_unknown : concluded (Ok (outcome Unknown no_error)) page ≡ check_index page key Unknown
  unfolding check_index
  index_unknown = refl

  pub index_function : (f : ℕ) → concluded (Ok (outcome Unknown (one_error NotIndexable))) page ≡ check_index page key (Function f)
  unfolding check_index
  index_function f = refl

  pub index_union : (t : ℕ) → is_union (kind_of page t) ≡ true → index_any page key t ≡ check_index page key (Known t)
  unfolding check_index
  index_union t u = rw u refl

  pub index_other : (t : ℕ) → is_union (kind_of page t) ≡ false
      → concluded (Ok (index_target page key t)) page ≡ check_index page key (Known t)
  unfolding check_index
  index_other t u = rw u refl

-- ---- the store afterwards

module _ (page : List ℕ) (f : Formed page) (key : Checked) where
  any_kept : (t : ℕ) → t < types_in page → Kept page (index_any page key t)
  unfolding index_any settled
  any_kept t u = go (eqb (count_of (errors_in q)) 0)
    where
      q : Tried
      q = members_tried page key t (size_of page t)

      go : (b : Bool) → Kept page (cond b (concluded (conclude (union_of page q.results).made) (union_of page q.results).store)
          (concluded (Ok (outcome Unknown (errors_in q))) page))
      go true =
          kept_entered page (union_of page q.results)
          (union_sound page f q.results (tried_used page key t f u (size_of page t) (omega arith)))
      go false = kept_same page f (outcome Unknown (errors_in q)) (unknown_used page)

  pub index_kept : (target : Checked) → in_use page target ≡ true → Kept page (check_index page key target)
  unfolding check_index
  index_kept Unknown h = kept_same page f (outcome Unknown no_error) (unknown_used page)
  index_kept (Function g) h = kept_same page f (outcome Unknown (one_error NotIndexable)) (unknown_used page)
  index_kept (Known t) h = go (is_union (kind_of page t))
    where
      u : t < types_in page
      u = known_in_use page t h

      go : (b : Bool) → Kept page (cond b (index_any page key t) (concluded (Ok (index_target page key t)) page))
      go true = any_kept t u
      go false = kept_same page f (index_target page key t) (target_in_use page f t u key)

  -- a refusal leaves the store as it was
  any_refused : (t : ℕ) (r : Refusal) → (index_any page key t).conclusion ≡ Err r → (index_any page key t).store ≡ page
  unfolding index_any settled
  any_refused t r = go (eqb (count_of (errors_in q)) 0)
    where
      q : Tried
      q = members_tried page key t (size_of page t)

      go : (b : Bool)
          → (cond b (concluded (conclude (union_of page q.results).made) (union_of page q.results).store)
          (concluded (Ok (outcome Unknown (errors_in q))) page)).conclusion ≡ Err r
          → (cond b (concluded (conclude (union_of page q.results).made) (union_of page q.results).store)
          (concluded (Ok (outcome Unknown (errors_in q))) page)).store ≡ page
      go true e = union_refused page q.results r (refused_made (union_of page q.results).made r e)
      go false e = refl

  pub index_refused : (target : Checked) (r : Refusal) → (check_index page key target).conclusion ≡ Err r
      → (check_index page key target).store ≡ page
  unfolding check_index
  index_refused Unknown r e = refl
  index_refused (Function g) r e = refl
  index_refused (Known t) r e = go (is_union (kind_of page t)) e
    where
      go : (b : Bool) → (cond b (index_any page key t) (concluded (Ok (index_target page key t)) page)).conclusion ≡ Err r
          → (cond b (index_any page key t) (concluded (Ok (index_target page key t)) page)).store ≡ page
      go true e = any_refused t r e
      go false e = refl
