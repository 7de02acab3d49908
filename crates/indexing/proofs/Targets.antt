-- Indexing a type that is no union: one law for each return, and that what is answered is in use. Assumes nothing.
use mathlib.Core.Path.{◌≡◌, refl}
use mathlib.Core.Bool.{Bool, true, false, ◌||◌, cond}
use mathlib.Core.List.{List}
use Prim.Native.Nat.{ℕ, ◌<◌}
use native.Mathlib.Omega.{arith}
use lib.Dec.{eqb}
use Rattle.kinds.specs.Kinds.{null, is_array, is_set, is_map, is_tuple}
use Rattle.types.specs.Store.{Formed}
use Rattle.types.specs.Types.{types_in, kind_of, arity, child_of}
use Rattle.types.proofs.Types.{child_lower}
use Rattle.matching.specs.Matching.{matches, in_use}
use Rattle.matching.specs.declared.Checked.{Checked}
use Rattle.matching.specs.declared.Checked.TheVariants.{Known, Unknown}
use Rattle.matching.proofs.Parts.{one_child, two_children}
use Rattle.matching.proofs.Matching.{in_use_known}
use Rattle.operators.specs.Outcome.{no_error, one_error, outcome, number_of}
use Rattle.operators.specs.declared.Reason.TheVariants.{BadKey, NotIndexable}
use Rattle.operators.specs.declared.Outcome.{Outcome}
use Rattle.members.proofs.Kept.{unknown_used, number_used}
use Rattle.indexing.specs.Indexing.{index_target}

-- has a type elements of one sort, and does it index to Unknown
abbrev pub has_elements : List ℕ → ℕ → Bool
has_elements page t = is_array (kind_of page t) || is_set (kind_of page t)

abbrev pub is_unknown : List ℕ → ℕ → Bool
is_unknown page t = eqb (kind_of page t) null || is_tuple (kind_of page t)

-- ---- what is answered

module _ (page : List ℕ) (key : Checked) (t : ℕ) where
  pub target_element : has_elements page t ≡ true → outcome (Known (child_of page t 0)) no_error ≡ index_target page key t
  unfolding index_target
  target_element e = rw e refl

  module _ (e : has_elements page t ≡ false) where
    pub target_value : is_map (kind_of page t) ≡ true → (m : Bool) → matches page key (Known (child_of page t 0)) ≡ m
        → outcome (Known (child_of page t 1)) (cond m no_error (one_error BadKey)) ≡ index_target page key t
    unfolding index_target
    target_value i m h = rw (e, i, h) refl

    module _ (i : is_map (kind_of page t) ≡ false) where
      pub target_unknown : is_unknown page t ≡ true → outcome Unknown no_error ≡ index_target page key t
      unfolding index_target
      target_unknown n = rw (e, i, n) refl

      pub target_none : is_unknown page t ≡ false → outcome Unknown (one_error NotIndexable) ≡ index_target page key t
      unfolding index_target
      target_none n = rw (e, i, n) refl

-- ---- is in use

module _ (page : List ℕ) (f : Formed page) (t : ℕ) (u : t < types_in page) where
  pub element_there : has_elements page t ≡ true → 0 < arity page t
  element_there = go (is_array (kind_of page t)) refl (is_set (kind_of page t)) refl
    where
      go : (a : Bool) → is_array (kind_of page t) ≡ a → (s : Bool) → is_set (kind_of page t) ≡ s → (a || s) ≡ true → 0 < arity page t
      go true a s e h = omega (arith, one_child page f t u 19 20 (omega arith) (omega arith) a)
      go false a true e h = omega (arith, one_child page f t u 21 22 (omega arith) (omega arith) e)
      go false a false e h = absurd (let z : ◌≡◌ {A = ℕ} 0 1 = cc in omega arith)

  module _ (key : Checked) where
    pub target_in_use : in_use page (index_target page key t).checked ≡ true
    unfolding index_target
    target_in_use = element (has_elements page t) refl
      where
        other : (n : Bool) → in_use page (cond n (outcome Unknown no_error) (outcome Unknown (one_error NotIndexable))).checked ≡ true
        other true = unknown_used page
        other false = unknown_used page

        value : (m : Bool) → is_map (kind_of page t) ≡ m
            → in_use page (cond m
            (outcome (Known (child_of page t 1)) (cond (matches page key (Known (child_of page t 0))) no_error (one_error BadKey)))
            (cond (is_unknown page t) (outcome Unknown no_error) (outcome Unknown (one_error NotIndexable)))).checked ≡ true
        value true h =
            in_use_known page (child_of page t 1) (omega (arith, child_lower page f t u 1 (omega (arith, two_children page f t u h))))
        value false h = other (is_unknown page t)

        element : (b : Bool) → has_elements page t ≡ b
            → in_use page (cond b (outcome (Known (child_of page t 0)) no_error)
            (cond (is_map (kind_of page t))
            (outcome (Known (child_of page t 1)) (cond (matches page key (Known (child_of page t 0))) no_error (one_error BadKey)))
            (cond (is_unknown page t) (outcome Unknown no_error) (outcome Unknown (one_error NotIndexable))))).checked ≡ true
        element true h = in_use_known page (child_of page t 0) (omega (arith, child_lower page f t u 0 (element_there h)))
        element false h = value (is_map (kind_of page t)) refl

    pub target_used : number_of (index_target page key t).checked < types_in page
    target_used = number_used page (index_target page key t).checked target_in_use

    -- what `check_index_target` promises
    pub target_is : (r : Outcome) → r ≡ index_target page key t → (r ≡ index_target page key t) × (number_of r.checked < types_in page)
    target_is r e = (e, rw e target_used)
