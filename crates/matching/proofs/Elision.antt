-- Elision of arrays and of maps: the equation of each rule, and one law for each return. Assumes nothing.
use mathlib.Core.Path.{◌≡◌, refl, sym, ◌∙◌, ap, subst}
use mathlib.Core.Bool.{Bool, true, false, ◌&&◌, ◌||◌, cond}
use mathlib.Core.List.{List}
use Prim.Native.Nat.{ℕ, ◌<◌, ◌≤◌, min}
use native.Mathlib.Omega.{arith}
use lib.Dec.{ltb, eqb, T}
use borrow.Author.Tests.{ltb-true, ltb-false, ne_eqb}
use Rattle.pages.specs.Quant.{all_to}
use Rattle.pages.proofs.Quant.{and_true, all_cong}
use Rattle.kinds.specs.Kinds.{null, is_array, is_tuple, is_map}
use Rattle.types.specs.Store.{Formed}
use Rattle.types.specs.Types.{types_in, kind_of, arity, child_of}
use Rattle.types.specs.Recur.{below, cov}
use Rattle.types.proofs.Recur.{below_lt, cov_eq}
use Rattle.types.proofs.Types.{child_lower}
use Rattle.matching.specs.Matching.{both, smaller, null_or, array_elision, null_array_elision, map_elision, null_map_elision}
use Rattle.matching.proofs.Parts.{one_child, two_children}

pub smaller_left : (m n : ℕ) → smaller m n ≤ m
unfolding smaller
smaller_left m n = go (ltb m n) refl
  where
    go : (b : Bool) → ltb m n ≡ b → cond b m n ≤ m
    go true e = omega arith
    go false e = ltb-false m n e

pub smaller_right : (m n : ℕ) → smaller m n ≤ n
unfolding smaller
smaller_right m n = go (ltb m n) refl
  where
    go : (b : Bool) → ltb m n ≡ b → cond b m n ≤ n
    go true e = omega (arith, ltb-true m n e)
    go false e = omega arith

-- a rule that is asked only where a test passes
pub and_cong : (b x y : Bool) → (b ≡ true → x ≡ y) → (b && x) ≡ (b && y)
and_cong true x y h = h refl
and_cong false x y h = refl

pub cond_cong : (b x y z w : Bool) → (b ≡ true → x ≡ y) → z ≡ w → cond b x z ≡ cond b y w
cond_cong true x y z w h k = h refl
cond_cong false x y z w h k = k

-- the rule for the keys and the values of maps, where another rule is one for maps
abbrev pub part_rule : List ℕ → (ℕ → ℕ → Bool) → ℕ → ℕ → Bool
part_rule page rule x y = null_array_elision page x y || rule x y

pub part_array : (page : List ℕ) (rule : ℕ → ℕ → Bool) (x y : ℕ) → null_array_elision page x y ≡ true → part_rule page rule x y ≡ true
part_array page rule x y h = rw h refl

pub part_map : (page : List ℕ) (rule : ℕ → ℕ → Bool) (x y : ℕ) → null_array_elision page x y ≡ false → part_rule page rule x y ≡ rule x y
part_map page rule x y h = rw h refl

-- child i of one type and child i of another: Null, or by the rule
abbrev pub elided : List ℕ → (ℕ → ℕ → Bool) → ℕ → ℕ → ℕ → Bool
elided page rule a b i = null_or rule (child_of page a i) (child_of page b i)

elided_cong : (page : List ℕ) (p q : ℕ → ℕ → Bool) (a b i : ℕ) → p (child_of page a i) (child_of page b i) ≡ q (child_of page a i) (child_of page b i)
    → elided page p a b i ≡ elided page q a b i
unfolding null_or
elided_cong page p q a b i h = ap (λ (r : Bool). eqb (child_of page a i) null || (eqb (child_of page b i) null || r)) h

module _ (page : List ℕ) (rule : ℕ → ℕ → Bool) (a b i x y : ℕ) (ex : x ≡ child_of page a i) (ey : y ≡ child_of page b i) where
  pub elided_rule : (x ≡ null → ⊥) → (y ≡ null → ⊥) → elided page rule a b i ≡ rule x y
  unfolding null_or
  elided_rule h k = rw (← ex, ← ey, ne_eqb x null h, ne_eqb y null k) refl

  pub elided_left : x ≡ null → elided page rule a b i ≡ true
  unfolding null_or
  elided_left h = rw (← ex, h) refl

  pub elided_right : y ≡ null → elided page rule a b i ≡ true
  unfolding null_or
  elided_right h = rw (← ey, h) (go (eqb (child_of page a i) null))
    where
      go : (p : Bool) → (p || true) ≡ true
      go true = refl
      go false = refl

module _ (page : List ℕ) (f : Formed page) (a : ℕ) (u : a < types_in page) (b : ℕ) where
  array_child : both is_array page a b ≡ true → 0 < arity page a
  array_child e = let h = (and_true (is_array (kind_of page a)) _ e).0 in omega (arith, one_child page f a u 19 20 (omega arith) (omega arith) h)

  map_child : both is_map page a b ≡ true → (i : ℕ) → i < 2 → i < arity page a
  map_child e i l = omega (arith, two_children page f a u (and_true (is_map (kind_of page a)) _ e).0)

  -- the answers for the children are those below
  module _ (rule : ℕ → ℕ → Bool) where
    abbrev lower : ℕ → ℕ → Bool
    lower = below (λ y. false) a rule

    lower_child : (i : ℕ) → i < arity page a → (y : ℕ) → lower (child_of page a i) y ≡ rule (child_of page a i) y
    lower_child i l y = ap (λ (g : ℕ → Bool). g y) (below_lt (λ y. false) a rule (child_of page a i) (child_lower page f a u i l))

    array_lower : array_elision page lower a b ≡ array_elision page rule a b
    unfolding array_elision
    array_lower =
        cond_cong (both is_array page a b) _ _ _ _
        (λ e. elided_cong page lower rule a b 0 (lower_child 0 (array_child e) _))
        (ap (λ (r : Bool). both is_tuple page a b && r)
        (all_cong (elided page lower a b) (elided page rule a b) (smaller (arity page a) (arity page b))
        (λ i l. elided_cong page lower rule a b i (lower_child i (omega (arith, smaller_left (arity page a) (arity page b))) _))))

    map_lower : map_elision page lower a b ≡ map_elision page rule a b
    unfolding map_elision
    map_lower =
        and_cong (both is_map page a b) _ _
        (λ e. all_cong (elided page (part_rule page lower) a b) (elided page (part_rule page rule) a b) 2
        (λ i l. elided_cong page (part_rule page lower) (part_rule page rule) a b i
        (ap (λ (r : Bool). null_array_elision page (child_of page a i) (child_of page b i) || r)
        (lower_child i (map_child e i l) _))))

  pub array_eq : null_array_elision page a b ≡ array_elision page (null_array_elision page) a b
  unfolding null_array_elision
  array_eq =
      ap (λ (g : ℕ → Bool). g b) (cov_eq (λ y. false) (λ x rule y. array_elision page rule x y) a)
      ∙ array_lower (cov (λ y. false) (λ x rule y. array_elision page rule x y))

  -- arrays and tuples alike are compared child by child
  module _ (n : ℕ) (e : n ≡ smaller (arity page a) (arity page b)) (v : b < types_in page) where
    pub array_all : (both is_array page a b || both is_tuple page a b) ≡ true
        → all_to n (elided page (null_array_elision page) a b) ≡ null_array_elision page a b
    unfolding array_elision smaller all_to
    array_all h = go (both is_array page a b) refl h ∙ sym array_eq
      where
        go : (r : Bool) → both is_array page a b ≡ r → (r || both is_tuple page a b) ≡ true
            → all_to n (elided page (null_array_elision page) a b) ≡ array_elision page (null_array_elision page) a b
        go true k t =
            let d = and_true (is_array (kind_of page a)) (is_array (kind_of page b)) k in
            rw (e, one_child page f a u 19 20 (omega arith) (omega arith) d.0, one_child page f b v 19 20 (omega arith) (omega arith) d.1, k) refl
        go false k t = rw (e, k, t) refl

  pub array_unlike : (both is_array page a b || both is_tuple page a b) ≡ false → false ≡ null_array_elision page a b
  unfolding array_elision
  array_unlike h = sym (array_eq ∙ go (both is_array page a b) (both is_tuple page a b) _ _ h)
    where
      go : (r s x y : Bool) → (r || s) ≡ false → cond r x (s && y) ≡ false
      go true s x y t = absurd (subst T t tt)
      go false true x y t = absurd (subst T t tt)
      go false false x y t = refl

  pub map_eq : null_map_elision page a b ≡ map_elision page (null_map_elision page) a b
  unfolding null_map_elision
  map_eq =
      ap (λ (g : ℕ → Bool). g b) (cov_eq (λ y. false) (λ x rule y. map_elision page rule x y) a)
      ∙ map_lower (cov (λ y. false) (λ x rule y. map_elision page rule x y))

  pub map_unlike : both is_map page a b ≡ false → false ≡ null_map_elision page a b
  unfolding map_elision
  map_unlike h = sym (map_eq ∙ rw h refl)

  pub map_all : both is_map page a b ≡ true → all_to 2 (elided page (part_rule page (null_map_elision page)) a b) ≡ null_map_elision page a b
  unfolding map_elision
  map_all h = sym (map_eq ∙ rw h refl)

-- the smaller of two numbers
pub smaller_is : (m n : ℕ) → min m n ≡ smaller m n
unfolding smaller
smaller_is m n = go (ltb m n) refl
  where
    go : (x : Bool) → ltb m n ≡ x → min m n ≡ cond x m n
    go true e = let l = ltb-true m n e in omega (arith, l)
    go false e = let l = ltb-false m n e in omega (arith, l)
