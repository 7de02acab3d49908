-- What matching says of types in use stays so in every store that grows out of theirs, and with it what a call has in mind. Assumes nothing.
use mathlib.Core.Path.{◌≡◌, refl, sym, ◌∙◌, ap, ap₂}
use mathlib.Core.Bool.{Bool, true, false, ◌&&◌, ◌||◌, cond}
use mathlib.Core.List.{List}
use Prim.Native.Nat.{ℕ, zero, suc, ◌/◌, ◌%◌, ◌<◌}
use native.Mathlib.Nat.{not-suc-le-zero}
use native.Mathlib.Omega.{arith}
use lib.Dec.{ltb, eqb}
use borrow.Author.Tests.{eqb-true, ltb-true, lt-ltb}
use Rattle.pages.specs.Quant.{any_to}
use Rattle.pages.proofs.Quant.{and_true, any_cong, all_cong}
use Rattle.kinds.specs.Kinds.{callback, handle, handle_infer, is_array, is_set, is_map, is_tuple, is_record, is_enum, is_union, is_named}
use Rattle.types.specs.Store.{Formed}
use Rattle.types.specs.Types.{types_in, kind_of, arity, child_of, name_of}
use Rattle.types.specs.Making.{Grows}
use Rattle.types.proofs.Types.{child_lower}
use Rattle.types.proofs.Grown.{kind_grown, arity_grown, child_grown, name_grown}
use Rattle.matching.specs.Matching.{both, is_kind, smaller, null_or, array_elision, null_array_elision, map_elision, null_map_elision, record_matches, enum_matches, set_matches, handle_matches, flat_matches, wild, plain_matches, any_rule, known_matches, any_matches, in_use}
use Rattle.matching.specs.declared.Checked.{Checked}
use Rattle.matching.specs.declared.Checked.TheVariants.{Known, Unknown, Function}
use Rattle.marks.specs.Marks.{Noted}
use Rattle.marks.proofs.Marks.{noted_as}
use Rattle.matching.specs.Memo.{has_partner, found, Says, Found}
use Rattle.matching.proofs.Parts.{record_named, enum_named, handle_named, one_child, two_children}
use Rattle.matching.proofs.Elision.{smaller_left, smaller_right, and_cong, cond_cong, elided, part_rule, array_eq, map_eq}
use Rattle.matching.proofs.Matching.{known_eq}

module _ (p q : List ℕ) (f : Formed p) (fq : Formed q) (g : Grows p q) where
  still : (t : ℕ) → t < types_in p → t < types_in q
  still t u = omega (arith, g.more)

  -- child i of type t, where it has one
  record Child (t i : ℕ) : Type 0 where
    pub same : child_of q t i ≡ child_of p t i
    pub low : child_of p t i < t

  module _ (t : ℕ) (u : t < types_in p) where
    kind : kind_of q t ≡ kind_of p t
    kind = kind_grown p q f g t u

    children : arity q t ≡ arity p t
    children = arity_grown p q f g t u

    child : (i : ℕ) → i < arity p t → Child t i
    child i l = record { same = child_grown p q f g t u i l; low = child_lower p f t u i l }

  -- a checked type stays in use
  pub in_use_grown : (c : Checked) → in_use p c ≡ true → in_use q c ≡ true
  unfolding in_use
  in_use_grown Unknown h = refl
  in_use_grown (Known t) h = lt-ltb t (types_in q) (still t (ltb-true t (types_in p) h))
  in_use_grown (Function t) h =
      let d = and_true (ltb t (types_in p)) (is_kind callback p t) h in
      let u = ltb-true t (types_in p) d.0 in
      rw (lt-ltb t (types_in q) (still t u), kind t u) d.1

  -- two children are elided by rules that say the same of them
  elided_grown : (r s : ℕ → ℕ → Bool) (a b i : ℕ) → Child a i → Child b i → r (child_of p a i) (child_of p b i) ≡ s (child_of p a i) (child_of p b i)
      → elided q r a b i ≡ elided p s a b i
  unfolding null_or
  elided_grown r s a b i x y h = rw (x.same, y.same, h) refl

  -- ---- elision

  module _ (a : ℕ) (u : a < types_in p) (b : ℕ) (v : b < types_in p) where
    module _ (ih : (x y : ℕ) → x < a → y < types_in p → null_array_elision q x y ≡ null_array_elision p x y) where
      array_child : (i : ℕ) → i < arity p a → i < arity p b
          → elided q (null_array_elision q) a b i ≡ elided p (null_array_elision p) a b i
      array_child i l m =
          let x = child a u i l in
          let y = child b v i m in
          elided_grown (null_array_elision q) (null_array_elision p) a b i x y
          (ih (child_of p a i) (child_of p b i) x.low (omega (arith, y.low)))

      array_step : null_array_elision q a b ≡ null_array_elision p a b
      unfolding array_elision
      array_step =
          array_eq q fq a (still a u) b
          ∙ rw (kind a u, kind b v, children a u, children b v)
          (cond_cong (both is_array p a b) _ _ _ _
          (λ e. let d = and_true (is_array (kind_of p a)) (is_array (kind_of p b)) e in
          array_child 0 (omega (arith, one_child p f a u 19 20 (omega arith) (omega arith) d.0))
          (omega (arith, one_child p f b v 19 20 (omega arith) (omega arith) d.1)))
          (ap (λ (r : Bool). both is_tuple p a b && r)
          (all_cong (elided q (null_array_elision q) a b) (elided p (null_array_elision p) a b) (smaller (arity p a) (arity p b))
          (λ i l. array_child i (omega (arith, smaller_left (arity p a) (arity p b))) (omega (arith, smaller_right (arity p a) (arity p b)))))))
          ∙ sym (array_eq p f a u b)

  array_below : (m a : ℕ) → a < m → a < types_in p → (b : ℕ) → b < types_in p → null_array_elision q a b ≡ null_array_elision p a b
  array_below zero a l u b v = absurd (not-suc-le-zero l)
  array_below (suc m) a l u b v = array_step a u b v (λ x y k w. array_below m x (omega arith) (omega arith) y w)

  pub array_grown : (a b : ℕ) → a < types_in p → b < types_in p → null_array_elision q a b ≡ null_array_elision p a b
  array_grown a b u v = array_below (suc a) a (omega arith) u b v

  module _ (a : ℕ) (u : a < types_in p) (b : ℕ) (v : b < types_in p) where
    module _ (ih : (x y : ℕ) → x < a → y < types_in p → null_map_elision q x y ≡ null_map_elision p x y) where
      map_child : (i : ℕ) → i < arity p a → i < arity p b
          → elided q (part_rule q (null_map_elision q)) a b i ≡ elided p (part_rule p (null_map_elision p)) a b i
      map_child i l m =
          let x = child a u i l in
          let y = child b v i m in
          elided_grown (part_rule q (null_map_elision q)) (part_rule p (null_map_elision p)) a b i x y
          (ap₂ ◌||◌ (array_grown (child_of p a i) (child_of p b i) (omega (arith, x.low)) (omega (arith, y.low)))
          (ih (child_of p a i) (child_of p b i) x.low (omega (arith, y.low))))

      map_step : null_map_elision q a b ≡ null_map_elision p a b
      unfolding map_elision
      map_step =
          map_eq q fq a (still a u) b
          ∙ rw (kind a u, kind b v)
          (and_cong (both is_map p a b) _ _
          (λ e. let d = and_true (is_map (kind_of p a)) (is_map (kind_of p b)) e in
          all_cong (elided q (part_rule q (null_map_elision q)) a b) (elided p (part_rule p (null_map_elision p)) a b) 2
          (λ i l. map_child i (omega (arith, two_children p f a u d.0)) (omega (arith, two_children p f b v d.1)))))
          ∙ sym (map_eq p f a u b)

  map_below : (m a : ℕ) → a < m → a < types_in p → (b : ℕ) → b < types_in p → null_map_elision q a b ≡ null_map_elision p a b
  map_below zero a l u b v = absurd (not-suc-le-zero l)
  map_below (suc m) a l u b v = map_step a u b v (λ x y k w. map_below m x (omega arith) (omega arith) y w)

  pub map_grown : (a b : ℕ) → a < types_in p → b < types_in p → null_map_elision q a b ≡ null_map_elision p a b
  map_grown a b u v = map_below (suc a) a (omega arith) u b v

  -- ---- the rules that look at no child's children

  module _ (a : ℕ) (u : a < types_in p) (b : ℕ) (v : b < types_in p) where
    names_grown : is_named (kind_of p a) ≡ true → is_named (kind_of p b) ≡ true → eqb (name_of q a) (name_of q b) ≡ eqb (name_of p a) (name_of p b)
    names_grown h k = rw (name_grown p q f g a u h, name_grown p q f g b v k) refl

    record_grown : record_matches q a b ≡ record_matches p a b
    unfolding record_matches
    record_grown =
        rw (kind a u, kind b v)
        (and_cong (both is_record p a b) _ _
        (λ e. let d = and_true (is_record (kind_of p a)) (is_record (kind_of p b)) e in
        names_grown (record_named (kind_of p a) d.0) (record_named (kind_of p b) d.1)))

    enum_grown : enum_matches q a b ≡ enum_matches p a b
    unfolding enum_matches
    enum_grown =
        rw (kind a u, kind b v)
        (and_cong (both is_enum p a b) _ _
        (λ e. let d = and_true (is_enum (kind_of p a)) (is_enum (kind_of p b)) e in
        names_grown (enum_named (kind_of p a) d.0) (enum_named (kind_of p b) d.1)))

    set_grown : set_matches q a b ≡ set_matches p a b
    unfolding set_matches
    set_grown =
        rw (kind a u, kind b v)
        (and_cong (both is_set p a b) _ _
        (λ e. let d = and_true (is_set (kind_of p a)) (is_set (kind_of p b)) e in
        ap₂ eqb (child a u 0 (omega (arith, one_child p f a u 21 22 (omega arith) (omega arith) d.0))).same
        (child b v 0 (omega (arith, one_child p f b v 21 22 (omega arith) (omega arith) d.1))).same))

    handle_grown : handle_matches q a b ≡ handle_matches p a b
    unfolding handle_matches
    handle_grown =
        rw (kind a u, kind b v)
        (cond_cong (is_kind handle p a) _ _ _ _
        (λ d. cond_cong (is_kind handle p b) _ _ (is_kind handle_infer p b) (is_kind handle_infer p b)
        (λ e. names_grown (handle_named (kind_of p a) (eqb-true (kind_of p a) handle d)) (handle_named (kind_of p b) (eqb-true (kind_of p b) handle e)))
        refl)
        refl)

    flat_grown : flat_matches q a b ≡ flat_matches p a b
    unfolding flat_matches
    flat_grown = rw (record_grown, enum_grown, set_grown, handle_grown, kind a u, kind b v) refl

    plain_grown : plain_matches q a b ≡ plain_matches p a b
    unfolding plain_matches wild
    plain_grown = rw (array_grown a b u v, map_grown a b u v, flat_grown, kind a u, kind b v) refl

    -- ---- unions

    module _ (ih : (x y : ℕ) → x < types_in p → y < b → known_matches q x y ≡ known_matches p x y) where
      stands_grown : (x j : ℕ) → x < types_in p → j < arity p b → known_matches q x (child_of q b j) ≡ known_matches p x (child_of p b j)
      stands_grown x j w l = let y = child b v j l in ap (known_matches q x) y.same ∙ ih x (child_of p b j) w y.low

      partner_grown : (i : ℕ) → i < arity p a
          → any_to (arity p b) (λ j. known_matches q (child_of q a i) (child_of q b j)) ≡ any_to (arity p b) (λ j. known_matches p (child_of p a i) (child_of p b j))
      partner_grown i l =
          let x = child a u i l in
          any_cong _ _ (arity p b)
          (λ j m. ap (λ (y : ℕ). known_matches q y (child_of q b j)) x.same ∙ stands_grown (child_of p a i) j (omega (arith, x.low)) m)

      any_step : any_matches q a b ≡ any_matches p a b
      unfolding any_matches any_rule
      any_step =
          rw (kind a u, kind b v, children a u, children b v)
          (ap (λ (r : Bool). is_union (kind_of p b) && r)
          (ap₂ (λ (r s : Bool). cond (is_union (kind_of p a)) r s)
          (all_cong _ _ (arity p a) partner_grown)
          (any_cong _ _ (arity p b) (λ j l. stands_grown a j u l))))

      known_step : known_matches q a b ≡ known_matches p a b
      known_step = known_eq q fq b (still b v) a ∙ ap₂ ◌||◌ plain_grown any_step ∙ sym (known_eq p f b v a)

  known_below : (m b : ℕ) → b < m → b < types_in p → (a : ℕ) → a < types_in p → known_matches q a b ≡ known_matches p a b
  known_below zero b l v a u = absurd (not-suc-le-zero l)
  known_below (suc m) b l v a u = known_step a u b v (λ x y w k. known_below m y (omega arith) (omega arith) x w)

  -- one type stands for another as before
  pub known_grown : (a b : ℕ) → a < types_in p → b < types_in p → known_matches q a b ≡ known_matches p a b
  known_grown a b u v = known_below (suc b) b (omega arith) v a u

  pub any_grown : (a b : ℕ) → a < types_in p → b < types_in p → any_matches q a b ≡ any_matches p a b
  any_grown a b u v = any_step a u b v (λ x y w k. known_grown x y w (omega arith))

  -- ---- what a call has in mind

  found_grown : (a b : ℕ) → a < types_in p → b < types_in p → found q a b ≡ found p a b
  unfolding found has_partner
  found_grown a b u v =
      rw (kind a u, kind b v, children b v, array_grown a b u v, map_grown a b u v, flat_grown a u b v)
      (ap (λ (r : Bool). cond (both is_array p a b || both is_tuple p a b) (null_array_elision p a b) (cond (both is_map p a b) (null_map_elision p a b) (cond (is_union (kind_of p b)) r (flat_matches p a b))))
      (any_cong _ _ (arity p b) (λ j l. stands_grown a u b v (λ x y w k. known_grown x y w (omega arith)) a j u l)))

  says_grown : (memo : List ℕ) (a b : ℕ) → a < types_in p → b < types_in p → (answer : Bool) → Says p memo a b answer → Says q memo a b answer
  says_grown memo a b u v true h = λ k. found_grown a b u v ∙ h k
  says_grown memo a b u v false h = (found_grown a b u v ∙ h.0, λ k. known_grown a b u v ∙ h.1 k)

  pub noted_grown : (memo : List ℕ) → Noted (Found p) memo → Noted (Found q) memo
  noted_grown memo = noted_as (Found p) (Found q) memo (λ a c h. (still a h.0, still (c / 2) h.1, says_grown memo a (c / 2) h.0 h.1 (eqb (c % 2) 1) h.2))
