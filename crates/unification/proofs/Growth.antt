-- Bindings that grow: every name that is bound stays bound to the same type. Assumes nothing.
use mathlib.Core.Path.{◌≡◌, refl, sym, ◌∙◌, ap}
use mathlib.Core.Bool.{Bool, true, false}
use mathlib.Core.List.{List}
use mathlib.Core.Logic.{⊎_elim, ∥∥₁_elim}
use Rattle.std.proofs.Math.Bridge.{le_prop}
use Rattle.std.proofs.Props.{props}
use Prim.Native.Nat.{ℕ, suc, ◌+◌, ◌*◌, ◌/◌, ◌%◌, ◌<◌}
use native.Mathlib.Omega.{arith}
use native.Mathlib.Nat.{eq-or-lt_of_le}
use lib.Dec.{eqb}
use lib.ListN.{get_or, set, length-set}
use lib.Seq.{get_or-set_same, get_or-set_other}
use borrow.Author.Tests.{lt-ltb, eq-eqb, ltb-true, ltb-false}
use Rattle.pages.specs.Quant.{first_to}
use Rattle.pages.proofs.Quant.{any_cong, first_at, first_found, first_missed}
use Rattle.marks.specs.Marks.{is_marked, marking, Noted}
use Rattle.marks.proofs.Marks.{noted_more, noted_as}
use Rattle.bindings.specs.Bindings.{bindings_max, has_name, is_bound, bound_to, with_binding, Usable}
use Rattle.bindings.specs.declared.Bindings.{Bindings}
use Rattle.unification.specs.Unification.{Extends, Settled, seen_row, seen_column, SettledAt, Given}

pub extends_refl : (b : Bindings) → Extends b b
extends_refl b = record { stays = λ x h. (h, refl) }

pub extends_trans : (b c d : Bindings) → Extends b c → Extends c d → Extends b d
extends_trans b c d p q = record {
  stays = λ x h. let y = p.stays x h in let z = q.stays x y.0 in (z.0, z.1 ∙ y.1);
}

-- a place before the next one keeps its name
same_name : (names : List ℕ) (n name x j : ℕ) → j < n → has_name names x j ≡ has_name (set names n name) x j
same_name names n name x j l = ap (λ (v : ℕ). eqb v x) (sym (get_or-set_other names n j name 0 (omega arith)))

-- one binding more extends
pub extends_with : (b : Bindings) (name t : ℕ) → Extends b (with_binding b name t)
unfolding is_bound bound_to with_binding
extends_with b name t = record { stays = stays }
  where
    stays : (x : ℕ) → is_bound b x ≡ true → (is_bound (with_binding b name t) x ≡ true) × (bound_to (with_binding b name t) x ≡ bound_to b x)
    stays x h =
        let p : ℕ → Bool = has_name b.names x in
        let q : ℕ → Bool = has_name (set b.names b.count name) x in
        let i = first_to b.count p in
        let l = ltb-true i b.count h in
        let f = first_found p b.count l in
        let same : (j : ℕ) → j < b.count → p j ≡ q j = same_name b.names b.count name x in
        let e : first_to (suc b.count) q ≡ i =
        first_at q (suc b.count) i (omega arith) (sym (any_cong p q i (λ j k. same j (omega arith))) ∙ f.0) (sym (same i l) ∙ f.1) in
        (rw e (lt-ltb i (suc b.count) (omega arith)), rw e (get_or-set_other b.types b.count i t 0 (omega arith)))

module _ (b : Bindings) (t : ℕ) (g : Given b t) (l : b.count < bindings_max) (name a : ℕ) where
  -- one binding more is as well usable
  pub given_with : a < t → Given (with_binding b name a) t
  unfolding with_binding
  given_with u = record {
    usable = record { few = omega arith; used = used };
    names = length-set b.names b.count name ∙ g.names;
    types = length-set b.types b.count a ∙ g.types;
  }
    where
      used : (i : ℕ) → i < suc b.count → get_or (set b.types b.count a) i 0 < t
      used i h =
          ⊎_elim (λ (q : i ≡ b.count). rw (q, get_or-set_same b.types b.count a 0 (omega (arith, g.types))) u)
          (λ (m : i < b.count). rw (get_or-set_other b.types b.count i a 0 (omega arith)) (g.usable.used i m))
          (eq-or-lt_of_le {n = i} {m = b.count} (omega arith))

  -- a name that was not bound is bound to its type
  pub with_bound : is_bound b name ≡ false → (is_bound (with_binding b name a) name ≡ true) × (bound_to (with_binding b name a) name ≡ a)
  unfolding is_bound bound_to with_binding
  with_bound h =
      let p : ℕ → Bool = has_name b.names name in
      let q : ℕ → Bool = has_name (set b.names b.count name) name in
      let free = first_missed p b.count (ltb-false (first_to b.count p) b.count h) in
      let here : q b.count ≡ true =
      eq-eqb (get_or (set b.names b.count name) b.count 0) name (get_or-set_same b.names b.count name 0 (omega (arith, g.names))) in
      let e : first_to (suc b.count) q ≡ b.count =
      first_at q (suc b.count) b.count (omega arith) (sym (any_cong p q b.count (same_name b.names b.count name name)) ∙ free) here in
      (rw e (lt-ltb b.count (suc b.count) (omega arith)), rw e (get_or-set_same b.types b.count a 0 (omega (arith, g.types))))

-- a type that a name is bound to is in use
pub bound_used : (b : Bindings) (t : ℕ) → Usable b t → (name : ℕ) → is_bound b name ≡ true → bound_to b name < t
unfolding is_bound bound_to
bound_used b t u name h = u.used _ (ltb-true (first_to b.count (has_name b.names name)) b.count h)

-- what is settled stays settled
pub settled_on : (page : List ℕ) (b c : Bindings) → Extends b c → (seen : List ℕ) → Noted (SettledAt page b) seen → Noted (SettledAt page c) seen
settled_on page b c x seen = noted_as (SettledAt page b) (SettledAt page c) seen (λ row column h d y. h d (extends_trans b c d x y))

-- a pair has a place of its own
module _ (page : List ℕ) (b : Bindings) (seen : List ℕ) (n : Noted (SettledAt page b) seen) (e a : ℕ) where
  expected_back : 2 * seen_row e + seen_column e a % 2 ≡ e
  expected_back = omega arith

  actual_back : seen_column e a / 2 ≡ a
  actual_back = omega arith

  -- a pair that is found settled is
  pub settled_found : (r : Bool) → r ≡ is_marked seen (seen_row e) (seen_column e a) → r ≡ true → Settled page b e a
  settled_found r h t = rw (expected_back, actual_back) at (n.right (seen_row e) (seen_column e a) (sym h ∙ t))

  -- one pair more
  pub noted_settled : Settled page b e a → Noted (SettledAt page b) (marking seen (seen_row e) (seen_column e a))
  noted_settled h = noted_more (SettledAt page b) seen n (seen_row e) (seen_column e a) (λ other x y k. k) (rw (expected_back, actual_back) h)

-- bindings that came of others: as usable, with every name that was bound
pub record Grown (b : Bindings) (t : ℕ) (c : Bindings) : Type 0 where
  pub given : Given c t
  pub extends : Extends b c

pub grown_refl : (b : Bindings) (t : ℕ) → Given b t → Grown b t b
grown_refl b t g = record { given = g; extends = extends_refl b }

pub grown_trans : (b c d : Bindings) (t : ℕ) → Grown b t c → Grown c t d → Grown b t d
grown_trans b c d t p q = record { given = q.given; extends = extends_trans b c d p.extends q.extends }

-- what is known of bindings is one fact at most, and so is that pairs are settled
pub given_by : (b : Bindings) (t : ℕ) → ∥ Given b t ∥₁ → Given b t
given_by b t h = record {
  usable = record { few = ∥∥₁_elim h le_prop (λ g. g.usable.few); used = λ i l. ∥∥₁_elim h le_prop (λ g. g.usable.used i l) };
  names = ∥∥₁_elim h (hlevel props) (λ g. g.names);
  types = ∥∥₁_elim h (hlevel props) (λ g. g.types);
}

pub settled_by : (page : List ℕ) (b : Bindings) (seen : List ℕ) → ∥ Noted (SettledAt page b) seen ∥₁ → Noted (SettledAt page b) seen
settled_by page b seen t = record { right = λ row column h d x. ∥∥₁_elim t (hlevel props) (λ n. n.right row column h d x) }
