-- Members written down one after the other: what the loops of `add_share` and `flatten` need. Assumes nothing.
use mathlib.Core.Path.{◌≡◌, refl, sym, ◌∙◌, ap}
use mathlib.Core.Bool.{true, false}
use mathlib.Core.List.{List, [], ◌∷◌}
use Prim.Native.Nat.{ℕ, ◌+◌, ◌<◌, ◌≤◌}
use native.Mathlib.Omega.{arith}
use lib.ListN.{length, get_or, set, take, length-append}
use lib.Seq.{sets-eq, get_or-take}
use Rattle.pages.specs.Bytes.{put}
use Rattle.pages.proofs.Put.{put_length, put_none, put_front}
use Rattle.kinds.specs.Kinds.{is_union}
use Rattle.types.specs.Store.{Formed}
use Rattle.types.specs.Types.{types_in, kind_of, arity, child_of}
use Rattle.members.specs.Members.{members_max, gather, share_of, members_of, member}
use Rattle.members.proofs.Gathered.{gather_next, gather_put, gather_fits, ones_length}
use Rattle.members.proofs.Members.{share_union, share_one, members_union, members_one, size_few}

pub put_one : (l : List ℕ) (at v : ℕ) → at < length l → set l at v ≡ put l at (v ∷ [])
put_one l at v h = sets-eq (v ∷ []) l at (omega arith)

pub gathered_none : (f : ℕ → List ℕ) (l : List ℕ) (at : ℕ) → l ≡ put l at (gather 0 f)
unfolding gather
gathered_none f l at = sym (put_none l at)

-- ---- the children of a union, one to a piece

module _ (page : List ℕ) (x : ℕ) where
  abbrev pub alone : ℕ → List ℕ
  alone i = child_of page x i ∷ []

  module _ (u : is_union (kind_of page x) ≡ true) (l : List ℕ) (n : ℕ) (fits : n + length (share_of page x) ≤ length l) where
    pub share_size : length (share_of page x) ≡ arity page x
    share_size = rw (share_union page x u) (ones_length (child_of page x) (arity page x))

    pub share_room : (i : ℕ) → i ≤ arity page x → length (put l n (gather i alone)) ≡ length l
    share_room i h = put_length l n (gather i alone) (omega (arith, ones_length (child_of page x) i, share_size))

    pub share_more : (i : ℕ) → i < arity page x → set (put l n (gather i alone)) (n + i) (child_of page x i) ≡ put l n (gather (i + 1) alone)
    share_more i h =
        let e = ones_length (child_of page x) i in
        put_one (put l n (gather i alone)) (n + i) (child_of page x i) (omega (arith, share_room i (omega arith), share_size))
        ∙ gather_put alone l n i (n + i) (omega (arith, e)) (omega (arith, share_size))

    pub share_all : (i : ℕ) → i ≡ arity page x → put l n (gather i alone) ≡ put l n (share_of page x)
    share_all i e = rw (e, share_union page x u) refl

  -- a type that is no union gives itself
  module _ (u : is_union (kind_of page x) ≡ false) (l : List ℕ) (n : ℕ) (fits : n + length (share_of page x) ≤ length l) where
    pub share_place : n < length l
    share_place = omega (arith, ap length (share_one page x u))

    pub share_itself : (n + 1 ≡ n + length (share_of page x)) × (set l n x ≡ put l n (share_of page x))
    share_itself = rw (share_one page x u) (refl, put_one l n x share_place)

-- ---- what the children give, one after the other

abbrev pub shares : List ℕ → ℕ → ℕ → List ℕ
shares page t i = share_of page (child_of page t i)

-- what `flatten` promises
abbrev pub Flattened : List ℕ → ℕ → ℕ → List ℕ → Type 0
Flattened page t r after =
    (r ≡ length (members_of page t)) × (r ≤ members_max) × (take r after ≡ members_of page t)

-- the type at a place is that member
pub member_is : (page : List ℕ) (t n : ℕ) (types : List ℕ) → Flattened page t n types
    → (i x : ℕ) → i < n → x ≡ get_or types i 0 → x ≡ member page t i
member_is page t n types fl i x h e = e ∙ sym (get_or-take n types i 0 h) ∙ ap (λ (xs : List ℕ). get_or xs i 0) fl.2

-- the members stand at as many places as it says
pub as_many : (page : List ℕ) (t n : ℕ) (types : List ℕ) → Flattened page t n types → length (take n types) ≡ n
as_many page t n types fl = ap (λ (l : List ℕ). length l) fl.2 ∙ sym fl.0

-- a place among those of the members, read
pub place_read : (page : List ℕ) (t n : ℕ) (types : List ℕ) → Flattened page t n types
    → (i x : ℕ) → i < length (take n types) → x ≡ get_or (take n types) i 0 → (i < n) × (x ≡ get_or types i 0)
place_read page t n types fl i x h e =
    let m : i < n = rw (as_many page t n types fl) at h in
    (m, e ∙ get_or-take n types i 0 m)

module _ (page : List ℕ) (f : Formed page) (t : ℕ) (u : t < types_in page) (l : List ℕ) (size : length l ≡ members_max) where
  done : (r : ℕ) → r ≡ length (members_of page t) → Flattened page t r (put l 0 (members_of page t))
  done r e =
      let few = size_few page f t u in
      let fits : 0 + length (members_of page t) ≤ length l = omega (arith, few, size) in
      let z : 0 + length (members_of page t) ≡ length (members_of page t) = omega arith in
      rw e (
        refl,
        few,
        ap (λ (k : ℕ). take k (put l 0 (members_of page t))) (sym z) ∙ put_front l 0 (members_of page t) fits,
      )

  pub flat_itself : is_union (kind_of page t) ≡ false → Flattened page t 1 (set l 0 t)
  flat_itself e =
      let w : set l 0 t ≡ put l 0 (members_of page t) = put_one l 0 t (omega (arith, size)) ∙ rw (members_one page t e) refl in
      rw w (done 1 (rw (members_one page t e) refl))

  module _ (e : is_union (kind_of page t) ≡ true) (i : ℕ) (n : ℕ) (is : n ≡ length (gather i (shares page t))) where
    module _ (h : i < arity page t) where
      flat_fits : n + length (shares page t i) ≤ length l
      flat_fits =
          let m : length (gather i (shares page t)) + length (shares page t i) ≤ length (members_of page t) =
          rw (members_union page t e) (gather_fits (shares page t) (arity page t) i h) in
          omega (arith, is, m, size_few page f t u, size)

      -- there is a place for what the next child gives
      pub flat_room : n + length (shares page t i) ≤ length (put l 0 (gather i (shares page t)))
      flat_room = omega (arith, flat_fits, put_length l 0 (gather i (shares page t)) (omega (arith, is, flat_fits)))

      pub flat_more : (n + length (shares page t i) ≡ length (gather (i + 1) (shares page t)))
          × (put (put l 0 (gather i (shares page t))) n (shares page t i) ≡ put l 0 (gather (i + 1) (shares page t)))
      flat_more = (
        rw (is, gather_next (shares page t) i) (sym (length-append (gather i (shares page t)) (shares page t i))),
        gather_put (shares page t) l 0 i n (omega (arith, is)) flat_fits,
      )

    pub flat_all : i ≡ arity page t → Flattened page t n (put l 0 (gather i (shares page t)))
    flat_all h =
        let g : gather i (shares page t) ≡ members_of page t = rw (h, members_union page t e) refl in
        rw g (done n (rw (← g) is))
