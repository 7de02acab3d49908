-- Reading a type by value: one law for each step and each return. Assumes nothing.
use Rattle.std.specs.Prelude.{Option}
use Rattle.std.proofs.Common.{Ok, Err}
use mathlib.Core.Path.{◌≡◌, refl, sym}
use mathlib.Core.Bool.{true, false, not}
use mathlib.Core.List.{List, [], ◌∷◌}
use Prim.Native.Nat.{ℕ, ◌+◌, ◌<◌, ◌≤◌}
use native.Mathlib.Numerals.{add-one}
use native.Mathlib.Omega.{arith}
use lib.Dec.{ltb}
use lib.ListN.{length, set, replicate}
use borrow.Author.Tests.{lt-ltb, le-ltb}
use Rattle.refusals.specs.Lowest.{◌when◌}
use Rattle.refusals.specs.declared.Refusal.{Refusal}
use Rattle.refusals.specs.declared.Refusal.TheVariants.{Broken, Unused}
use Rattle.refusals.proofs.Lowest.{first_holds}
use Rattle.pages.specs.Bytes.{count_of}
use Rattle.pages.specs.Pad.{pad}
use Rattle.pages.proofs.Pad.{pad_more, pad_none}
use Rattle.kinds.specs.Kinds.{fixed_max}
use Rattle.types.specs.Store.{depth_in, depths}
use Rattle.types.specs.Types.{types_in, Measured}
use Rattle.types.specs.Calls.{store_broken, opened_answer, list_to, type_at, read_verdict, read_answer}
use Rattle.types.specs.declared.Shape.{Shape}
use Rattle.types.proofs.Form.{depth_same}
use Rattle.types.proofs.Filled.{list_length}
use Rattle.types.proofs.Types.{whole}
use Rattle.types.proofs.Calls.{opened_err}

-- ---- numbers of types, one after another in n places

module _ (n : ℕ) (f : ℕ → ℕ) where
  pub numbers_none : replicate n 0 ≡ pad n 0 (list_to 0 f)
  numbers_none = sym (pad_none n)

  pub numbers_more : (i : ℕ) → i < n → set (pad n 0 (list_to i f)) i (f i) ≡ pad n 0 (list_to (i + 1) f)
  numbers_more i h =
      let e : length (list_to i f) ≡ i = list_length i f in
      rw (add-one i) (rw e at (pad_more n 0 (list_to i f) (f i) (rw e h)))

-- ---- a type

module _ (page os ds : List ℕ) (g : Measured page os ds) (t : ℕ) (u : t < types_in page) where
  pub depth_read : depth_in ds t ≡ depth_in (depths page (count_of page)) t
  depth_read = depth_same ds (depths page (count_of page)) (count_of page) g.known t u

  pub depth_there : t < fixed_max + length ds
  depth_there = omega (arith, u, g.size, (whole page g.held.sound.names g.held.sound.form).few)

-- ---- the call

module _ (page : List ℕ) (names : Option (List ℕ)) (t : ℕ) where
  broken : store_broken page names ≡ true → Err Broken ≡ read_answer page names t
  unfolding read_answer read_verdict
  broken b = rw (b, first_holds Broken ((Unused when not (ltb t (types_in page))) ∷ []) refl)

  pub read_refused : (r : Refusal) → Err r ≡ opened_answer page names → Err r ≡ read_answer page names t
  read_refused r e = let o = opened_err page names r e in rw o.1 (broken o.0)

  module _ (sound : store_broken page names ≡ false) where
    pub read_unused : types_in page ≤ t → Err Unused ≡ read_answer page names t
    unfolding read_answer read_verdict
    read_unused h = rw (sound, le-ltb t (types_in page) h)

    pub read_given : t < types_in page → (s : Shape) → s ≡ type_at page t → Ok s ≡ read_answer page names t
    unfolding read_answer read_verdict
    read_given h s e = rw (sound, lt-ltb t (types_in page) h, e)
