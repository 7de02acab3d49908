-- One side of the line: how long it can be, and the writing of it, one term after another. Assumes nothing.
use mathlib.Core.Path.{◌≡◌, refl, sym, ◌∙◌, ap}
use mathlib.Core.Bool.{Bool, true, false, cond}
use mathlib.Core.List.{List, [], ◌∷◌, ◌++◌}
use Prim.Native.Nat.{ℕ, ◌+◌, ◌*◌, ◌≤◌, ◌<◌}
use native.Mathlib.Omega.{arith}
use lib.ListN.{length, length-append}
use lib.IntN.{nat_abs}
use Rattle.pages.specs.Bytes.{count_of}
use Rattle.pages.proofs.Put.{put_none, put_length}
use Rattle.names.specs.Table.{name_at, formed}
use Rattle.names.proofs.Calls.{form, name_small, in_use_named}
use Rattle.units.specs.Unit.{Term, term, outside, in_use}
use Rattle.units.specs.Product.{any_outside}
use Rattle.units.proofs.Order.{or_both}
use Rattle.units.proofs.Signed.{small}
use Rattle.units.proofs.Form.{Places, sym_at, exp_at, terms_from, terms_in, from_start, from_step, from_end}
use Rattle.names.proofs.Used.{used_below}
use Rattle.units.proofs.Used.{in_use_head, in_use_tail}
use Rattle.digits.proofs.Wrote.{Wrote, wrote_both}
use Rattle.text.specs.Text.{power, stands, separator, side_from, side}
use Rattle.text.specs.Calls.{power_max, count_on}
use Rattle.text.proofs.Power.{power_short, separator_short}

-- ---- terms that can be written, taken apart

-- every symbol is the number of a name, and every exponent is within its limits
pub record Sound (page : List ℕ) (xs : List Term) : Type 0 where
  pub used : in_use (count_of page) xs ≡ true
  pub inside : any_outside xs ≡ false

module _ (page : List ℕ) (x : Term) (xs : List Term) (s : Sound page (x ∷ xs)) where
  pub first_used : x.symbol < count_of page
  first_used = (used_below (count_of page) x.symbol (in_use_head (count_of page) x xs s.used)).0

  pub first_inside : outside x.exp ≡ false
  first_inside = (or_both (outside x.exp) (any_outside xs) s.inside).0

  pub rest_sound : Sound page xs
  rest_sound = record { used = in_use_tail (count_of page) x xs s.used; inside = (or_both (outside x.exp) (any_outside xs) s.inside).1 }

-- ---- the text of a side

-- a side's text with one more power
abbrev pub grown : List ℕ → Bool → List ℕ → Term → List ℕ
grown page above text x = text ++ (separator above text ++ power (name_at page x.symbol) (nat_abs x.exp))

module _ (page : List ℕ) (above : Bool) where
  pub side_on : (text : List ℕ) (x : Term) (xs : List Term) → stands above x.exp ≡ true → side_from page above text (x ∷ xs) ≡ side_from page above (grown page above text x) xs
  unfolding side_from
  side_on text x xs h = rw h

  pub side_off : (text : List ℕ) (x : Term) (xs : List Term) → stands above x.exp ≡ false → side_from page above text (x ∷ xs) ≡ side_from page above text xs
  unfolding side_from
  side_off text x xs h = rw h

  pub side_end : (text : List ℕ) → side_from page above text [] ≡ text
  unfolding side_from
  side_end text = refl

  module _ (f : formed page ≡ true) where
    -- a power with what stands before it
    pub piece_short : (text : List ℕ) (x : Term) → x.symbol < count_of page → outside x.exp ≡ false → length (separator above text ++ power (name_at page x.symbol) (nat_abs x.exp)) ≤ power_max
    piece_short text x u i =
        let n = name_small (name_at page x.symbol) (in_use_named page (form page f) x.symbol u) in
        let p = power_short (name_at page x.symbol) (nat_abs x.exp) n.1 (small x.exp i) in
        let s = separator_short above text in
        omega (arith, length-append (separator above text) (power (name_at page x.symbol) (nat_abs x.exp)))

    side_from_short : (text : List ℕ) (xs : List Term) → Sound page xs → length (side_from page above text xs) ≤ length text + power_max * count_on above xs
    side_from_short text [] s = rw (side_end text) (omega arith)
    side_from_short text (x ∷ xs) s =
        go (stands above x.exp) refl (side_from_short (grown page above text x) xs (rest_sound page x xs s)) (side_from_short text xs (rest_sound page x xs s))
      where
        go : (b : Bool) → stands above x.exp ≡ b
            → length (side_from page above (grown page above text x) xs) ≤ length (grown page above text x) + power_max * count_on above xs
            → length (side_from page above text xs) ≤ length text + power_max * count_on above xs
            → length (side_from page above text (x ∷ xs)) ≤ length text + power_max * (cond (stands above x.exp) 1 0 + count_on above xs)
        go true e z n =
            let y = piece_short text x (first_used page x xs s) (first_inside page x xs s) in
            let l = length-append text (separator above text ++ power (name_at page x.symbol) (nat_abs x.exp)) in
            rw (side_on text x xs e, e) (omega arith)
        go false e z n = rw (side_off text x xs e, e) (omega arith)

    pub side_short : (xs : List Term) → Sound page xs → length (side page above xs) ≤ power_max * count_on above xs
    side_short xs s = let z = side_from_short [] xs s in omega arith

-- ---- Where the writing stands: a text is out, and it comes with the terms that are left to the whole side.

pub record Writing (page : List ℕ) (above : Bool) (u : Places) (o : List ℕ) (start : ℕ) (p : List ℕ) (at i : ℕ) : Type 0 where
  pub text : List ℕ
  pub wrote : Wrote o start text at p
  pub whole : side_from page above text (terms_from u i) ≡ side page above (terms_in u)
  pub room : at + power_max * count_on above (terms_from u i) ≤ length o
  pub sound : Sound page (terms_from u i)

pub writing_start : (page : List ℕ) (above : Bool) (u : Places) (o : List ℕ) (start : ℕ) → start + power_max * count_on above (terms_in u) ≤ length o → Sound page (terms_in u) → Writing page above u o start o start 0
writing_start page above u o start h s = record {
  text = [];
  wrote = (omega arith, sym (put_none o start));
  whole = ap (side page above) (from_start u);
  room = rw (from_start u) h;
  sound = rw (from_start u) s;
}

module _ (page : List ℕ) (above : Bool) (u : Places) (o : List ℕ) (start : ℕ) (p : List ℕ) (at i : ℕ) (w : Writing page above u o start p at i) where
  pub writing_length : length p ≡ length o
  writing_length = rw w.wrote.1 (put_length o start w.text (omega (arith, w.wrote.0, w.room)))

  pub writing_end : u.count ≤ i → Wrote o start (side page above (terms_in u)) at p
  writing_end h =
      let e : w.text ≡ side page above (terms_in u) = sym (ap (side_from page above w.text) (from_end u i h) ∙ side_end page above w.text) ∙ w.whole in
      rw (← e) w.wrote

  module _ (h : i < u.count) where
    here : Sound page (term (sym_at u i) (exp_at u i) ∷ terms_from u (i + 1))
    here = rw (from_step u i h) at w.sound

    pub here_used : sym_at u i < count_of page
    here_used = first_used page (term (sym_at u i) (exp_at u i)) (terms_from u (i + 1)) here

    pub here_inside : outside (exp_at u i) ≡ false
    here_inside = first_inside page (term (sym_at u i) (exp_at u i)) (terms_from u (i + 1)) here

    next_sound : Sound page (terms_from u (i + 1))
    next_sound = rest_sound page (term (sym_at u i) (exp_at u i)) (terms_from u (i + 1)) here

    -- a term of the other side
    pub writing_off : stands above (exp_at u i) ≡ false → Writing page above u o start p at (i + 1)
    writing_off k =
        let left : at + power_max * (0 + count_on above (terms_from u (i + 1))) ≤ length o = rw (from_step u i h, k) at w.room in record {
          text = w.text;
          wrote = w.wrote;
          whole = sym (ap (side_from page above w.text) (from_step u i h) ∙ side_off page above w.text (term (sym_at u i) (exp_at u i)) (terms_from u (i + 1)) k) ∙ w.whole;
          room = omega arith;
          sound = next_sound;
        }

    module _ (k : stands above (exp_at u i) ≡ true) where
      left : at + power_max * (1 + count_on above (terms_from u (i + 1))) ≤ length o
      left = rw (from_step u i h, k) at w.room

      pub here_room : at + power_max ≤ length o
      here_room = omega (arith, left)

      -- a term of this side: its power is out too
      pub writing_on : formed page ≡ true → (a : ℕ) (q : List ℕ) (r : ℕ) (v : List ℕ) → Wrote p at (separator above w.text) a q → Wrote q a (power (name_at page (sym_at u i)) (nat_abs (exp_at u i))) r v → Writing page above u o start v r (i + 1)
      writing_on f a q r v x y =
          let x1 = term (sym_at u i) (exp_at u i) in
          let piece = separator above w.text ++ power (name_at page (sym_at u i)) (nat_abs (exp_at u i)) in
          let s : length piece ≤ power_max = piece_short page above f w.text x1 here_used here_inside in
          let l = length-append (separator above w.text) (power (name_at page (sym_at u i)) (nat_abs (exp_at u i))) in
          let b : Wrote p at piece r v = wrote_both p at (separator above w.text) a q (power (name_at page (sym_at u i)) (nat_abs (exp_at u i))) r v (omega (arith, writing_length, left)) x y in
          let d : Wrote o start (w.text ++ piece) r v = wrote_both o start w.text at p piece r v (omega (arith, w.wrote.0, left)) w.wrote b in
          record {
            text = w.text ++ piece;
            wrote = d;
            whole = sym (ap (side_from page above w.text) (from_step u i h) ∙ side_on page above w.text x1 (terms_from u (i + 1)) k) ∙ w.whole;
            room = omega (arith, left, b.0);
            sound = next_sound;
          }
