-- Marks: a mark set is set, and no other has come; places are distinct. Assumes nothing.
use mathlib.Core.Path.{◌≡◌, refl, sym, ◌∙◌, ap}
use mathlib.Core.Bool.{Bool, true, false, ◌&&◌, cond}
use mathlib.Core.List.{List}
use mathlib.Core.Logic.{◌⊎◌, inl, inr, ⊎_elim}
use Prim.Native.Nat.{ℕ, suc, ◌+◌, ◌-◌, ◌*◌, ◌/◌, ◌%◌, ◌^◌, ◌<◌, max}
use native.Mathlib.Nat.{max-zero, mul-div_cancel, div-eq_of_lt, div_self, zero-div, one-mul, eq-or-lt_of_le, mul-add-mod_self_right, mul_left_comm, pow-suc, div-div-eq-div-mul, mod-eq_of_lt, eq_of_mul-eq-mul_right}
use native.Mathlib.Decide.{ℕ_discrete}
use native.Mathlib.Omega.{arith}
use lib.Dec.{ltb, eqb}
use lib.Bits.{bit_or, or_step, or_shr}
use lib.Pow.{pow-add, pow_pos, pow-lt, shl_exact}
use lib.ListN.{length, get_or, set, replicate, length-set, get_or-eq_default}
use lib.Seq.{get_or-set_same, get_or-set_other, set_out}
use borrow.Author.Tests.{eqb-true, eq-eqb, ltb-true, ltb-false, lt-ltb, le-ltb}
use Rattle.pages.proofs.Quant.{and_true}
use Rattle.pages.proofs.Bytes.{and_false, made_at}
use Rattle.marks.specs.Marks.{bits, room, columns, place, Within, Beyond, is_set, is_set_at, set_at, is_marked, marking, Noted}

-- ---- one byte

-- the lowest digit of an or
lowest_or : (a b : ℕ) → bit_or a b % 2 ≡ max (a % 2) (b % 2)
lowest_or a b = ap (λ (n : ℕ). n % 2) (or_step a b) ∙ omega arith

-- a power of two has one digit
one_digit : (k j : ℕ) → (j ≡ k → ⊥) → 2 ^ k / 2 ^ j % 2 ≡ 0
one_digit k j ne = go (ltb j k) refl
  where
    even : (n : ℕ) → 0 < n → 2 ^ n % 2 ≡ 0
    even n h =
        let e : 2 ^ n ≡ 2 ^ (n - 1) * 2 = ap (λ (m : ℕ). 2 ^ m) (omega arith) ∙ pow-add 2 (n - 1) 1 in
        omega (arith, e)

    go : (r : Bool) → ltb j k ≡ r → 2 ^ k / 2 ^ j % 2 ≡ 0
    go true e =
        let l = ltb-true j k e in
        let s : 2 ^ k ≡ 2 ^ (k - j) * 2 ^ j = ap (λ (m : ℕ). 2 ^ m) (omega arith) ∙ pow-add 2 (k - j) j in
        ap (λ (m : ℕ). m / 2 ^ j % 2) s ∙ ap (λ (m : ℕ). m % 2) (mul-div_cancel (2 ^ (k - j)) (pow_pos j)) ∙ even (k - j) (omega arith)
    go false e =
        let l = ltb-false j k e in
        ⊎_elim (λ x. absurd (ne (sym x))) (λ x. ap (λ (m : ℕ). m % 2) (div-eq_of_lt (pow-lt x))) (eq-or-lt_of_le l)

module _ (n k : ℕ) where
  digit_or : (j : ℕ) → bit_or n (2 ^ k) / 2 ^ j % 2 ≡ max (n / 2 ^ j % 2) (2 ^ k / 2 ^ j % 2)
  digit_or j = ap (λ (m : ℕ). m % 2) (or_shr n (2 ^ k) j) ∙ lowest_or (n / 2 ^ j) (2 ^ k / 2 ^ j)

  -- a bit that is set was the one, or was set before
  or_more : (j : ℕ) → is_set (bit_or n (2 ^ k)) j ≡ true → (j ≡ k) ⊎ (is_set n j ≡ true)
  unfolding is_set
  or_more j h = go (ℕ_discrete j k)
    where
      go : Dec (j ≡ k) → (j ≡ k) ⊎ (eqb (n / 2 ^ j % 2) 1 ≡ true)
      go (yes e) = inl e
      go (no ne) =
          let same : bit_or n (2 ^ k) / 2 ^ j % 2 ≡ n / 2 ^ j % 2 = digit_or j ∙ ap (λ (m : ℕ). max (n / 2 ^ j % 2) m) (one_digit k j ne) ∙ max-zero (n / 2 ^ j % 2) in
          inr (rw (← same) h)

  -- a bit that was set still is
  or_still : (j : ℕ) → is_set n j ≡ true → is_set (bit_or n (2 ^ k)) j ≡ true
  unfolding is_set
  or_still j h =
      let one = eqb-true (n / 2 ^ j % 2) 1 h in
      let most : max (n / 2 ^ j % 2) (2 ^ k / 2 ^ j % 2) ≡ 1 = omega (arith, one) in
      eq-eqb _ 1 (digit_or j ∙ most)

  -- and the one is set
  or_set : is_set (bit_or n (2 ^ k)) k ≡ true
  unfolding is_set
  or_set =
      let one : max (n / 2 ^ k % 2) 1 ≡ 1 = omega arith in
      eq-eqb _ 1 (digit_or k ∙ ap (λ (m : ℕ). max (n / 2 ^ k % 2) (m % 2)) (div_self (pow_pos k)) ∙ one)

-- ---- a table

-- two numbers with the same quotient and remainder are the same
pieces : (x p : ℕ) → x / bits ≡ p / bits → x % bits ≡ p % bits → x ≡ p
pieces x p d m = omega (arith, d, m)

module _ (table : List ℕ) (p : ℕ) where
  set_more : (x : ℕ) → is_set_at (set_at table p) x ≡ true → (x ≡ p) ⊎ (is_set_at table x ≡ true)
  set_more x h = go (ℕ_discrete (x / bits) (p / bits)) (ltb (p / bits) (length table)) refl
    where
      byte : ℕ
      byte = bit_or (get_or table (p / bits) 0) (2 ^ (p % bits))

      go : Dec (x / bits ≡ p / bits) → (r : Bool) → ltb (p / bits) (length table) ≡ r → (x ≡ p) ⊎ (is_set_at table x ≡ true)
      go (yes d) true l =
          let same = ap (λ (i : ℕ). get_or (set_at table p) i 0) d ∙ get_or-set_same table (p / bits) byte 0 (ltb-true (p / bits) (length table) l) in
          let k : is_set byte (x % bits) ≡ true = rw (← same) h in
          ⊎_elim (λ e. inl (pieces x p d e)) (λ e. inr (rw d e)) (or_more (get_or table (p / bits) 0) (p % bits) (x % bits) k)
      go (yes d) false l = inr (rw (← set_out table (p / bits) byte (ltb-false (p / bits) (length table) l)) h)
      go (no ne) r l = inr (rw (← get_or-set_other table (p / bits) (x / bits) byte 0 ne) h)

  set_still : (x : ℕ) → is_set_at table x ≡ true → is_set_at (set_at table p) x ≡ true
  set_still x h = go (ℕ_discrete (x / bits) (p / bits)) (ltb (p / bits) (length table)) refl
    where
      byte : ℕ
      byte = bit_or (get_or table (p / bits) 0) (2 ^ (p % bits))

      go : Dec (x / bits ≡ p / bits) → (r : Bool) → ltb (p / bits) (length table) ≡ r → is_set_at (set_at table p) x ≡ true
      go (yes d) true l =
          let same = ap (λ (i : ℕ). get_or (set_at table p) i 0) d ∙ get_or-set_same table (p / bits) byte 0 (ltb-true (p / bits) (length table) l) in
          let k : is_set (get_or table (p / bits) 0) (x % bits) ≡ true = rw (← d) h in
          rw same (or_still (get_or table (p / bits) 0) (p % bits) (x % bits) k)
      go (yes d) false l = rw (set_out table (p / bits) byte (ltb-false (p / bits) (length table) l)) h
      go (no ne) r l = rw (get_or-set_other table (p / bits) (x / bits) byte 0 ne) h

  set_set : p / bits < length table → is_set_at (set_at table p) p ≡ true
  set_set l = rw (get_or-set_same table (p / bits) (bit_or (get_or table (p / bits) 0) (2 ^ (p % bits))) 0 l) (or_set (get_or table (p / bits) 0) (p % bits))

-- places are distinct
places : (n r c x y : ℕ) → c < columns n → y < columns n → place n x y ≡ place n r c → (x ≡ r) × (y ≡ c)
unfolding place
places n r c x y u v e =
    let back : (i j : ℕ) → j < columns n → (i * columns n + j) % columns n ≡ j = λ i j l. mul-add-mod_self_right i (columns n) j ∙ mod-eq_of_lt l in
    let same : y ≡ c = sym (back x y v) ∙ ap (λ (m : ℕ). m % columns n) e ∙ back r c u in
    let rows : x * columns n + y ≡ r * columns n + y = e ∙ ap (λ (m : ℕ). r * columns n + m) (sym same) in
    (eq_of_mul-eq-mul_right (columns n) (omega (arith, u)) x r (omega (arith, rows)), same)

-- ---- marks

module _ (table : List ℕ) (row column : ℕ) where
  pub length_marking : length (marking table row column) ≡ length table
  unfolding marking
  length_marking = go (ltb column (columns (room (length table))))
    where
      go : (r : Bool) → length (cond r (set_at table (place (room (length table)) row column)) table) ≡ length table
      go true = length-set table _ _
      go false = refl

  -- what is marked was marked now, or before
  pub marked_more : (x y : ℕ) → is_marked (marking table row column) x y ≡ true → ((x ≡ row) × (y ≡ column)) ⊎ (is_marked table x y ≡ true)
  unfolding is_marked marking
  marked_more x y h = go (ltb column (columns (room (length table)))) refl
    where
      n : ℕ
      n = room (length table)

      go : (r : Bool) → ltb column (columns n) ≡ r → ((x ≡ row) × (y ≡ column)) ⊎ (is_marked table x y ≡ true)
      go false e = inr (rw e at h)
      go true e =
          let k : (ltb y (columns n) && is_set_at (set_at table (place n row column)) (place n x y)) ≡ true = rw (length-set table (place n row column / bits) _) at (rw e at h) in
          let d = and_true (ltb y (columns n)) (is_set_at (set_at table (place n row column)) (place n x y)) k in
          ⊎_elim
          (λ s. inl (places n row column x y (ltb-true column (columns n) e) (ltb-true y (columns n) d.0) s))
          (λ s. inr (rw d.0 s))
          (set_more table (place n row column) (place n x y) d.1)

  -- where the table has room, what is marked is found marked
  pub marked_now : column < columns (room (length table)) → place (room (length table)) row column / bits < length table → is_marked (marking table row column) row column ≡ true
  unfolding is_marked marking
  marked_now u l =
      let e = lt-ltb column (columns (room (length table))) u in
      rw (e, length-set table (place (room (length table)) row column / bits) (bit_or (get_or table (place (room (length table)) row column / bits) 0) (2 ^ (place (room (length table)) row column % bits))), e, set_set table (place (room (length table)) row column) l) refl

-- ---- what the functions meet: a mark that the table has no place for, and one that it has

module _ (table : List ℕ) (row column : ℕ) where
  pub unmarked_beyond : Beyond table row column → false ≡ is_marked table row column
  unfolding is_marked is_set
  unmarked_beyond (inl l) = rw (le-ltb column (columns (room (length table))) l) refl
  unmarked_beyond (inr l) =
      let p = place (room (length table)) row column in
      let zero_byte = ap (λ (m : ℕ). m / 2 ^ (p % bits) % 2) (get_or-eq_default table 0 l) ∙ ap (λ (m : ℕ). m % 2) (zero-div (2 ^ (p % bits))) in
      rw zero_byte (sym (and_false (ltb column (columns (room (length table))))))

  pub marking_beyond : Beyond table row column → table ≡ marking table row column
  unfolding marking
  marking_beyond (inl l) = rw (le-ltb column (columns (room (length table))) l) refl
  marking_beyond (inr l) =
      let p = place (room (length table)) row column in
      rw (set_out table (p / bits) (bit_or (get_or table (p / bits) 0) (2 ^ (p % bits))) l) (go (ltb column (columns (room (length table)))))
    where
      go : (r : Bool) → table ≡ cond r table table
      go true = refl
      go false = refl

  module _ (p : ℕ) (w : Within table row column p) where
    pub marked_at : eqb (get_or table (p / bits) 0 / 2 ^ (p % bits) % 2) 1 ≡ is_marked table row column
    unfolding is_marked is_set
    marked_at = rw (← w.0, lt-ltb column (columns (room (length table))) w.1) refl

    pub marking_at : set table (p / bits) (bit_or (get_or table (p / bits) 0) (1 * 2 ^ (p % bits) % 256)) ≡ marking table row column
    unfolding marking
    marking_at =
        let one : 1 * 2 ^ (p % bits) % 256 ≡ 2 ^ (p % bits) = shl_exact 1 (p % bits) 8 (omega arith) (omega arith) ∙ one-mul (2 ^ (p % bits)) in
        rw (← w.0, lt-ltb column (columns (room (length table))) w.1, one) refl

-- two columns side by side, of which the first is even, stand in one byte
module _ (table : List ℕ) (row pair : ℕ) where
  -- the place of the second is the one after that of the first, which is even
  next_place : (n : ℕ) → place n row (2 * pair + 1) ≡ place n row (2 * pair) + 1
  unfolding place
  next_place n = omega arith

  even_place : (n : ℕ) → place n row (2 * pair) ≡ 2 * (row * n + pair)
  unfolding place
  even_place n =
      let e : row * (2 * n) ≡ 2 * (row * n) = mul_left_comm row 2 n in
      omega (arith, e)

  -- so the two have one byte, and in it bits side by side
  same_byte : (n : ℕ) → (place n row (2 * pair) + 1) / bits ≡ place n row (2 * pair) / bits
  same_byte n = let e = even_place n in omega (arith, e)

  next_bit : (n : ℕ) → (place n row (2 * pair) + 1) % bits ≡ suc (place n row (2 * pair) % bits)
  next_bit n = let e = even_place n in omega (arith, e)

  pub next_unmarked_beyond : Beyond table row (2 * pair) → false ≡ is_marked table row (2 * pair + 1)
  next_unmarked_beyond (inl l) = unmarked_beyond table row (2 * pair + 1) (inl (omega (arith, l)))
  next_unmarked_beyond (inr l) = unmarked_beyond table row (2 * pair + 1) (inr (rw (next_place (room (length table)), same_byte (room (length table))) l))

  module _ (p : ℕ) (w : Within table row (2 * pair) p) where
    pub next_marked_at : eqb (get_or table (p / bits) 0 / 2 ^ (p % bits) / 2 % 2) 1 ≡ is_marked table row (2 * pair + 1)
    next_marked_at =
        let n = room (length table) in
        let b : (p + 1) / bits ≡ p / bits = rw w.0 (same_byte n) in
        let k : (p + 1) % bits ≡ suc (p % bits) = rw w.0 (next_bit n) in
        let u : 2 * pair + 1 < columns n = omega (arith, w.1) in
        let l : (p + 1) / bits < length table = rw b w.2 in
        let e : p + 1 ≡ place n row (2 * pair + 1) = rw w.0 (sym (next_place n)) in
        let d : get_or table (p / bits) 0 / 2 ^ (p % bits) / 2 ≡ get_or table ((p + 1) / bits) 0 / 2 ^ ((p + 1) % bits) =
        rw (b, k, pow-suc 2 (p % bits)) (div-div-eq-div-mul (get_or table (p / bits) 0) (2 ^ (p % bits)) 2) in
        ap (λ (m : ℕ). eqb (m % 2) 1) d ∙ marked_at table row (2 * pair + 1) (p + 1) (e, u, l)

-- what was marked still is
pub marked_still : (table : List ℕ) (row column x y : ℕ) → is_marked table x y ≡ true → is_marked (marking table row column) x y ≡ true
unfolding is_marked marking
marked_still table row column x y h = go (ltb column (columns (room (length table)))) refl
  where
    n : ℕ
    n = room (length table)

    go : (r : Bool) → ltb column (columns n) ≡ r → is_marked (cond r (set_at table (place n row column)) table) x y ≡ true
    go false e = h
    go true e =
        let d = and_true (ltb y (columns n)) (is_set_at table (place n x y)) h in
        rw (length-set table (place n row column / bits) (bit_or (get_or table (place n row column / bits) 0) (2 ^ (place n row column % bits))), d.0)
        (set_still table (place n row column) (place n x y) d.1)

-- ---- what is noted holds

module _ (holds : List ℕ → ℕ → ℕ → Type 0) where
  pub noted_none : (n : ℕ) → Noted holds (replicate n 0)
  unfolding is_marked is_set
  noted_none n = record { right = λ r c h. absurd (none r c h) }
    where
      none : (r c : ℕ) → is_marked (replicate n 0) r c ≡ true → ⊥
      none r c h =
          let w = room (length {A = ℕ} (replicate n 0)) in
          let d = (and_true (ltb c (columns w)) (eqb (get_or {A = ℕ} (replicate n 0) (place w r c / bits) 0 / 2 ^ (place w r c % bits) % 2) 1) h).1 in
          let zero_byte : get_or {A = ℕ} (replicate n 0) (place w r c / bits) 0 / 2 ^ (place w r c % bits) % 2 ≡ 0 = ap (λ (m : ℕ). m / 2 ^ (place w r c % bits) % 2) (made_at n (place w r c / bits)) ∙ ap (λ (m : ℕ). m % 2) (zero-div (2 ^ (place w r c % bits))) in
          let one = eqb-true (get_or {A = ℕ} (replicate n 0) (place w r c / bits) 0 / 2 ^ (place w r c % bits) % 2) 1 d in
          omega (arith, zero_byte, one)

  -- one mark more, where what holds goes by the marks alone
  module _ (table : List ℕ) (n : Noted holds table) (row column : ℕ) (goes : (other : List ℕ) (x y : ℕ) → holds table x y → holds other x y) where
    pub noted_more : holds table row column → Noted holds (marking table row column)
    noted_more h = record { right = right }
      where
        right : (x y : ℕ) → is_marked (marking table row column) x y ≡ true → holds (marking table row column) x y
        right x y m =
            ⊎_elim (λ e. goes (marking table row column) x y (rw (e.0, e.1) h)) (λ e. goes (marking table row column) x y (n.right x y e)) (marked_more table row column x y m)

-- what holds of all that is marked holds of it in another way, if the one follows from the other
pub noted_as : (holds also : List ℕ → ℕ → ℕ → Type 0) (table : List ℕ) → ((row column : ℕ) → holds table row column → also table row column) → Noted holds table → Noted also table
noted_as holds also table f n = record { right = λ r c h. f r c (n.right r c h) }
