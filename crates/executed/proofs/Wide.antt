-- Symbols that no byte holds: each row is what the definitions compute. Assumes nothing.
use Rattle.std.proofs.Common.{Option, Some}
use mathlib.Core.Path.{◌≡◌, refl, sym, ap}
use mathlib.Core.Bool.{Bool, false}
use mathlib.Core.List.{[], ◌∷◌}
use Prim.Native.Nat.{ℕ}
use lib.IntN.{pos}
use Rattle.pages.specs.Quant.{all_to, any_to, first_to}
use Rattle.pages.specs.Bytes.{eqs, zeros}
use Rattle.pages.specs.Pad.{pad}
use Rattle.names.specs.Table.{digit, name_byte, well_named, offset, name_at, named, good_at, names_max, formed as names_formed}
use Rattle.names.specs.Calls.{lent_broken, used_of, is_used}
use Rattle.units.specs.Unit.{places_max, term, formed, in_use}
use Rattle.units.specs.Calls.{terms_of, unit_of, form_verdict, product_answer}
use Rattle.units.specs.declared.Unit.{Unit}
use Rattle.units.proofs.Calls.{form_refused, product_left, product_right}
use Rattle.groups.specs.Groups.{pair, parents_of, enter_all, enter, walk, selves}
use Rattle.pairs.specs.Table.{pairs_in, formed as table_formed, fresh_table, both_used, insert_verdict, insertion, with_pair}
use Rattle.pairs.specs.Page.{table_in, holds, formed as page_formed, with_table}
use Rattle.pairs.specs.Calls.{empty_verdict, empty_page, table_broken, pair_verdict, page_after}
use Rattle.pairs.proofs.Fresh.{fresh_formed}
use Rattle.sums.specs.Calls.{units_verdict, convert_answer}
use Rattle.answers.specs.Units.{no_unit}
use Rattle.executed.specs.Rows.{ConvertRow}
use Rattle.refusals.specs.Numbers.{code_of}
use Rattle.executed.proofs.Answers.{power, mm}

-- ---- a unit that breaks its form

module _ (u : Unit) (broken : formed places_max names_max (terms_of u) ≡ false) where
  pub form_five : code_of (form_verdict u) ≡ 5
  form_five = ap code_of (form_refused u broken)

  -- on the left of any unit, and on the right of m
  pub left_five : (d : Bool) (v : Unit) → code_of (product_answer d u v) ≡ 5
  left_five d v = ap code_of (sym (product_left d u v broken))

  pub right_five : (d : Bool) → code_of (product_answer d (unit_of (term 0 (pos 1) ∷ [])) u) ≡ 5
  unfolding formed pad
  right_five d = ap code_of (sym (product_right d (unit_of (term 0 (pos 1) ∷ [])) u refl broken))

-- ---- a pair of which a symbol is not in use

pub pair_three : (n s f b : ℕ) → both_used n (pair s b) ≡ false → code_of (insertion fresh_table n s f b) ≡ 3
unfolding insertion insert_verdict
pair_three n s f b u = rw ((fresh_formed n).0, u)

-- ---- the rows of convertibility

-- a unit that says nine symbols, with this one in the eighth place
abbrev nine : ℕ → Option Unit
nine s = Some (record {
  count = 9;
  symbols = 0 ∷ 1 ∷ 2 ∷ 3 ∷ 4 ∷ 5 ∷ 6 ∷ s ∷ [];
  exponents = pos 1 ∷ pos 1 ∷ pos 1 ∷ pos 1 ∷ pos 1 ∷ pos 1 ∷ pos 1 ∷ pos 1 ∷ [];
})

pub record Wide : Type 0 where
  pub left : ConvertRow (power 256 (pos 1)) no_unit 3
  pub right : ConvertRow mm (power 300 (pos 1)) 3
  pub eighth : ConvertRow (nine 300) no_unit 3
  pub ninth : ConvertRow (nine 7) no_unit 5

pub wide : Wide
unfolding convert_answer units_verdict in_use formed is_used used_of lent_broken
    names_formed good_at named name_at offset well_named name_byte digit eqs zeros all_to any_to first_to
    table_broken page_formed holds table_in table_formed pairs_in empty_verdict empty_page parents_of enter_all enter walk selves pad
    page_after pair_verdict with_table with_pair
wide = record { left = refl; right = refl; eighth = refl; ninth = refl }
