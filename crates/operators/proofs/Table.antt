-- The rule of the table of operators, proved once over the table. Assumes nothing.
use mathlib.Core.Path.{◌≡◌, refl, ap, ◌∙◌}
use mathlib.Core.Bool.{true, false}
use mathlib.Core.List.{List, [], ◌∷◌}
use Prim.Native.Nat.{ℕ, zero, suc, ◌+◌, ◌-◌, ◌<◌, ◌≤◌}
use native.Mathlib.Nat.{add-zero, add-suc, suc-add, le_of_suc-le-suc, not-suc-le-zero}
use native.Mathlib.Omega.{arith}
use borrow.Author.Rules.{rules}
use borrow.Author.Tests.{leb-true}
use lib.Dec.{leb}
use lib.ListN.{length, get_or}
use Rattle.pages.proofs.Quant.{and_true}
use Rattle.operators.specs.Operators.{operator_last, is_operator, class_of, unit_rule, result_rule, row_of}
use Rattle.operators.specs.declared.Class.{Class}
use Rattle.operators.specs.declared.Class.TheVariants.{NotBinary, Arithmetic, Ordering, Equality, Logic}
use Rattle.operators.specs.declared.UnitRule.{UnitRule}
use Rattle.operators.specs.declared.UnitRule.TheVariants.{Ignored, Adopted, Multiplied, Divided, Compared}
use Rattle.operators.specs.declared.ResultRule.{ResultRule}
use Rattle.operators.specs.declared.ResultRule.TheVariants.{Nothing, Operands, Truth}
use Rattle.operators.specs.declared.Row.{Row}

-- an operator's code is from 1 to the last
pub operator_range : (op : ℕ) → is_operator op ≡ true → (1 ≤ op) × (op ≤ operator_last)
operator_range op h =
    let p = and_true (leb 1 op) (leb op operator_last) h in (leb-true 1 op p.0, leb-true op operator_last p.1)

abbrev row : Class → UnitRule → ResultRule → Row
row x y z = record { class = x; unit = y; result = z }

-- these are the rows of the codes from i on
Follows : ℕ → List Row → Type 0
Follows i [] = Unit {0}
Follows i (x ∷ xs) = (x ≡ row_of i) × Follows (suc i) xs

row_at : (xs : List Row) (d : Row) (i k : ℕ) → Follows i xs → k < length xs → get_or xs k d ≡ row_of (i + k)
unfolding Follows
row_at [] d i k h l = absurd (not-suc-le-zero l)
row_at (x ∷ xs) d i zero h l = rw add-zero h.0
row_at (x ∷ xs) d i (suc k) h l = rw (add-suc, ← suc-add) (row_at xs d (suc i) k h.1 (le_of_suc-le-suc l))

-- the table, as src/ has it
abbrev pub rows : List Row
rows =
    row Arithmetic Adopted Operands ∷ row Arithmetic Adopted Operands
    ∷ row Arithmetic Multiplied Operands ∷ row Arithmetic Divided Operands
    ∷ row Ordering Compared Truth ∷ row Ordering Compared Truth ∷ row Ordering Compared Truth ∷ row Ordering Compared Truth
    ∷ row Equality Compared Truth ∷ row Equality Compared Truth
    ∷ row Logic Ignored Truth ∷ row Logic Ignored Truth ∷ row NotBinary Ignored Nothing ∷ []

-- each operator has its row there
pub row_of_operator : (op : ℕ) (d : Row) → is_operator op ≡ true → get_or rows (op - 1) d ≡ row_of op
unfolding class_of unit_rule result_rule Follows
row_of_operator op d h =
    let p = operator_range op h in
    let below : op - 1 < 13 = omega (arith, p.0, p.1) in
    let listed : Follows 1 rows = (refl, (refl, (refl, (refl, (refl, (refl, (refl, (refl, (refl, (refl, (refl, (refl, (refl, tt))))))))))))) in
    let again : 1 + (op - 1) ≡ op = omega (arith, p.0) in
    row_at rows d 1 (op - 1) listed below ∙ ap row_of again

-- and any other number that of the operators that are not binary
pub row_of_other : (op : ℕ) → is_operator op ≡ false → row NotBinary Ignored Nothing ≡ row_of op
unfolding class_of unit_rule result_rule
row_of_other op h = search rules
