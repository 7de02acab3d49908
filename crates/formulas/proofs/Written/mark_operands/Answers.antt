use mathlib.Core.Path.{refl}
use mathlib.Core.List.Memᴰ.{head, tail}
use mathlib.Core.Logic.{⊎_elim}
use Rattle.formulas.proofs.Written.mark_operands.Goals as goal

pub bounds-marks-a : goal.bounds-marks-a
bounds-marks-a c = c.requires c.in-Unary.a (rw c.in-Unary.is (head refl))

pub bounds-marks-a-in-Binary : goal.bounds-marks-a-in-Binary
bounds-marks-a-in-Binary c =
    c.requires c.in-Binary.a (⊎_elim (λ q. rw q.1 (head refl)) (λ q. rw q (head refl)) c.in-Binary.is)

pub bounds-marks-b : goal.bounds-marks-b
bounds-marks-b c =
    c.requires c.in-Binary.b (⊎_elim (λ q. rw q.1 (tail (head refl))) (λ q. rw q (tail (head refl))) c.in-Binary.is)
