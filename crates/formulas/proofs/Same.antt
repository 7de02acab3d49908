-- What a call leaves as it was, of no call and of two. Assumes nothing.
use mathlib.Core.Path.{refl, ◌∙◌}
use Rattle.formulas.specs.State.{Same}
use Rattle.formulas.specs.declared.Answering.{Answering}

pub same_refl : (a : Answering) → Same a a
same_refl a = (refl, refl, refl, refl, refl, refl)

pub same_trans : (a b c : Answering) → Same a b → Same b c → Same a c
same_trans a b c p q = (p.0 ∙ q.0, p.1 ∙ q.1, p.2 ∙ q.2, p.3 ∙ q.3, p.4 ∙ q.4, p.5 ∙ q.5)
