-- What is one answer is equal to itself. Assumes nothing.
use Rattle.std.specs.Prelude.{◌≡◌, Bool, true, Result, Ok, Err}
use Rattle.std.specs.Cmp.{IsEquivalence}
use Rattle.std.specs.Result.{result_eq}
use mathlib.Core.Path.{◌∙◌}
use Rattle.refusals.specs.contracts.RefusalEq.TheImpl.Laws as refusal
use Rattle.answers.specs.contracts.AnsweredEq.TheImpl.Laws as answered
use Rattle.executed.proofs.expect_answer.Goals as goal

equal : {A B : Type 0} {E : A → A → Bool} {F : B → B → Bool} → IsEquivalence E → IsEquivalence F → (a : Result A B) → result_eq E F a a ≡ true
equal e f (Ok x) = e.refl x
equal e f (Err r) = f.refl r

pub expect-requires : goal.expect-requires
expect-requires c = c.eq.ensures ∙ rw c.requires (equal answered.laws-law refusal.laws-law c.args.b)
