use Rattle.types.specs.Same as makers
use Rattle.formulas.specs.State.{roots_of, state_of, Beside, Same}
use Rattle.formulas.proofs.Lists.{Going}
use Rattle.formulas.proofs.Answering.answer_all.Given as goal

abbrev pub invariant-loop-body : goal.invariant-loop-body
invariant-loop-body l =
    Going l.fn.self.used (roots_of l.fn.self) (state_of l.fn.maker.page.now l.fn.self) l.bodies (state_of l.maker.page.now l.self) l.body-index
    × Same l.self l.fn.self × makers.Same l.maker l.fn.maker × Beside l.self l.maker.page.now
