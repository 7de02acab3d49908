use Rattle.types.proofs.Maker.enter.Goals as goal

pub invariant_of-self : goal.invariant_of-self
invariant_of-self c = record { measured = ∣ c.enter.ensures.2 ∣₁ }
