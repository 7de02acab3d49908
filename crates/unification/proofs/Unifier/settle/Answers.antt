use Rattle.unification.proofs.Growth.{noted_settled, settled_by}
use Rattle.unification.proofs.Unifier.settle.Goals as goal

pub invariant_of-self : goal.invariant_of-self
invariant_of-self c =
    let g = c.args.self.now in
    let page = g.matcher.store.page.now in
    let n = settled_by page g.bindings g.seen.now g.settled in
    record { given = g.given; settled = ∣ rw (c.mark.ensures, c.column_of.ensures) (noted_settled page g.bindings g.seen.now n c.args.e c.args.a c.requires.fits) ∣₁ }
