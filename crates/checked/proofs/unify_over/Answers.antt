use borrow.Author.Rules.{rules}
use Rattle.types.specs.Types.{types_in}
use Rattle.marks.proofs.Marks.{noted_none}
use Rattle.unification.specs.Unification.{Given}
use Rattle.checked.proofs.unify_over.Goals as goal

pub invariant_of-unifier : goal.invariant_of-unifier
invariant_of-unifier g c = record { noted = ∣ noted_none _ g.row.M ∣₁ }

pub invariant_of-unifier-2 : goal.invariant_of-unifier-2
invariant_of-unifier-2 g c =
    let given : Given c.args.bound (types_in c.args.store.page.now) = record { usable = c.requires.usable; names = search rules; types = search rules } in
    record { given = ∣ given ∣₁; settled = ∣ noted_none _ g.row.N ∣₁ }
