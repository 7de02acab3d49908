use Rattle.std.proofs.Common.{arith, ◌∙◌}
use Rattle.types.proofs.Types.{arity_fixed, arity_entry, few_children, head_inside, held_by}
use Rattle.types.proofs.Store.arity.Goals as goal

pub returns-then-t-lt-FIXED : goal.returns-then-t-lt-FIXED
returns-then-t-lt-FIXED c = (arity_fixed c.args.self.page.now c.args.t c.if-t-lt-FIXED.true, omega arith)

pub bounds-self-place_of : goal.bounds-self-place_of
bounds-self-place_of c =
    omega (
      arith,
      c.place_of.ensures,
      head_inside c.args.self.page.now (held_by c.args.self.held).sound c.args.t c.requires
          c.if-t-lt-FIXED.false,
    )

pub returns : goal.returns
returns c =
    let page = c.args.self.page.now in
    let q = rw c.place_of.ensures at c.from.ensures ∙ arity_entry page c.args.t c.if-t-lt-FIXED.false in
    (q, rw q (few_children page (held_by c.args.self.held).sound c.args.t c.requires))
