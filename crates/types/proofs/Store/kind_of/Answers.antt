use Rattle.std.proofs.Common.{arith, rules}
use Rattle.types.proofs.Types.{kind_fixed, kind_entry, head_inside, held_by}
use Rattle.types.proofs.Store.kind_of.Goals as goal

pub returns-then-t-lt-FIXED : goal.returns-then-t-lt-FIXED
returns-then-t-lt-FIXED c = kind_fixed c.args.self.page.now c.args.t c.if-t-lt-FIXED.true

pub overflow_add-result : goal.overflow_add-result
overflow_add-result c =
    search (
      rules,
      head_inside c.args.self.page.now (held_by c.args.self.held).sound c.args.t c.requires
          c.if-t-lt-FIXED.false,
    )

pub bounds-self-place_of : goal.bounds-self-place_of
bounds-self-place_of c =
    omega (
      arith,
      c.place_of.ensures,
      head_inside c.args.self.page.now (held_by c.args.self.held).sound c.args.t c.requires
          c.if-t-lt-FIXED.false,
    )

pub returns : goal.returns
returns c = rw c.place_of.ensures (kind_entry c.args.self.page.now c.args.t c.if-t-lt-FIXED.false)
