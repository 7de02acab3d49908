use Rattle.std.proofs.Common.{arith, rules}
use Rattle.types.specs.Types.{child_of}
use Rattle.types.proofs.Types.{child_above, child_inside, child_lower, held_by}
use Rattle.types.proofs.Store.child_of.Goals as goal

pub place_of-requires : goal.place_of-requires
place_of-requires c =
    let f = (held_by c.args.self.held).sound in
    (child_above c.args.self.page.now f c.args.t c.requires.0 c.args.i c.requires.1, omega (arith, c.requires.0))

pub overflow_add-place_of : goal.overflow_add-place_of
overflow_add-place_of c =
    let f = (held_by c.args.self.held).sound in
    search (rules, child_inside c.args.self.page.now f c.args.t c.requires.0 c.args.i c.requires.1)

pub overflow_mul-i : goal.overflow_mul-i
overflow_mul-i c =
    let f = (held_by c.args.self.held).sound in
    search (rules, child_inside c.args.self.page.now f c.args.t c.requires.0 c.args.i c.requires.1)

pub overflow_add-place_of-2 : goal.overflow_add-place_of-2
overflow_add-place_of-2 c =
    let f = (held_by c.args.self.held).sound in
    search (rules, child_inside c.args.self.page.now f c.args.t c.requires.0 c.args.i c.requires.1)

pub word_at-requires : goal.word_at-requires
word_at-requires c =
    let f = (held_by c.args.self.held).sound in
    rw c.place_of.ensures (child_inside c.args.self.page.now f c.args.t c.requires.0 c.args.i c.requires.1)

pub returns : goal.returns
unfolding child_of
returns c =
    let f = (held_by c.args.self.held).sound in
    let r = rw c.place_of.ensures at c.word_at.ensures.0 in
    (r, rw r (child_lower c.args.self.page.now f c.args.t c.requires.0 c.args.i c.requires.1))
