use Rattle.std.proofs.Common.{arith, rules, sym}
use Rattle.types.specs.Types.{place_of, name_of}
use Rattle.types.proofs.Types.{name_above, name_inside, held_by}
use Rattle.types.proofs.Width.{name_width, name_byte_lem}
use Rattle.types.proofs.Store.name_of.Goals as goal

pub place_of-requires : goal.place_of-requires
place_of-requires c =
    let f = (held_by c.args.self.held).sound in
    (name_above c.args.self.page.now f c.args.t c.requires.0 c.requires.1, omega (arith, c.requires.0))

pub overflow_add-place_of : goal.overflow_add-place_of
overflow_add-place_of c =
    let f = (held_by c.args.self.held).sound in
    search (rules, name_inside c.args.self.page.now f c.args.t c.requires.0 c.requires.1)

pub bounds-self-place_of : goal.bounds-self-place_of
bounds-self-place_of c =
    let f = (held_by c.args.self.held).sound in
    omega (arith, c.place_of.ensures, name_inside c.args.self.page.now f c.args.t c.requires.0 c.requires.1, name_width)

pub returns : goal.returns
unfolding name_of
returns c =
    let page = c.args.self.page.now in
    rw (c.from.ensures, c.place_of.ensures) (sym (name_byte_lem page (place_of page c.args.t)))
