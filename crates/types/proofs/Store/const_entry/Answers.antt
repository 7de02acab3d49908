use Rattle.std.proofs.Common.{arith, rules, ap}
use Rattle.pages.specs.declared.Padded.{Padded}
use Rattle.types.specs.Making.{entry_max}
use Rattle.types.proofs.Types.{head_inside, entry_inside, held_by}
use Rattle.types.proofs.Const.{const_part, const_size, const_fits, const_made}
use Rattle.types.proofs.Store.const_entry.Goals as goal

pub entry_size-size-requires : goal.entry_size-size-requires
entry_size-size-requires c =
    rw c.place_of-at.ensures (head_inside c.args.self.page.now (held_by c.args.self.held).sound c.args.t c.requires.1 c.requires.0)

pub overflow_add-at : goal.overflow_add-at
overflow_add-at c =
    let f = (held_by c.args.self.held).sound in
    let page = c.args.self.page.now in
    let s = const_size page f c.args.t c.requires.0 c.requires.1 c.place_of-at.result c.entry_size-size.result c.place_of-at.ensures c.entry_size-size.ensures.0 in
    search (rules, c.place_of-at.ensures, s, entry_inside page f c.args.t c.requires.1 c.requires.0)

pub slice_bounds-of-end : goal.slice_bounds-of-end
slice_bounds-of-end c =
    let f = (held_by c.args.self.held).sound in
    let page = c.args.self.page.now in
    let s = const_size page f c.args.t c.requires.0 c.requires.1 c.place_of-at.result c.entry_size-size.result c.place_of-at.ensures c.entry_size-size.ensures.0 in
    omega (arith, c.place_of-at.ensures, s, entry_inside page f c.args.t c.requires.1 c.requires.0)

pub of-entry-requires : goal.of-entry-requires
of-entry-requires c =
    let f = (held_by c.args.self.held).sound in
    (omega arith, const_fits c.args.self.page.now f c.args.t c.requires.0 c.requires.1 c.place_of-at.result c.entry_size-size.result c.place_of-at.ensures c.entry_size-size.ensures.0)

pub overflow_add-at-2 : goal.overflow_add-at-2
overflow_add-at-2 c =
    search (rules, c.place_of-at.ensures, head_inside c.args.self.page.now (held_by c.args.self.held).sound c.args.t c.requires.1 c.requires.0)

pub bounds-self-at : goal.bounds-self-at
bounds-self-at c =
    omega (arith, c.place_of-at.ensures, head_inside c.args.self.page.now (held_by c.args.self.held).sound c.args.t c.requires.1 c.requires.0)

pub returns : goal.returns
returns c =
    let f = (held_by c.args.self.held).sound in
    let page = c.args.self.page.now in
    let at = c.place_of-at in
    let size = c.entry_size-size in
    let p = const_part page f c.args.t c.requires.0 c.requires.1 at.result size.result at.ensures size.ensures.0 in
    let o = rw p at c.of-entry.ensures in (
      rw o (const_made page f c.args.t c.requires.0 c.requires.1 c.const_variant.result (rw at.ensures at c.const_variant.ensures)),
      omega (arith, ap (λ (v : Padded entry_max). v.size) c.of-entry.ensures, const_fits page f c.args.t c.requires.0 c.requires.1 at.result size.result at.ensures size.ensures.0),
    )
