use mathlib.Core.Path.{refl, ◌∙◌, ap}
use native.Mathlib.Omega.{arith}
use lib.ListN.{get_or}
use borrow.Author.Rules.{rules}
use Rattle.chains.specs.Prints.{print_of}
use Rattle.types.proofs.Placing.{size_head}
use Rattle.types.proofs.Prints.{head_is, chained_more, entry_in, entry_is, new_is}
use Rattle.types.proofs.is_new.Goals as goal

pub entry_size-requires : goal.entry_size-requires
entry_size-requires c =
    omega (arith, entry_in c.args.page.now c.args.offsets.now c.args.j c.requires.2 c.requires.1, size_head c.args.page.now (get_or c.args.offsets.now c.args.j 0))

pub overflow_add-end : goal.overflow_add-end
overflow_add-end c =
    search (rules, entry_in c.args.page.now c.args.offsets.now c.args.j c.requires.2 c.requires.1, c.entry_size.ensures.0)

pub slice_bounds-print_of-end : goal.slice_bounds-print_of-end
slice_bounds-print_of-end c =
    rw c.entry_size.ensures.0 (entry_in c.args.page.now c.args.offsets.now c.args.j c.requires.2 c.requires.1)

pub slice_bounds-is_among-end : goal.slice_bounds-is_among-end
slice_bounds-is_among-end c =
    let entry-size = c.entry_size in
    rw entry-size.ensures.0 (entry_in c.args.page.now c.args.offsets.now c.args.j c.requires.2 c.requires.1)

pub is_among-found-requires : goal.is_among-found-requires
is_among-found-requires c =
    let entry-size = c.entry_size in
    let print-of = c.print_of-print in
    let page = c.args.page.now in
    let e = entry_is page c.args.offsets.now c.args.j c.requires.2 entry-size.result entry-size.ensures.0 in
    let t = c.requires.3 in (
      c.requires.2,
      omega (arith, t.linked, c.requires.0),
      t.link_at,
      print-of.ensures.1,
      head_is page c.args.chains.now.heads c.args.chains.now.links c.args.j t print-of.result (print-of.ensures.0 ∙ ap print_of e) print-of.ensures.1 _ print-of.ensures.0 _ refl,
    )

pub link-requires : goal.link-requires
link-requires c = (omega arith, (c.print_of-print.ensures.1, c.requires.0, omega (arith, c.requires.0)))

pub returns : goal.returns
returns c =
    let entry-size = c.entry_size in
    let print-of = c.print_of-print in
    let is_among = c.is_among-found in
    let link = c.link in
    let page = c.args.page.now in
    let e = entry_is page c.args.offsets.now c.args.j c.requires.2 entry-size.result entry-size.ensures.0 in (
      new_is page c.args.j _ e is_among.result is_among.ensures,
      chained_more page c.args.chains.now.heads c.args.chains.now.links c.args.j c.requires.3 print-of.result (print-of.ensures.0 ∙ ap print_of e) print-of.ensures.1 c.requires.0 _ _ link.ensures.0 link.ensures.1,
    )
