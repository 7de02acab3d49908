use Rattle.std.proofs.Common.{rules, arith, ◌+◌, ◌<◌, ◌≤◌, length, get_or}
use Rattle.std.proofs.iter.Serving.{serving}
use Rattle.chains.specs.Prints.{print_of}
use Rattle.chains.proofs.Walk.{descends, any_walked}
use Rattle.types.specs.Store.{is_entry}
use Rattle.types.specs.Survey.{print_at}
use Rattle.types.proofs.Prints.{part_ordered, part_in, compared, same_print}
use Rattle.types.proofs.is_among.Goals as goal

pub any_linked-requires : goal.any_linked-requires
any_linked-requires c =
    let page = c.args.page.now in
    let links = c.args.chains.now.links in
    let walk = descends (print_at page) links c.args.j c.requires.2 c.requires.1 (print_of c.args.entry.now) _ c.requires.4 in (
      omega arith,
      (
        (c.requires.1, c.requires.3, walk),
        λ k i.
            let offsets = c.args.offsets.now in
            let room : k + 1 < length offsets = omega (arith, c.requires.0.room) in
            let ordered : get_or offsets k 0 ≤ get_or offsets (k + 1) 0 = part_ordered page offsets c.args.j k c.requires.0 i in
            let inside : get_or offsets (k + 1) 0 ≤ length page = part_in page offsets c.args.j k c.requires.0 i in
            search (rules, serving),
      ),
    )

pub returns : goal.returns
returns c =
    let page = c.args.page.now in
    let links = c.args.chains.now.links in
    let entry = c.args.entry.now in
    any_walked (print_at page) links c.args.j c.requires.2 c.requires.1 (print_of entry) (get_or c.args.chains.now.heads c.args.print 0) c.requires.4 _ c.any_linked.result c.any_linked.ensures
    (is_entry page entry) (same_print page entry) (λ k r l s. search (rules, s, compared page c.args.offsets.now c.args.j k c.requires.0 l entry))
