use Rattle.std.proofs.Common.{rules, arith, get_or}
use Rattle.std.proofs.iter.Serving.{serving}
use Rattle.chains.specs.Prints.{print_of}
use Rattle.chains.proofs.Walk.{descends, any_walked}
use Rattle.names.specs.Table.{named}
use Rattle.names.specs.Prints.{print_at}
use Rattle.names.proofs.Prints.{compared_in, compared, same_print}
use Rattle.names.proofs.is_among.Goals as goal

pub any_linked-requires : goal.any_linked-requires
any_linked-requires c =
    let page = c.args.page.now in
    let links = c.args.chains.now.links in
    let chain = c.requires.0 in
    let walk = descends (print_at page) links c.args.n chain.link_at chain.linked (print_of c.args.name.now) _ c.requires.2 in (
      omega arith,
      (
        (chain.linked, c.requires.1, walk),
        λ k h. let z = compared_in page c.args.offsets.now links c.args.n k chain h in search (rules, serving),
      ),
    )

pub returns : goal.returns
returns c =
    let page = c.args.page.now in
    let links = c.args.chains.now.links in
    let name = c.args.name.now in
    let chain = c.requires.0 in
    any_walked (print_at page) links c.args.n chain.link_at chain.linked (print_of name) (get_or c.args.chains.now.heads c.args.print 0) c.requires.2 _ c.any_linked.result c.any_linked.ensures
    (named page name) (same_print page name) (λ k r l s. search (rules, s, compared page c.args.offsets.now links c.args.n k chain l name))
