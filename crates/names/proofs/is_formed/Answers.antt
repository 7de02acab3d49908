use mathlib.Core.Path.{◌≡◌, refl, sym, ◌∙◌}
use native.Mathlib.Omega.{arith}
use Rattle.names.proofs.Table.{name_there, bad_past, bad_long, bad_name, unformed_short, unformed_many, unformed_at, formed_when}
use Rattle.names.proofs.Prints.{tables_none, tables_more, head_is, known_name}
use Rattle.names.proofs.is_formed.Goals as goal

pub returns-then-page-lt-COUNT_BYTES : goal.returns-then-page-lt-COUNT_BYTES
returns-then-page-lt-COUNT_BYTES c = unformed_short _ c.if-page-lt-COUNT_BYTES.true

pub returns-then-n-gt-NAMES : goal.returns-then-n-gt-NAMES
returns-then-n-gt-NAMES c =
    let if1 = c.if-page-lt-COUNT_BYTES in
    let count = c.count-n in
    unformed_many _ _ count.ensures.0 if1.false c.if-n-gt-NAMES.true

pub loop-i-init : goal.loop-i-init
loop-i-init c =
    let if1 = c.if-page-lt-COUNT_BYTES in
    (omega arith, omega (arith, if1.false), tables_none c.args.page.now _ _ _ if1.false c.new-chains.ensures.0 c.new-chains.ensures.1 refl)

pub returns-then-at-page : goal.returns-then-at-page
returns-then-at-page c =
    let if1 = c.if-page-lt-COUNT_BYTES in
    let count = c.count-n in
    let if2 = c.if-n-gt-NAMES in
    let loop = c.loop-i in
    let loop-test = c.loop-i-test in
    (unformed_at c.args.page.now _ count.ensures.0 if1.false if2.false loop.i loop-test.true)
    (bad_past c.args.page.now loop.i loop.at loop.invariant.2.stands c.if-at-page.true)

pub returns-then-end-page : goal.returns-then-end-page
returns-then-end-page c =
    let if1 = c.if-page-lt-COUNT_BYTES in
    let count = c.count-n in
    let if2 = c.if-n-gt-NAMES in
    let loop = c.loop-i in
    let loop-test = c.loop-i-test in
    let end = c.name_end-end in
    (unformed_at c.args.page.now _ count.ensures.0 if1.false if2.false loop.i loop-test.true)
    (bad_long c.args.page.now loop.i loop.at end.result loop.invariant.2.stands end.ensures c.if-end-page.true)

pub returns-then-not-is_name : goal.returns-then-not-is_name
returns-then-not-is_name c =
    let if1 = c.if-page-lt-COUNT_BYTES in
    let count = c.count-n in
    let if2 = c.if-n-gt-NAMES in
    let loop = c.loop-i in
    let loop-test = c.loop-i-test in
    let end = c.name_end-end in
    let if4 = c.if-end-page in
    let is_name = c.is_name in
    (unformed_at c.args.page.now _ count.ensures.0 if1.false if2.false loop.i loop-test.true)
    (bad_name c.args.page.now loop.i loop.at end.result loop.invariant.2.stands end.ensures if4.false _ (c.name_from-name.ensures ∙ name_there c.args.page.now loop.i loop.at loop.invariant.2.stands) (sym is_name.ensures ∙ c.if-not-is_name.true))

pub slice_bounds-is_among-end : goal.slice_bounds-is_among-end
slice_bounds-is_among-end c =
    let loop = c.loop-i in
    sym loop.invariant.2.notes

pub is_among-requires : goal.is_among-requires
is_among-requires c =
    let loop = c.loop-i in
    let end = c.name_end-end in
    let if4 = c.if-end-page in
    let is_name = c.is_name in
    let if5 = c.if-not-is_name in
    let print-of = c.print_of-print in
    (loop.invariant.2.chain, print-of.ensures.1, head_is c.args.page.now loop.i loop.at end.result loop.chains.heads loop.chains.links loop.offsets loop.invariant.2 end.ensures if4.false _ (c.name_from-name.ensures ∙ name_there c.args.page.now loop.i loop.at loop.invariant.2.stands) (sym is_name.ensures ∙ if5.false) print-of.result print-of.ensures.0 print-of.ensures.1 _ refl)

pub returns-then-is_among : goal.returns-then-is_among
returns-then-is_among c =
    let if1 = c.if-page-lt-COUNT_BYTES in
    let count = c.count-n in
    let if2 = c.if-n-gt-NAMES in
    let loop = c.loop-i in
    let loop-test = c.loop-i-test in
    let end = c.name_end-end in
    let if4 = c.if-end-page in
    let is_name = c.is_name in
    let if5 = c.if-not-is_name in
    let is_among = c.is_among in
    (unformed_at c.args.page.now _ count.ensures.0 if1.false if2.false loop.i loop-test.true)
    (known_name c.args.page.now loop.i loop.at end.result loop.chains.heads loop.chains.links loop.offsets loop.invariant.2 end.ensures if4.false _ (c.name_from-name.ensures ∙ name_there c.args.page.now loop.i loop.at loop.invariant.2.stands) (sym is_name.ensures ∙ if5.false) is_among.result is_among.ensures c.if-is_among.true)

pub link-requires : goal.link-requires
link-requires c = (omega arith, (c.print_of-print.ensures.1, omega (arith, c.loop-i-test.true, c.if-n-gt-NAMES.false), omega (arith, c.loop-i-test.true, c.if-n-gt-NAMES.false)))

pub loop-i-preserved : goal.loop-i-preserved
loop-i-preserved c =
    let if2 = c.if-n-gt-NAMES in
    let loop = c.loop-i in
    let loop-test = c.loop-i-test in
    let end = c.name_end-end in
    let if4 = c.if-end-page in
    let is_name = c.is_name in
    let if5 = c.if-not-is_name in
    let print-of = c.print_of-print in
    let is_among = c.is_among in
    let if6 = c.if-is_among in
    let link = c.link in
    (omega (arith, loop-test.true), if4.false, tables_more c.args.page.now loop.i loop.at end.result loop.chains.heads loop.chains.links loop.offsets loop.invariant.2 end.ensures if4.false _ (c.name_from-name.ensures ∙ name_there c.args.page.now loop.i loop.at loop.invariant.2.stands) (sym is_name.ensures ∙ if5.false) print-of.result print-of.ensures.0 print-of.ensures.1 is_among.result is_among.ensures if6.false (omega (arith, loop-test.true, if2.false)) _ _ _ link.ensures.0 link.ensures.1 refl)

pub returns : goal.returns
returns c =
    let if1 = c.if-page-lt-COUNT_BYTES in
    let count = c.count-n in
    let if2 = c.if-n-gt-NAMES in
    let loop = c.loop-i in
    let e : loop.i ≡ count.result = omega arith in
    c.zeros_from.ensures ∙ formed_when c.args.page.now _ count.ensures.0 if1.false if2.false (rw e at loop.invariant.2.good) _ (rw e at loop.invariant.2.stands)
