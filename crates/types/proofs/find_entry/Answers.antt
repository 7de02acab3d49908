use Rattle.std.proofs.Common.{rules, tests, arith, ◌-◌, ◌+◌, ◌≤◌, ◌<◌, ℕ, Bool, refl, length, get_or}
use lib.ListN.{take, drop}
use Rattle.std.proofs.iter.Serving.{serving}
use Rattle.std.proofs.lemmas.Iterator.{YieldsList-from_range, serves_from_Range}
use Rattle.std.proofs.lemmas.Iterator.Search.{position_from_yields_List}
use Rattle.pages.specs.Bytes.{eqs}
use Rattle.pages.proofs.Quant.{first_cong}
use Rattle.pages.proofs.Ranges.{found_ranged}
use Rattle.types.specs.Store.{is_entry}
use Rattle.types.proofs.Prints.{part_ordered, part_in, compared}
use Rattle.types.proofs.find_entry.Goals as goal

pub position-requires-clause-callable : goal.position-requires-clause-callable
position-requires-clause-callable c =
    serves_from_Range (λ k q h. search (rules, tests)) (λ k low high.
    let page = c.args.page.now in
    let offsets = c.args.offsets.now in
    let room : k + 1 < length offsets = omega (arith, c.requires.room) in
    let ordered : get_or offsets k 0 ≤ get_or offsets (k + 1) 0 = part_ordered page offsets c.args.j k c.requires high in
    let inside : get_or offsets (k + 1) 0 ≤ length page = part_in page offsets c.args.j k c.requires high in
    search (rules, serving))

pub returns : goal.returns
returns c =
    let page = c.args.page.now in
    let offsets = c.args.offsets.now in
    let entry = c.args.entry.now in
    let part : ℕ → Bool = λ k. eqs (take (get_or offsets (k + 1) 0 - get_or offsets k 0) (drop (get_or offsets k 0) page)) entry in
    let place = position_from_yields_List part _ _ _ c.position.ensures.ran (YieldsList-from_range 0 c.args.j c.args.j refl (omega arith)) (λ x b q h. search (rules, tests)) in
    rw (first_cong part (is_entry page entry) c.args.j (λ k l. compared page offsets c.args.j k c.requires l entry)) at (found_ranged part c.args.j c.position.result place)
