use Rattle.std.proofs.Common.{sym, ◌∙◌}
use Rattle.matching.proofs.Memo.{stored_small, noted_found, found_sequences, found_maps, found_flat}
use Rattle.matching.proofs.find.Goals as goal

pub returns-then-are_sequences-clause-value : goal.returns-then-are_sequences-clause-value
returns-then-are_sequences-clause-value c =
    let a = c.args in
    c.null_array_elision.ensures.value ∙ sym (found_sequences a.store.page.now a.a a.b (sym c.are_sequences.ensures ∙ c.if-are_sequences.true))

pub returns-then-are_maps-clause-value : goal.returns-then-are_maps-clause-value
returns-then-are_maps-clause-value c =
    let a = c.args in
    c.null_map_elision.ensures.value ∙ sym (found_maps a.store.page.now a.a a.b (sym c.are_maps.ensures ∙ c.if-are_maps.true))

pub note-requires : goal.note-requires
note-requires c =
    let small = stored_small c.args.store.held in
    (small c.args.a c.requires.a_bound.0, small c.args.b c.requires.a_bound.1)

pub returns : goal.returns
returns c =
    let a = c.args in
    let p = c.requires in
    let page = a.store.page.now in
    let flat = c.flat_matches-answer in
    let e = flat.ensures ∙ sym (found_flat page a.a a.b (sym c.are_sequences.ensures ∙ c.if-are_sequences.false) (sym c.are_maps.ensures ∙ c.if-are_maps.false) p.a_bound.2) in
    let n = noted_found page a.memo.now p.noted a.a a.b flat.result p.a_bound.0 p.a_bound.1 e in
    record { value = e; noted_2 = rw c.note.ensures n }
