use Rattle.std.specs.Prelude.{unwrap_or}
use mathlib.Core.Path.{◌≡◌, sym, ap, ◌∙◌}
use native.Mathlib.Omega.{arith}
use lib.ListN.{length, take}
use lib.Seq.{length-take-le}
use Rattle.pages.specs.declared.Padded.{Padded}
use Rattle.pages.proofs.Pad.{length_pad}
use Rattle.kinds.specs.Kinds.{children_max}
use Rattle.types.specs.Making.{entry_of, entry_max}
use Rattle.calls.specs.Types.{bytes_of_type}
use Rattle.calls.proofs.Types.{type_made}
use borrow.Author.Rules.{rules}
use Rattle.calls.proofs.type_bytes.Goals as goal

pub slice_bounds-children-end : goal.slice_bounds-children-end
slice_bounds-children-end c =
    let n : length c.args.shape.children ≡ children_max = search rules in
    omega (arith, n, c.requires.1)

pub slice_bounds-entry_of-end : goal.slice_bounds-entry_of-end
slice_bounds-entry_of-end c =
    let s = c.args.shape in
    let n : length s.children ≡ children_max = search rules in
    sym (length-take-le s.count s.children (omega (arith, n, c.requires.1)))

pub entry_of-entry-requires : goal.entry_of-entry-requires
entry_of-entry-requires c =
    let s = c.args.shape in
    let n : length s.children ≡ children_max = search rules in
    rw (length-take-le s.count s.children (omega (arith, n, c.requires.1))) c.requires.1

pub put_bytes-requires-2 : goal.put_bytes-requires-2
put_bytes-requires-2 c =
    let made = c.entry_of-entry in
    let put-bytes = c.put_bytes in
    let s = c.args.shape in
    let n = ap (λ (v : Padded entry_max). length v.bytes) made.ensures.0 ∙ length_pad entry_max 0 (entry_of s.kind (take s.count s.children) c.unwrap_or.result) in
    omega (arith, n, put-bytes.auto.page)

pub returns : goal.returns
unfolding bytes_of_type
returns c =
    let made = c.entry_of-entry in
    let put-bytes = c.put_bytes in
    let put-bytes2 = c.put_bytes-2 in
    let s = c.args.shape in
    put-bytes2.ensures ∙ rw put-bytes.ensures
    (type_made s.depth (entry_of s.kind (take s.count s.children) (unwrap_or s.name 0)) made.result.bytes (rw c.unwrap_or.ensures at (ap (λ (v : Padded entry_max). v.bytes) made.ensures.0)))
