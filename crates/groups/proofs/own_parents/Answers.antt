use Rattle.std.proofs.Common.{rules, ◌≡◌, ◌<◌, sym, ◌∙◌, get_or, zero-add, ext_get_or, arith}
use Rattle.names.specs.Table.{names_max}
use Rattle.groups.specs.Groups.{selves}
use Rattle.groups.proofs.UnionFind.{length_selves, get_d_selves}
use Rattle.groups.proofs.own_parents.Goals as goal

pub returns : goal.returns
returns c =
    let made = c.from_fn.ensures.items in
    ext_get_or 0 c.from_fn.result (selves 0 names_max) (made.long ∙ sym (length_selves 0 names_max))
    (λ i h.
    let l : i < names_max = omega (arith, made.long) in
    let called = (made.at i 0 l).2 in
    let e : get_or c.from_fn.result i 0 ≡ i = search rules in
    e ∙ sym (get_d_selves 0 names_max i l ∙ zero-add i))
