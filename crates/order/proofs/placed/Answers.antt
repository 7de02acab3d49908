use mathlib.Core.Path.{ap, sym, ◌∙◌}
use mathlib.Core.List.{[], ◌∷◌, ◌++◌}
use native.Mathlib.Omega.{arith}
use mir.Syntax.{w16}
use mir.Val.{to_z, of_z}
use mir.Facts.{to_z-of_z}
use Rattle.pages.specs.Bytes.{count_of}
use Rattle.names.proofs.Used.{used_below}
use Rattle.units.specs.Unit.{term}
use Rattle.units.specs.Calls.{terms_of, unit_of}
use Rattle.units.proofs.Signed.{back}
use Rattle.units.proofs.Form.{sym_at, exp_at}
use Rattle.units.proofs.Held.{places_of, grown}
use Rattle.order.specs.Order.{place}
use Rattle.order.proofs.Bytes.{comes_is}
use Rattle.order.proofs.Order.{in_use_at, placing_here, placing_next, placing_end}
use Rattle.order.proofs.placed.Goals as goal

pub name_of-name-requires : goal.name_of-name-requires
name_of-name-requires c =
    rw c.from.ensures (used_below (count_of c.args.names.page.now) c.args.s c.requires.1).0

pub name_of-requires : goal.name_of-requires
name_of-requires c =
    rw c.from-in-loop-j.ensures (in_use_at (count_of c.args.names.page.now) c.args.w c.requires.2 c.loop-j.j c.loop-j-test.true)

pub returns-then-is_lt : goal.returns-then-is_lt
returns-then-is_lt c =
    let g = c.args in
    let page = g.names.page.now in
    let l = c.loop-j in
    let x = term g.s (to_z w16 (of_z w16 g.e)) in
    let names = rw (c.name_of-name.ensures.0, c.name_of.ensures.0, c.from.ensures, c.from-in-loop-j.ensures) at c.cmp.ensures in
    placing_here page g.w x l.v l.j l.invariant c.loop-j-test.true (sym (comes_is _ _ c.cmp.result names) ∙ sym c.is_lt.ensures ∙ c.if-is_lt.true) c.with_term.result c.with_rest.result
    (λ k q. c.with_term.ensures ∙ grown _ _ _ k q) c.with_rest.ensures
    ∙ ap (λ z. unit_of (place page (term g.s z) (terms_of g.w))) (to_z-of_z c.ranges.e)

pub loop-j-preserved : goal.loop-j-preserved
loop-j-preserved c =
    let g = c.args in
    let l = c.loop-j in
    let e = exp_at (places_of g.w) l.j in
    let names = rw (c.name_of-name.ensures.0, c.name_of.ensures.0, c.from.ensures, c.from-in-loop-j.ensures) at c.cmp.ensures in
    placing_next g.names.page.now g.w (term g.s (to_z w16 (of_z w16 g.e))) l.v l.j l.invariant c.loop-j-test.true (sym (comes_is _ _ c.cmp.result names) ∙ sym c.is_lt.ensures ∙ c.if-is_lt.false) c.with_term-v.result
    (λ k q. c.with_term-v.ensures ∙ grown _ _ _ k q ∙ ap (λ z. unit_of (k ++ (term (sym_at (places_of g.w) l.j) z ∷ []))) (back e (omega arith)))

pub returns : goal.returns
returns c =
    let g = c.args in
    let l = c.loop-j in
    placing_end g.names.page.now g.w (term g.s (to_z w16 (of_z w16 g.e))) l.v l.j l.invariant c.loop-j-test.false c.with_term-2.result
    (λ k q. c.with_term-2.ensures ∙ grown _ _ _ k q)
    ∙ ap (λ z. unit_of (place g.names.page.now (term g.s z) (terms_of g.w))) (to_z-of_z c.ranges.e)
