use mathlib.Core.Path.{sym, ◌∙◌}
use native.Mathlib.Omega.{arith}
use borrow.Author.Rules.{rules}
use borrow.Author.Tests.{ne_eqb}
use Rattle.types.proofs.Placing.{size_named, size_children, parts_unstored, parts_childful, parts_name, parts_uncounted, parts_counted}
use Rattle.types.proofs.Width.{name_width, name_byte_lem}
use Rattle.types.proofs.has_parts.Goals as goal

pub returns-then-not-is_stored : goal.returns-then-not-is_stored
returns-then-not-is_stored c =
    let a = c.args in
    parts_unstored a.page.now a.n a.t a.o (sym c.is_stored.ensures ∙ c.if-not-is_stored.true)

pub bounds-page-o-then-children-eq0 : goal.bounds-page-o-then-children-eq0
bounds-page-o-then-children-eq0 c =
    let m = sym c.is_named.ensures ∙ c.if-is_named.true in
    omega (arith, size_named c.args.page.now c.args.o m, name_width, c.requires.1)

pub returns-then-children-eq0 : goal.returns-then-children-eq0
returns-then-children-eq0 c =
    let a = c.args in
    let s = sym c.is_stored.ensures ∙ c.if-not-is_stored.false in
    let m = sym c.is_named.ensures ∙ c.if-is_named.true in
    c.is_used.ensures ∙ rw (c.from.ensures, ← name_byte_lem a.page.now a.o)
    (parts_name a.page.now a.n a.t a.o s m (rw c.from-children.ensures at c.if-children-eq0.true))

pub returns-else-children-eq0 : goal.returns-else-children-eq0
returns-else-children-eq0 c =
    let a = c.args in
    let s = sym c.is_stored.ensures ∙ c.if-not-is_stored.false in
    let m = sym c.is_named.ensures ∙ c.if-is_named.true in
    ne_eqb c.from-children.result 0 c.if-children-eq0.false
    ∙ parts_childful a.page.now a.n a.t a.o s m (rw c.from-children.ensures at c.if-children-eq0.false)

pub are_below-requires : goal.are_below-requires
are_below-requires c =
    let m = sym c.is_named.ensures ∙ c.if-is_named.false in
    (omega (arith, size_children c.args.page.now c.args.o m, c.requires.1, c.from-children.ensures), search rules)

pub returns-then-is_counted : goal.returns-then-is_counted
returns-then-is_counted c =
    let a = c.args in
    let s = sym c.is_stored.ensures ∙ c.if-not-is_stored.false in
    let m = sym c.is_named.ensures ∙ c.if-is_named.false in
    c.are_below.ensures ∙ rw c.from-children.ensures
    (parts_counted a.page.now a.n a.t a.o s m (sym (rw c.from-children.ensures at c.is_counted.ensures) ∙ c.if-is_counted.true))

pub returns-else-is_counted : goal.returns-else-is_counted
returns-else-is_counted c =
    let a = c.args in
    let s = sym c.is_stored.ensures ∙ c.if-not-is_stored.false in
    let m = sym c.is_named.ensures ∙ c.if-is_named.false in
    c.if-is_counted.false
    ∙ parts_uncounted a.page.now a.n a.t a.o s m (sym (rw c.from-children.ensures at c.is_counted.ensures) ∙ c.if-is_counted.false)
