use Rattle.std.proofs.Common.{Ok}
use Rattle.std.proofs.lemmas.Option.{cond_some}
use mathlib.Core.Path.{sym, ap, ◌∙◌}
use Rattle.names.specs.Table.{name_max}
use Rattle.pages.specs.Bytes.{count_of}
use Rattle.pages.specs.Pad.{padded}
use Rattle.names.specs.Table.{name_at}
use Rattle.names.proofs.Used.{used_below}
use Rattle.pages.proofs.Options.{none_cond}
use Rattle.names.proofs.Calls.{read_broken, read_unused, read_name}
use Rattle.names.proofs.read_name.Goals as goal

pub returns-in_default : goal.returns-in_default
returns-in_default c = read_broken c.args.page.now c.args.k (none_cond _ c.args.page.now c.in_default.ensures)

pub returns-then-not-is_used : goal.returns-then-not-is_used
returns-then-not-is_used c =
    let t = cond_some _ c.args.page.now c.in-Some.names.page.now (sym c.in-Some.ensures) in
    read_unused c.args.page.now c.args.k t.0 c.count.result (c.count.ensures.0 ∙ ap count_of (sym t.1)) (sym c.is_used.ensures ∙ c.if-not-is_used.true)

pub name_of-requires : goal.name_of-requires
name_of-requires c =
    rw (← c.count.ensures.0) (used_below c.count.result c.args.k (sym c.is_used.ensures ∙ c.if-not-is_used.false)).0

pub returns : goal.returns
returns c =
    let t = cond_some _ c.args.page.now c.in-Some.names.page.now (sym c.in-Some.ensures) in
    let name = c.name_of.ensures.0 ∙ ap (λ p. name_at p c.args.k) (sym t.1) in
    ap Ok (c.of-2.ensures ∙ ap (padded name_max) name)
    ∙ read_name c.args.page.now c.args.k t.0 c.count.result (c.count.ensures.0 ∙ ap count_of (sym t.1)) (sym c.is_used.ensures ∙ c.if-not-is_used.false)
