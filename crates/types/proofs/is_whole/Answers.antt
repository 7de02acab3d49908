use mathlib.Core.Path.{sym, ◌∙◌}
use Rattle.types.proofs.Form.{depth_asks, whole_headless, whole_cut, whole_partless, whole_rest}
use Rattle.types.proofs.is_whole.Goals as goal

pub returns-then-page-o : goal.returns-then-page-o
returns-then-page-o c =
    whole_headless c.args.page.now c.args.depths.now c.args.j c.args.o c.requires
    c.args.n c.if-page-o.true

pub returns-then-page-end : goal.returns-then-page-end
returns-then-page-end c =
    let entry-size = c.entry_size in
    let a = c.args in
    whole_cut a.page.now a.depths.now a.j a.o c.requires a.n (rw entry-size.ensures.0 at c.if-page-end.true)

pub returns-then-not-has_parts : goal.returns-then-not-has_parts
returns-then-not-has_parts c =
    let entry-size = c.entry_size in
    let if2 = c.if-page-end in
    let has_parts = c.has_parts in
    let a = c.args in
    let l = rw entry-size.ensures.0 at if2.false in
    whole_partless a.page.now a.depths.now a.j a.o c.requires a.n l
    (sym has_parts.ensures ∙ c.if-not-has_parts.true)

pub entry_depth-requires : goal.entry_depth-requires
entry_depth-requires c =
    let entry-size = c.entry_size in
    let if2 = c.if-page-end in
    let has_parts = c.has_parts in
    let a = c.args in
    let l = rw entry-size.ensures.0 at if2.false in
    let p = sym has_parts.ensures ∙ c.if-not-has_parts.false in
    depth_asks a.page.now a.depths.now a.j a.o c.requires a.n p l

pub returns : goal.returns
returns c =
    let entry-size = c.entry_size in
    let if2 = c.if-page-end in
    let has_parts = c.has_parts in
    let if3 = c.if-not-has_parts in
    let a = c.args in
    let l = rw entry-size.ensures.0 at if2.false in
    let p = sym has_parts.ensures ∙ if3.false in
    rw c.entry_depth.ensures.0 (whole_rest a.page.now a.depths.now a.j a.o c.requires a.n l p)
