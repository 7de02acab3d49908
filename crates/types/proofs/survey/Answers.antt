use mathlib.Core.Bool.{true, false}
use mathlib.Core.Path.{sym, ◌∙◌, ap}
use Prim.Native.Nat.{ℕ, ◌+◌}
use native.Mathlib.Omega.{arith}
use borrow.Author.Rules.{rules}
use Rattle.types.proofs.Placing.{size_head}
use Rattle.types.proofs.Form.{depth_asks}
use Rattle.types.proofs.Surveyed.{Looked, survey_short, survey_many, going_start, going_reached, going_placed, going_broken, going_parts, going_in, going_equal, going_next, going_end}
use Rattle.types.proofs.survey.Goals as goal

pub returns-then-page-lt-COUNT_BYTES : goal.returns-then-page-lt-COUNT_BYTES
returns-then-page-lt-COUNT_BYTES c =
    survey_short c.args.page.now c.args.n _ _ c.if-page-lt-COUNT_BYTES.true

pub returns-then-k-gt-ENTRIES : goal.returns-then-k-gt-ENTRIES
returns-then-k-gt-ENTRIES c =
    let if1 = c.if-page-lt-COUNT_BYTES in
    let count = c.count-k in
    survey_many c.args.page.now c.args.n _ _ if1.false count.result count.ensures.0 c.if-k-gt-ENTRIES.true

pub loop-j-init : goal.loop-j-init
loop-j-init c =
    let if1 = c.if-page-lt-COUNT_BYTES in
    let count = c.count-k in
    let if2 = c.if-k-gt-ENTRIES in
    let look : Looked c.args.page.now count.result c.args.tables.now.offsets c.args.tables.now.depths =
    record { two = if1.false; is = count.ensures.0; few = if2.false; room = search rules; size = search rules } in
    going_start look c.args.n _ _ c.new-chains.ensures.0 c.new-chains.ensures.1

pub returns-then-not-is_whole : goal.returns-then-not-is_whole
returns-then-not-is_whole c =
    let loop = c.loop-j in
    let loop-test = c.loop-j-test in
    let is_whole = c.is_whole in
    (going_broken loop.invariant loop-test.true (sym is_whole.ensures ∙ c.if-not-is_whole.true))

pub is_new-requires : goal.is_new-requires
is_new-requires c =
    let loop = c.loop-j in
    let loop-test = c.loop-j-test in
    let is_whole = c.is_whole in
    let if3 = c.if-not-is_whole in
    let w = sym is_whole.ensures ∙ if3.false in
    ((going_reached loop.invariant loop-test.true).few, going_in loop.invariant loop-test.true w, going_placed loop.invariant loop-test.true, loop.invariant.chained)

pub returns-then-not-is_new : goal.returns-then-not-is_new
returns-then-not-is_new c =
    let loop = c.loop-j in
    let loop-test = c.loop-j-test in
    let is_whole = c.is_whole in
    let if3 = c.if-not-is_whole in
    let is_new_lem = c.is_new in
    let w = sym is_whole.ensures ∙ if3.false in
    (going_equal loop.invariant loop-test.true w (sym is_new_lem.ensures.0 ∙ c.if-not-is_new.true))

pub entry_depth-requires : goal.entry_depth-requires
entry_depth-requires c =
    let loop = c.loop-j in
    let loop-test = c.loop-j-test in
    let is_whole = c.is_whole in
    let if3 = c.if-not-is_whole in
    let q = going_parts loop.invariant loop-test.true (sym is_whole.ensures ∙ if3.false) in
    depth_asks c.args.page.now loop.tables.depths loop.j loop.o (going_reached loop.invariant loop-test.true) c.args.n q.1 q.0

pub overflow_cast-tables : goal.overflow_cast-tables
overflow_cast-tables c =
    let loop = c.loop-j in
    let loop-test = c.loop-j-test in
    let is_whole = c.is_whole in
    let if3 = c.if-not-is_whole in
    let entry-depth = c.entry_depth in
    let r = going_reached loop.invariant loop-test.true in
    let q = going_parts loop.invariant loop-test.true (sym is_whole.ensures ∙ if3.false) in
    search (rules, q.2, entry-depth.ensures.0)

pub entry_size-o-requires : goal.entry_size-o-requires
entry_size-o-requires c =
    let loop = c.loop-j in
    let loop-test = c.loop-j-test in
    let is_whole = c.is_whole in
    let if3 = c.if-not-is_whole in
    let q = going_parts loop.invariant loop-test.true (sym is_whole.ensures ∙ if3.false) in
    omega (arith, q.0, size_head c.args.page.now loop.o)

pub overflow_add-o : goal.overflow_add-o
overflow_add-o c =
    let loop = c.loop-j in
    let loop-test = c.loop-j-test in
    let is_whole = c.is_whole in
    let if3 = c.if-not-is_whole in
    let q = going_parts loop.invariant loop-test.true (sym is_whole.ensures ∙ if3.false) in
    search (rules, q.0, c.entry_size-o.ensures.0, c.well_formed.0.0)

pub loop-j-preserved : goal.loop-j-preserved
loop-j-preserved c =
    let loop = c.loop-j in
    let loop-test = c.loop-j-test in
    let is_whole = c.is_whole in
    let if3 = c.if-not-is_whole in
    let is_new_lem = c.is_new in
    let if4 = c.if-not-is_new in
    let entry-depth = c.entry_depth in
    let w = sym is_whole.ensures ∙ if3.false in
    let b = sym is_new_lem.ensures.0 ∙ if4.false in
    (going_next loop.invariant loop-test.true w b entry-depth.result _ entry-depth.ensures.0
    (ap (λ (x : ℕ). loop.o + x) c.entry_size-o.ensures.0) _ _ is_new_lem.ensures.1)

pub returns-then-not-zeros_from : goal.returns-then-not-zeros_from
returns-then-not-zeros_from c =
    going_end c.loop-j.invariant c.loop-j-test.false false (sym c.if-not-zeros_from.true ∙ c.zeros_from.ensures)

pub returns : goal.returns
returns c =
    going_end c.loop-j.invariant c.loop-j-test.false true (sym c.if-not-zeros_from.false ∙ c.zeros_from.ensures)
