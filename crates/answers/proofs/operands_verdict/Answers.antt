use mathlib.Core.Path.{sym, ◌∙◌}
use Rattle.answers.proofs.Calls.{left_unused, right_unused, left_bad, right_bad, both_pass}
use Rattle.answers.proofs.operands_verdict.Goals as goal

pub returns-then-not-is_used : goal.returns-then-not-is_used
returns-then-not-is_used c =
    let is-used = c.is_used in
    left_unused c.args.store.page.now c.args.n c.args.left c.args.right
    (sym is-used.ensures ∙ c.if-not-is_used.true)

pub returns-then-not-is_used-2 : goal.returns-then-not-is_used-2
returns-then-not-is_used-2 c =
    let is-used = c.is_used in
    let if1 = c.if-not-is_used in
    let is-used2 = c.is_used-2 in
    right_unused c.args.store.page.now c.args.n c.args.left c.args.right
    (sym is-used.ensures ∙ if1.false)
    (sym is-used2.ensures ∙ c.if-not-is_used-2.true)

pub returns-then-not-is_formed : goal.returns-then-not-is_formed
returns-then-not-is_formed c =
    let is-used = c.is_used in
    let if1 = c.if-not-is_used in
    let is-used2 = c.is_used-2 in
    let if2 = c.if-not-is_used-2 in
    let is-formed = c.is_formed in
    left_bad c.args.store.page.now c.args.n c.args.left c.args.right
    (sym is-used.ensures ∙ if1.false)
    (sym is-used2.ensures ∙ if2.false)
    (sym is-formed.ensures ∙ c.if-not-is_formed.true)

pub returns-then-not-is_formed-2 : goal.returns-then-not-is_formed-2
returns-then-not-is_formed-2 c =
    let is-used = c.is_used in
    let if1 = c.if-not-is_used in
    let is-used2 = c.is_used-2 in
    let if2 = c.if-not-is_used-2 in
    let is-formed = c.is_formed in
    let if3 = c.if-not-is_formed in
    let is-formed2 = c.is_formed-2 in
    right_bad c.args.store.page.now c.args.n c.args.left c.args.right
    (sym is-used.ensures ∙ if1.false)
    (sym is-used2.ensures ∙ if2.false)
    (sym is-formed.ensures ∙ if3.false)
    (sym is-formed2.ensures ∙ c.if-not-is_formed-2.true)

pub returns : goal.returns
returns c =
    let is-used = c.is_used in
    let if1 = c.if-not-is_used in
    let is-used2 = c.is_used-2 in
    let if2 = c.if-not-is_used-2 in
    let is-formed = c.is_formed in
    let if3 = c.if-not-is_formed in
    let is-formed2 = c.is_formed-2 in
    both_pass c.args.store.page.now c.args.n c.args.left c.args.right
    (sym is-used.ensures ∙ if1.false)
    (sym is-used2.ensures ∙ if2.false)
    (sym is-formed.ensures ∙ if3.false)
    (sym is-formed2.ensures ∙ c.if-not-is_formed-2.false)
