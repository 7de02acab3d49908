use Rattle.text.proofs.Power.{separator_none, separator_lead, separator_next}
use Rattle.text.proofs.write_separator.Goals as goal

pub returns-then-above : goal.returns-then-above
returns-then-above c =
    λ text e. separator_none c.args.above c.args.out.now c.args.start c.args.at text e c.if-at-start.true c.if-above.true

pub returns-then-at-start : goal.returns-then-at-start
returns-then-at-start c =
    let if1 = c.if-at-start in
    let if2 = c.if-above in
    let push = c.push in
    λ text e. separator_lead c.args.above c.args.out.now c.args.start c.args.at text e _ _ if1.true if2.false push.ensures

pub returns : goal.returns
returns c =
    let if1 = c.if-at-start in
    let push2 = c.push-2 in
    λ text e. separator_next c.args.above c.args.out.now c.args.start c.args.at text e _ _ if1.false push2.ensures
