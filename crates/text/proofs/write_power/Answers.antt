use native.Mathlib.Omega.{arith}
use Rattle.digits.proofs.Digits.{decimal_short}
use Rattle.text.proofs.Power.{power_plain, power_more}
use Rattle.text.proofs.write_power.Goals as goal

pub returns-then-n-eq1 : goal.returns-then-n-eq1
returns-then-n-eq1 c =
    let push = c.push-a in
    power_plain c.args.name.now c.args.n c.args.out.now c.args.at _ _ push.ensures c.if-n-eq1.true

pub decimal-requires : goal.decimal-requires
decimal-requires c =
    let push = c.push-a in
    let push2 = c.push-b in
    (omega (arith, c.requires.1), omega (arith, decimal_short c.args.n (omega (arith, c.requires.1)), c.requires.0, c.requires.2, push.ensures.0, push.auto.out, push2.ensures.0, push2.auto.out))

pub returns : goal.returns
returns c =
    let push = c.push-a in
    let if1 = c.if-n-eq1 in
    let push2 = c.push-b in
    let decimal = c.decimal in
    let z = decimal_short c.args.n (omega (arith, c.requires.1)) in
    power_more c.args.name.now c.args.n c.args.out.now c.args.at _ _ push.ensures _ _ _ _ if1.false
    (omega (arith, c.requires.0, c.requires.2)) push2.ensures decimal.ensures
