use Rattle.std.proofs.Common.{ap, [], ◌∷◌, length, arith}
use Rattle.digits.specs.Decimal.{decimal_of}
use Rattle.digits.proofs.Digits.{decimal_1, decimal_2, decimal_3, decimal_4, decimal_5}
use Rattle.digits.proofs.Wrote.{spelled}
use Rattle.digits.proofs.decimal.Goals as goal

pub push-requires : goal.push-requires
push-requires c = omega (arith, ap length (decimal_1 c.args.n (omega arith)))

pub returns-in-0-to-9 : goal.returns-in-0-to-9
returns-in-0-to-9 c =
    spelled _ _ (c.digit.result ∷ []) (decimal_of c.args.n) _ _
    (rw c.digit.ensures (decimal_1 c.args.n (omega arith))) c.push.ensures

pub push-requires-in-10-to-99 : goal.push-requires-in-10-to-99
push-requires-in-10-to-99 c = omega (arith, ap length (decimal_2 c.args.n (omega arith) (omega arith)))

pub returns-in-10-to-99 : goal.returns-in-10-to-99
returns-in-10-to-99 c =
    spelled _ _ (c.digit-in-10-to-99.result ∷ c.digit-in-10-to-99-2.result ∷ []) (decimal_of c.args.n) _ _
    (rw (c.digit-in-10-to-99.ensures, c.digit-in-10-to-99-2.ensures) (decimal_2 c.args.n (omega arith) (omega arith))) c.push-in-10-to-99.ensures

pub push-requires-in-100-to-999 : goal.push-requires-in-100-to-999
push-requires-in-100-to-999 c = omega (arith, ap length (decimal_3 c.args.n (omega arith) (omega arith)))

pub returns-in-100-to-999 : goal.returns-in-100-to-999
returns-in-100-to-999 c =
    spelled _ _ (c.digit-in-100-to-999.result ∷ c.digit-in-100-to-999-2.result ∷ c.digit-in-100-to-999-3.result ∷ []) (decimal_of c.args.n) _ _
    (rw (c.digit-in-100-to-999.ensures, c.digit-in-100-to-999-2.ensures, c.digit-in-100-to-999-3.ensures) (decimal_3 c.args.n (omega arith) (omega arith))) c.push-in-100-to-999.ensures

pub push-requires-in-1000-to-9999 : goal.push-requires-in-1000-to-9999
push-requires-in-1000-to-9999 c = omega (arith, ap length (decimal_4 c.args.n (omega arith) (omega arith)))

pub returns-in-1000-to-9999 : goal.returns-in-1000-to-9999
returns-in-1000-to-9999 c =
    spelled _ _ (c.digit-in-1000-to-9999.result ∷ c.digit-in-1000-to-9999-2.result ∷ c.digit-in-1000-to-9999-3.result ∷ c.digit-in-1000-to-9999-4.result ∷ []) (decimal_of c.args.n) _ _
    (rw (c.digit-in-1000-to-9999.ensures, c.digit-in-1000-to-9999-2.ensures, c.digit-in-1000-to-9999-3.ensures, c.digit-in-1000-to-9999-4.ensures) (decimal_4 c.args.n (omega arith) (omega arith))) c.push-in-1000-to-9999.ensures

pub push-requires-in_default : goal.push-requires-in_default
push-requires-in_default c = omega (arith, ap length (decimal_5 c.args.n (omega arith) (omega arith)))

pub returns-in_default : goal.returns-in_default
returns-in_default c =
    spelled _ _ (c.digit-in_default.result ∷ c.digit-in_default-2.result ∷ c.digit-in_default-3.result ∷ c.digit-in_default-4.result ∷ c.digit-in_default-5.result ∷ []) (decimal_of c.args.n) _ _
    (rw (c.digit-in_default.ensures, c.digit-in_default-2.ensures, c.digit-in_default-3.ensures, c.digit-in_default-4.ensures, c.digit-in_default-5.ensures) (decimal_5 c.args.n (omega arith) (omega arith))) c.push-in_default.ensures
