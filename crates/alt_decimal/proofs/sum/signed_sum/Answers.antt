use Rattle.std.proofs.Common.{arith}
use Rattle.alt_decimal.proofs.Signs.{scaled_same, scaled_unlike, scaled_unlike_second}
use Rattle.alt_decimal.proofs.sum.signed_sum.Goals as goal

pub returns-in-Some : goal.returns-in-Some
returns-in-Some c = λ p. scaled_same c.args.a_negative c.args.b_negative c.args.a c.args.b
    c.in-Some.sum p c.if-a_negative-b_negative.true c.in-Some.ensures.1

pub returns-then-b-a : goal.returns-then-b-a
returns-then-b-a c = λ p. scaled_unlike c.args.a_negative c.args.b_negative c.args.a c.args.b p
    c.if-a_negative-b_negative.false c.if-b-a.true

pub returns-else-b-a : goal.returns-else-b-a
returns-else-b-a c = λ p. scaled_unlike_second c.args.a_negative c.args.b_negative c.args.a c.args.b
    p c.if-a_negative-b_negative.false (omega arith)
