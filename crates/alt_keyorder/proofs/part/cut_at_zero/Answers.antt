use Rattle.std.proofs.Common.{ap, ◌==◌, arith}
use Rattle.alt_base.proofs.Numbers.{told_zero}
use Rattle.alt_keyorder.proofs.Escaping.{clean_from_tests, clean_as, cut_as}
use Rattle.alt_keyorder.proofs.part.cut_at_zero.Goals as goal

pub returns-in-None : goal.returns-in-None
returns-in-None c = clean_from_tests c.args.bytes.now
    (λ k lt is. c.in-None.ensures k (omega arith) lt (ap (λ b. b == 0) is))

pub returns-in-Some : goal.returns-in-Some
returns-in-Some c =
    let first = c.in-Some.ensures in (
      cut_as c.args.bytes.now c.in-Some.i c.split_at.result.0.now c.split_at.result.1.now
          c.split_at-in-Some.result.1.now first.0.high (told_zero _ first.1)
          c.split_at.ensures.front c.split_at.ensures.back c.split_at-in-Some.ensures.back,
      clean_as c.args.bytes.now c.in-Some.i c.split_at.result.0.now
          (λ k lt is. first.0.before k (omega arith) lt (ap (λ b. b == 0) is)) first.0.high
          c.split_at.ensures.front,
    )
