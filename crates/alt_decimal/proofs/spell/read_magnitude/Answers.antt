use Rattle.std.proofs.Common.{arith}
use Rattle.alt_decimal.proofs.ReadBack.{IsSpelledAt-read}
use Rattle.alt_decimal.proofs.CoefficientPairs.{Ends-below}
use Rattle.alt_decimal.proofs.MagnitudeReads.{every_empty, every_none, every_bad, every_right}
use Rattle.alt_decimal.proofs.spell.read_magnitude.Goals as goal

pub decode-requires-clause-below : goal.decode-requires-clause-below
decode-requires-clause-below c = let e = c.in-Some.ensures in rw e.1 (Ends-below _ _ e.0)

pub returns-in-Some-decode-clause-spelling : goal.returns-in-Some-decode-clause-spelling
returns-in-Some-decode-clause-spelling c =
    IsSpelledAt-read c.args.negative c.args.bytes.now c.in-Some.c c.in-Some.count c.raw.result
    c.in-Some-decode.number c.in-len1-up.len_at_least (λ i. omega (arith, c.type_inv.bytes i))
    c.raw.ensures c.in-Some.ensures c.in-Some-decode.ensures.some

pub returns-in-empty-clause-every : goal.returns-in-empty-clause-every
returns-in-empty-clause-every c = λ m rest size is. absurd
    (every_empty c.args.negative m size c.args.bytes.now rest (omega arith) is)

pub returns-in-Some-decode-clause-every : goal.returns-in-Some-decode-clause-every
returns-in-Some-decode-clause-every c = λ m rest size is.
    every_right c.args.negative m size c.args.bytes.now rest c.in-Some.c c.in-Some.count
    c.raw.result c.in-Some-decode.number c.in-len1-up.len_at_least is
    c.raw.ensures c.in-Some.ensures c.in-Some-decode.ensures.some

pub returns-in-None-decode-clause-every : goal.returns-in-None-decode-clause-every
returns-in-None-decode-clause-every c = λ m rest size is.
    absurd (every_bad c.args.negative m size c.args.bytes.now rest c.in-Some.c c.in-Some.count
    c.in-len1-up.len_at_least is c.in-Some.ensures c.in-None-decode.ensures.none)

pub returns-in-None-clause-every : goal.returns-in-None-clause-every
returns-in-None-clause-every c = λ m rest size is.
    absurd (every_none c.args.negative m size c.args.bytes.now rest c.in-len1-up.len_at_least is
    c.in-None.ensures)
