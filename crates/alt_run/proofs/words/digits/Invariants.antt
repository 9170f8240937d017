use Rattle.std.proofs.Common.{◌≡◌, ◌<◌, ◌^◌, drop}
use Rattle.alt_run.specs.Words.{digits_from}
use Rattle.alt_run.proofs.Numbers.{capped}
use Rattle.alt_run.proofs.words.digits.Given as goal

abbrev pub invariant-loop-digit : goal.invariant-loop-digit
invariant-loop-digit l = (capped (digits_from l.number (drop l.digit-index l.word))
    ≡ capped (digits_from 0 l.word)) × (l.number < 2 ^ 64)
