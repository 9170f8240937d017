use Rattle.std.proofs.Common.{◌≡◌, ◌<◌, ◌^◌, drop}
use Rattle.std.specs.Prelude.{option_and_then}
use Rattle.alt_run.specs.Words.{digits_from, small_seed}
use Rattle.alt_run.proofs.words.seed_digits.Given as goal

abbrev pub invariant-loop-digit : goal.invariant-loop-digit
invariant-loop-digit l = (option_and_then small_seed (digits_from l.number (drop l.digit-index l.word))
    ≡ option_and_then small_seed (digits_from 0 l.word)) × (l.number < 2 ^ 64)
