use Rattle.std.proofs.Common.{◌≡◌, ◌++◌, take, drop}
use Rattle.alt_decimal.specs.Spelled.{complement}
use Rattle.alt_decimal.proofs.spell.flip.Given as goal

abbrev pub invariant-loop-byte : goal.invariant-loop-byte
invariant-loop-byte l = l.bytes ≡ complement (take l.byte-index l.initial.bytes)
    ++ drop l.byte-index l.initial.bytes
