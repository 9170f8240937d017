-- What the rest of the key makes of the hash so far.
use Rattle.std.proofs.Common.{◌≡◌, ◌*◌, ◌%◌, ◌^◌, drop}
use Rattle.std.specs.Int.Bits.{bit_xor}
use Rattle.std.specs.List.{fold}
use Rattle.alt_filter.specs.Filters.{fnv}
use Rattle.alt_filter.proofs.hash.fnv.Given as goal

abbrev pub invariant-loop-byte : goal.invariant-loop-byte
invariant-loop-byte l =
    fold (λ hash byte. bit_xor hash byte * 1099511628211 % 2 ^ 64) l.hash (drop l.byte-index l.key)
    ≡ fnv l.key
