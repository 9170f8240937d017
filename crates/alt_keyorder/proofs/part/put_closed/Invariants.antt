use Rattle.std.proofs.Common.{◌≡◌, ◌++◌, length}
use Rattle.alt_base.specs.Prefix.{IsPrefix}
use Rattle.alt_keyorder.specs.KeyBytes.{closed}
use Rattle.alt_keyorder.proofs.part.put_closed.Given as goal

abbrev pub invariant-loop-front : goal.invariant-loop-front
invariant-loop-front l = record {
  same : l.out.items ++ closed l.rest ≡ l.initial.out.items ++ closed l.fn.bytes;
  begins : IsPrefix l.initial.out.items l.out.items;
}

abbrev pub decreases-loop-front : goal.decreases-loop-front
decreases-loop-front l = length l.rest
