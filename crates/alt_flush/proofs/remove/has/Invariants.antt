-- It is among all where it is among those to come, and only there.
use Rattle.std.proofs.Common.{drop}
use Rattle.alt_manifest.specs.Versions.{IsIn}
use Rattle.alt_flush.proofs.remove.has.Given as goal

abbrev pub invariant-loop-n : goal.invariant-loop-n
invariant-loop-n l = record {
  all : IsIn (drop l.n-index l.numbers) l.number → IsIn l.numbers l.number;
  rest : IsIn l.numbers l.number → IsIn (drop l.n-index l.numbers) l.number;
}
