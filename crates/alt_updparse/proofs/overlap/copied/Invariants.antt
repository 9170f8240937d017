use Rattle.std.proofs.Common.{◌≡◌, ◌++◌, drop}
use Rattle.alt_updparse.proofs.overlap.copied.Given as goal

abbrev pub invariant-loop-part : goal.invariant-loop-part
invariant-loop-part l = l.path ++ drop l.part-index l.parts ≡ l.parts
