-- The files so far.
use Rattle.std.proofs.Common.{◌≡◌, ◌++◌, drop}
use Rattle.alt_flush.proofs.merge.put_rest.Given as goal

abbrev pub invariant-loop-file : goal.invariant-loop-file
invariant-loop-file l = l.files ++ drop l.file-index l.since ≡ l.initial.files ++ l.since
