-- The families so far, and what is made of the others.
use Rattle.std.proofs.Common.{◌≡◌, ◌++◌, drop}
use Rattle.alt_flush.specs.Drafts.{with_files}
use Rattle.alt_flush.proofs.lists.with_files.Given as goal

abbrev pub invariant-loop-family : goal.invariant-loop-family
invariant-loop-family l =
    l.out ++ with_files (drop l.family-index l.families) ≡ with_files l.families
