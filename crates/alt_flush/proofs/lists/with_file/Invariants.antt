-- The families so far, and what is made of the others.
use Rattle.std.proofs.Common.{◌≡◌, ◌++◌, drop}
use Rattle.alt_layout.specs.Flushes.{with_file}
use Rattle.alt_flush.proofs.lists.with_file.Given as goal

abbrev pub invariant-loop-i : goal.invariant-loop-i
invariant-loop-i l =
    l.out ++ with_file l.family l.flushed l.file (drop l.i l.families)
    ≡ with_file l.family l.flushed l.file l.families
