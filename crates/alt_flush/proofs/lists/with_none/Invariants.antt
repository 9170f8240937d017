-- The families so far, and what is made of the others.
use Rattle.std.proofs.Common.{◌≡◌, ◌++◌, drop}
use Rattle.alt_flush.specs.Drafts.{with_none}
use Rattle.alt_flush.proofs.lists.with_none.Given as goal

abbrev pub invariant-loop-i : goal.invariant-loop-i
invariant-loop-i l =
    l.out ++ with_none l.family l.flushed (drop l.i l.families)
    ≡ with_none l.family l.flushed l.families
