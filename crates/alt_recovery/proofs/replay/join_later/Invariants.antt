-- The changes so far are joined.
use Rattle.std.proofs.Common.{take}
use Rattle.alt_recovery.specs.Replays.{IsJoinedTo}
use Rattle.alt_recovery.proofs.JoinLaws.{write_with}
use Rattle.alt_recovery.proofs.replay.join_later.Given as goal

abbrev pub invariant-loop-change : goal.invariant-loop-change
invariant-loop-change l = IsJoinedTo l.flushed l.fn.families l.families
    (write_with l.number (take l.change-index l.changes))
