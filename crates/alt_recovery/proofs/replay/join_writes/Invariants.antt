-- The writes so far are joined.
use Rattle.std.proofs.Common.{◌≡◌, take}
use Rattle.alt_writes.specs.Reading.{writes_of}
use Rattle.alt_recovery.specs.Replays.{Replays}
use Rattle.alt_recovery.proofs.replay.join_writes.Given as goal

abbrev pub invariant-loop-write : goal.invariant-loop-write
invariant-loop-write l = record {
  joined : Replays l.fn.replay l.replay (take l.write-index (writes_of l.writes)) 0;
  length : l.replay.length ≡ l.fn.replay.length;
}
