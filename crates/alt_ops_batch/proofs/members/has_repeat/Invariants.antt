-- A key stands twice where one from here on was seen, or stands twice among those.
use Rattle.std.proofs.Common.{◌≡◌, drop}
use Rattle.alt_machine.specs.Batches.{has_repeat}
use Rattle.alt_ops_batch.proofs.Repeats.{repeats}
use Rattle.alt_ops_batch.proofs.members.has_repeat.Given as goal

abbrev pub invariant-loop-member : goal.invariant-loop-member
invariant-loop-member l = has_repeat l.members
    ≡ repeats l.seen.keys (drop l.member-index l.members)
