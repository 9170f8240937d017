use Rattle.std.proofs.Common.{length, ◌≤◌}
use Rattle.alt_host.proofs.talk.Peer.send.Given as goal

abbrev pub invariant-calls : goal.invariant-calls
invariant-calls g l = l.done ≤ length l.bytes
