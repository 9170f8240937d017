use Rattle.std.proofs.Common.{◌≤◌, length}
use Rattle.alt_host.proofs.folder.read_all.Given as goal

abbrev pub invariant-loop : goal.invariant-loop
invariant-loop l = l.done ≤ length l.buf
