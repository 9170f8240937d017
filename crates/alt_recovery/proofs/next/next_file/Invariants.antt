-- What is left of the list makes of the number so far what all of it makes of the first.
use Rattle.std.proofs.Common.{◌≡◌, drop}
use Rattle.alt_recovery.specs.Others.{next_past}
use Rattle.alt_recovery.proofs.next.next_file.Given as goal

abbrev pub invariant-loop-f : goal.invariant-loop-f
invariant-loop-f l = next_past l.least (drop l.f-index l.files) ≡ next_past l.next l.files
