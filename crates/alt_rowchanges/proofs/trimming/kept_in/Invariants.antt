-- What is trimmed of those so far, and what is made of the others.
use Rattle.std.proofs.Common.{◌≡◌, drop, map}
use Rattle.alt_changes.specs.ChangeRows.{change_in}
use Rattle.alt_machine.specs.Trimming.{kept, trimmed_at}
use Rattle.alt_rowchanges.proofs.trimming.kept_in.Given as goal

abbrev pub invariant-loop-i : goal.invariant-loop-i
invariant-loop-i l = record {
  trimmed : trimmed_at l.moment l.before (map change_in l.changes)
      ≡ trimmed_at l.moment l.last (map change_in (drop l.i l.changes));
  stays : kept l.moment (map change_in l.changes)
      ≡ kept l.moment (map change_in (drop l.i l.changes));
}
