-- No fault so far: what is left has that of the whole.
use Rattle.std.proofs.Common.{◌≡◌}
use Rattle.serde_json.specs.View.{members_view}
use Rattle.alt_legacy.specs.Faults.{each_fault}
use Rattle.alt_legacy.proofs.fits.each_entry_fits.Given as goal

abbrev pub invariant-loop-entry : goal.invariant-loop-entry
invariant-loop-entry l =
    each_fault (members_view l.members.entries) ≡ each_fault (members_view l.entry-iterator)
