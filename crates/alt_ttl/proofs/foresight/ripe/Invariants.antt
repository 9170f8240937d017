-- What was found, with what is left behind the last place that was looked at, is all that has expired.
use Rattle.std.proofs.Common.{◌≡◌, ◌≤◌, ◌++◌, length}
use Rattle.alt_due.specs.Due.{IsRipe}
use Rattle.alt_machine.specs.declared.TheConstants.{MOST_EXPIRED}
use Rattle.alt_machine.specs.Expiry.{all_expired}
use Rattle.alt_machine.specs.State.{State}
use Rattle.alt_request.specs.TablesForeseen.{Foresees}
use Rattle.alt_request.specs.TablesLooking.{OnlyReads}
use Rattle.alt_request.specs.TablesStands.{Stands, catalog_of}
use Rattle.alt_ttl.specs.private.Searched.{StandingTablesAreThere}
use Rattle.alt_ttl.proofs.LeftBehind.{left_behind}
use Rattle.alt_ttl.proofs.foresight.ripe.Given as goal

abbrev pub invariant-places : goal.invariant-places
invariant-places g l = record {
  left : (s : State) → Stands (g.D.Disk.state l.fn.disk) l.fn.tables s → Foresees s.tables l.fn.due
      → l.out.items ++ left_behind l.after (all_expired s l.moment) ≡ all_expired s l.moment;
  known : (s : State) → Stands (g.D.Disk.state l.fn.disk) l.fn.tables s → Foresees s.tables l.fn.due
      → Foresees s.tables l.due;
  few : length l.out.items ≤ MOST_EXPIRED;
  named : StandingTablesAreThere (catalog_of l.fn.tables) l.out.items;
  ripe : IsRipe l.moment l.due;
  only : OnlyReads (g.D.Disk.state l.fn.disk) (g.D.Disk.state l.disk) l.fn.tables l.tables;
}
