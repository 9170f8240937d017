-- What was found, with what the places from here on have, is all there is to find.
use Rattle.std.proofs.Common.{◌≡◌, ◌≤◌, ◌++◌, Some, take, length}
use Rattle.std.specs.FinMap as map
use Rattle.alt_machine.specs.declared.TheConstants.{MOST_EXPIRED}
use Rattle.alt_machine.specs.Expiry.{expired_in}
use Rattle.alt_machine.specs.State.{State, Table}
use Rattle.alt_request.specs.TablesLooking.{OnlyReads}
use Rattle.alt_request.specs.TablesStands.{Stands, catalog_of}
use Rattle.alt_ttl.specs.private.Searched.{StandingTablesAreThere, left_in}
use Rattle.alt_ttl.proofs.search.search_table.Given as goal

abbrev pub invariant-pages : goal.invariant-pages
invariant-pages g l = record {
  left : (s : State) (t : Table) → Stands (g.D.Disk.state l.fn.disk) l.fn.tables s
      → map.get s.tables l.name ≡ Some t → left_in l.name t l.moment l.out.items l.from
      ≡ take MOST_EXPIRED (l.fn.out.items ++ expired_in l.moment l.name t);
  few : length l.out.items ≤ MOST_EXPIRED;
  named : StandingTablesAreThere (catalog_of l.fn.tables) l.out.items;
  only : OnlyReads (g.D.Disk.state l.fn.disk) (g.D.Disk.state l.disk) l.fn.tables l.tables;
}
