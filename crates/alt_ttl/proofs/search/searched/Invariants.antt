-- What was found, with what the tables that are left have, is what has expired.
use Rattle.std.proofs.Common.{◌≡◌, ◌≤◌, ◌++◌, true, take, length}
use Rattle.std.specs.FinMap as map
use Rattle.std.specs.Vec.Iter.{into_iter_items}
use Rattle.alt_machine.specs.declared.TheConstants.{MOST_EXPIRED}
use Rattle.alt_machine.specs.Expiry.{expiring}
use Rattle.alt_machine.specs.State.{State}
use Rattle.alt_request.specs.TablesLooking.{OnlyReads}
use Rattle.alt_request.specs.TablesSeveral.{Every}
use Rattle.alt_request.specs.TablesStands.{Stands, catalog_of}
use Rattle.alt_ttl.specs.private.Searched.{StandingTablesAreThere}
use Rattle.alt_ttl.proofs.Searching.{expired_of}
use Rattle.alt_ttl.proofs.search.searched.Given as goal

abbrev pub invariant-loop-name : goal.invariant-loop-name
invariant-loop-name g l = record {
  left : (s : State) → Stands (g.D.Disk.state l.fn.disk) l.fn.tables s → take MOST_EXPIRED
      (l.out.items ++ expired_of s l.moment (into_iter_items l.name-iterator)) ≡ expiring s l.moment;
  there : Every (λ name. map.contains_key (catalog_of l.fn.tables) name ≡ true)
      (into_iter_items l.name-iterator);
  few : length l.out.items ≤ MOST_EXPIRED;
  named : StandingTablesAreThere (catalog_of l.fn.tables) l.out.items;
  only : OnlyReads (g.D.Disk.state l.fn.disk) (g.D.Disk.state l.disk) l.fn.tables l.tables;
}
