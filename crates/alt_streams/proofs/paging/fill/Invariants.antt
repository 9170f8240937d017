-- The changes that were read and those from the page's next number on are the changes from the number on where it began.
use Rattle.std.proofs.Common.{◌≡◌, ℕ, Some, []}
use Rattle.std.specs.FinMap as map
use Rattle.alt_machine.specs.Ops.GetRecords.{changes_from}
use Rattle.alt_machine.specs.State.{State, Table}
use Rattle.alt_schema.specs.declared.schema.View.{View}
use Rattle.alt_streams.specs.private.Paged.{PageHasRecords}
use Rattle.alt_streams.proofs.Pieces.{IsRead}
use Rattle.alt_request.specs.TablesLooking.{OnlyReads}
use Rattle.alt_request.specs.TablesStands.{Stands}
use Rattle.alt_streams.proofs.paging.fill.Given as goal

abbrev pub invariant-pieces : goal.invariant-pieces
invariant-pieces g l = record {
  read : (s : State) (t : Table) (shows : View) (most from : ℕ)
      → Stands (g.D.Disk.state l.fn.disk) l.fn.tables s → map.get s.tables l.table ≡ Some t
      → t.description.view ≡ Some shows → PageHasRecords t.description shows most from l.fn.page []
      → IsRead t.description shows most from t (changes_from l.fn.page.next t.changes) l.page;
  only : OnlyReads (g.D.Disk.state l.fn.disk) (g.D.Disk.state l.disk) l.fn.tables l.tables;
}
