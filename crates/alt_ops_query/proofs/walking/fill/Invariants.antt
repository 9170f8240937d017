-- What was examined and what the range that is left has are the items of the range, what was passed is paid for, and the page goes on.
use Rattle.std.proofs.Common.{◌≡◌, false, Some, []}
use Rattle.std.specs.FinMap as map
use Rattle.alt_machine.specs.State.{State, Table}
use Rattle.alt_machine.specs.Sources.{index_at}
use Rattle.alt_ops_query.proofs.WalkLaws.{IsWalked}
use Rattle.alt_paging.specs.Offered.{WasOffered, has_ended}
use Rattle.alt_paging.specs.declared.ask.PageAsk.{PageAsk}
use Rattle.alt_request.specs.TablesLooking.{OnlyReads}
use Rattle.alt_request.specs.TablesStands.{Stands}
use Rattle.alt_ops_query.proofs.walking.fill.Given as goal

abbrev pub invariant-steps : goal.invariant-steps
invariant-steps g l = record {
  walked : (s : State) (t : Table) (ask : PageAsk) → Stands (g.D.Disk.state l.fn.disk) l.fn.tables s
      → map.get s.tables l.table ≡ Some t → WasOffered l.fn.pager ask []
      → IsWalked (g.D.Disk.state l.fn.disk) (g.D.Disk.state l.disk) l.pager ask t
      (index_at t.description l.index) l.forward l.fn.range l.range;
  only : OnlyReads (g.D.Disk.state l.fn.disk) (g.D.Disk.state l.disk) l.fn.tables l.tables;
  going : has_ended l.pager ≡ false;
}
