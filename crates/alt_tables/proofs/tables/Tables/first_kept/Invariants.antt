-- The changes so far are trimmed, and those behind the last of them tell the rest.
use Rattle.std.specs.FinMap as map
use Rattle.std.proofs.Common.{◌≡◌, Some}
use Rattle.alt_machine.specs.State.{State, Table}
use Rattle.alt_tables.specs.Stands.{KeepsTables, Stands}
use Rattle.alt_tables.proofs.TrimSteps.{WalkedTo}
use Rattle.alt_tables.proofs.tables.Tables.first_kept.Given as goal

abbrev pub invariant-pages : goal.invariant-pages
invariant-pages g l = record {
  keeps : KeepsTables (g.D.Disk.state l.fn.disk) (g.D.Disk.state l.disk) l.fn.self l.self;
  walked : (s : State) (t : Table) → Stands (g.D.Disk.state l.fn.disk) l.fn.self s
      → map.get s.tables l.table ≡ Some t → WalkedTo s t l.moment l.number;
}
