-- A list that knows of the items from here on, and all that this one knows, knows of all.
use Rattle.std.proofs.Common.{◌≡◌, [], Some}
use Rattle.std.specs.FinMap as map
use Rattle.alt_due.specs.Due.{KeepsKnown}
use Rattle.alt_due.specs.declared.due.Due.{Due}
use Rattle.alt_machine.specs.State.{State, Table}
use Rattle.alt_request.specs.TablesLooking.{OnlyReads}
use Rattle.alt_request.specs.TablesStands.{Stands}
use Rattle.alt_ttl.specs.private.Foresight.{ForeseesRest}
use Rattle.alt_ttl.proofs.survey.survey_table.Given as goal

abbrev pub invariant-pages : goal.invariant-pages
invariant-pages g l = record {
  known : (s : State) (t : Table) → Stands (g.D.Disk.state l.fn.disk) l.fn.tables s
      → map.get s.tables l.name ≡ Some t → (later : Due) → KeepsKnown l.due later
      → ForeseesRest l.name t l.from later → ForeseesRest l.name t [] later;
  keeps : KeepsKnown l.fn.due l.due;
  only : OnlyReads (g.D.Disk.state l.fn.disk) (g.D.Disk.state l.disk) l.fn.tables l.tables;
}
