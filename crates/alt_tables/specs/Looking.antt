-- What a call that only reads leaves, and when and how it fails.
use Rattle.std.specs.Prelude.{◌↔◌, IfErr, IsErrOf, Result}
use Rattle.alt_base.specs.Counts.{Rose}
use Rattle.alt_disk.specs.Disk.{DiskState}
use Rattle.alt_machine.specs.State.{State}
use Rattle.alt_rowchanges.specs.Faults.{IsFindFault, TableFaultIsUnspent}
use Rattle.alt_rowchanges.specs.declared.faults.TableFault.{TableFault}
use Rattle.alt_rowchanges.specs.declared.faults.TableFault.TheVariants.{Failed}
use Rattle.alt_tables.specs.Stands.{KeepsCatalog, Reads, Stands}
use Rattle.alt_tables.specs.declared.tables.Tables.{Tables}

-- The call only reads: the tables stand for each state that they stood for and for no other, with their catalog, and where the disk tells
-- its contents every file stays.
pub record OnlyReads (old new : DiskState) (before after : Tables) : Type 0 where
  pub stays : (s : State) → Stands old before s ↔ Stands new after s
  pub catalog : KeepsCatalog before after
  pub disk : Reads old new

-- Where it fails, that is for want of no number and no family; of tables that stood for a state it tells of no damage; and Failed comes
-- only where the faults rose.
pub record FailsReading {A : Type 0} (old new : DiskState) (before : Tables)
    (result : Result A TableFault) : Type 0 where
  pub unspent : IfErr result TableFaultIsUnspent
  pub fault : (s : State) → Stands old before s → IfErr result IsFindFault
  pub cause : IsErrOf result Failed → Rose old.faults new.faults
