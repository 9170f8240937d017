-- What the faults of the engine tell, and faults of the disk and of sources of rows as those of the engine.
use Rattle.alt_cells.specs.declared.source.SourceFault.{SourceFault}
use Rattle.alt_cells.specs.declared.source.SourceFault.TheVariants as source
use Rattle.alt_disk.specs.declared.disk.DiskFault.{DiskFault}
use Rattle.alt_disk.specs.declared.disk.DiskFault.TheVariants as disk_fault
use Rattle.alt_faults.specs.Faults.{Fault, failed, no_memory, spent, damaged, bad_bytes}
use Rattle.alt_drafts.specs.declared.fault.EngineFault.{EngineFault}
use Rattle.alt_drafts.specs.declared.fault.EngineFault.TheVariants.{Spent, Damaged, Failed, NoMemory}

-- What a fault of a call on the engine in hand tells.
abbrev pub told_by_engine : EngineFault → Fault
told_by_engine (Spent number) = spent number
told_by_engine (Damaged file at) = damaged (bad_bytes file at)
told_by_engine Failed = failed
told_by_engine NoMemory = no_memory

-- The fault of a disk, as one of the engine.
abbrev pub of_disk : DiskFault → EngineFault
of_disk disk_fault.Failed = Failed
of_disk disk_fault.NoMemory = NoMemory

-- The fault of a source of rows, as one of the engine.
abbrev pub of_source : SourceFault → EngineFault
of_source (source.Damaged file at) = Damaged file at
of_source source.Failed = Failed
of_source source.NoMemory = NoMemory
