-- What a call that gives no answer tells.
use Rattle.alt_faults.specs.Faults as view
use Rattle.alt_faults.specs.Faults.{Fault, failed, no_memory, spent, damaged, bad_bytes, bad_row, IsMemoryRefused, IsOutside}
use Rattle.alt_rowchanges.specs.declared.faults.TableFault.{TableFault}
use Rattle.alt_rowchanges.specs.declared.faults.TableFault.TheVariants.{Spent, Damaged, BadRow, Failed, NoMemory}

-- What each variant tells.
abbrev pub told_by_tables : TableFault → Fault
told_by_tables (Spent number) = spent number
told_by_tables (Damaged file at) = damaged (bad_bytes file at)
told_by_tables (BadRow family key) = damaged (bad_row family key)
told_by_tables Failed = failed
told_by_tables NoMemory = no_memory

-- a fault of a step that asks nothing of the disk and writes nothing: memory was wanting
abbrev pub IsReadFault : TableFault → Type 0
IsReadFault fault = IsMemoryRefused (told_by_tables fault)

-- a fault of a call that reads rows which stand for a state: the device failed, or memory was wanting
abbrev pub IsFindFault : TableFault → Type 0
IsFindFault fault = IsOutside (told_by_tables fault)

-- a fault for which no number or family was wanting
abbrev pub TableFaultIsUnspent : TableFault → Type 0
TableFaultIsUnspent fault = view.IsUnspent (told_by_tables fault)
