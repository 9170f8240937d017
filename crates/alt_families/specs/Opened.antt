-- The rows of a family, from its files in hand and from memory.
use Rattle.std.specs.Prelude.{◌≡◌, List, Option}
use Rattle.std.specs.FinMap.{entries}
use Rattle.alt_cells.specs.Joined.{joined_map}
use Rattle.alt_cells.specs.Rows.{join_row}
use Rattle.alt_cells.specs.Walks.{IsDamaged}
use Rattle.alt_cells.specs.declared.source.SourceFault.{SourceFault}
use Rattle.alt_disk.specs.Disk.{DiskState}
use Rattle.alt_layout.specs.Layout.{RowMap}
use Rattle.alt_merge.specs.Merges.{Each2, all_rows}
use Rattle.alt_rowfile.specs.InHand.{ReadsRows as RowReads}
use Rattle.alt_rowfile.specs.declared.rowfile.RowFile.{RowFile}
use Rattle.alt_families.specs.Families.{rows_in, files_in}
use Rattle.alt_families.specs.declared.family.Family.{Family}

-- The file in hand reads as the row file of these rows.
abbrev pub IsOpen : DiskState → RowFile → RowMap → Type 0
IsOpen s f m = RowReads s f (entries m)

-- The family's rows are those in memory, joined with those that its files read as.
pub record FamilyReads (s : DiskState) (f : Option Family) (rows : RowMap) : Type 0 where
  pub maps : List RowMap
  pub each : Each2 (IsOpen s) (files_in f) maps
  pub is : rows ≡ joined_map join_row (rows_in f) (all_rows maps)

-- The fault tells of no damage.
abbrev pub SourceFaultIsUndamaged : SourceFault → Type 0
SourceFaultIsUndamaged fault = IsDamaged fault → ⊥
