-- A merge of a family's oldest files under way, as a draft sees it.
use Rattle.std.specs.Prelude.{◌<◌, ◌≤◌, ◌+◌, ℕ, List, length, take, drop, true}
use Rattle.std.specs.FinMap.{entries}
use Rattle.std.specs.List.{AllByRecursion}
use Rattle.alt_cells.specs.Compacted.{compacted}
use Rattle.alt_disk.specs.Disk.{DiskState}
use Rattle.alt_layout.specs.Families.{IsMapBelow, flushed_of}
use Rattle.alt_layout.specs.Layout.{RowMap}
use Rattle.alt_layout.specs.Merges.{IsMapFrom}
use Rattle.alt_manifest.specs.Versions.{IsIn, files_named}
use Rattle.alt_manifest.specs.declared.version.Version.{Version}
use Rattle.alt_merge.specs.Merges.{Each2, all_rows}
use Rattle.alt_rowfile.specs.InHand.{file_of as row_file, ReadsRows as RowReads, StandsForRows as RowFileStands}
use Rattle.alt_rowfile.specs.declared.rowfile.RowFile.{RowFile}

-- The row file lies in an earlier file, and each timestamp in it is below the number.
pub record IsOlder (s : DiskState) (number file : ℕ) (f : RowFile) : Type 0 where
  pub before : row_file f < file
  pub rows : (m : RowMap) → RowReads s f (entries m) → IsMapBelow number m

-- It lies in a later file, and each timestamp in it is that number or a later one.
pub record IsLater (s : DiskState) (number file : ℕ) (f : RowFile) : Type 0 where
  pub behind : file < row_file f
  pub rows : (m : RowMap) → RowReads s f (entries m) → IsMapFrom number m

-- A merge of the first of these files of a family into a file of this number, which began when this write was flushed of it: the file is made by then and
-- no version names it, and the family's other files lie behind it and are of later writes.
pub record MayEnd (s : DiskState) (u : Version) (files : List RowFile)
    (family taken number file : ℕ) : Type 0 where
  pub some : 0 < taken
  pub enough : taken ≤ length files
  pub two : 2 ≤ file
  pub below : file < u.next_file
  pub new : IsIn (files_named u) file → ⊥
  pub older : AllByRecursion (IsOlder s (number + 1) file) (take taken files)
  pub later : AllByRecursion (IsLater s (number + 1) file) (drop taken files)
  pub reached : number ≤ flushed_of u.families family

-- The row file stands for what a compaction without tombstones leaves of the rows of these files, joined.
pub record IsMadeOf (s : DiskState) (files : List RowFile) (made : RowFile) : Type 0 where
  pub lists : List RowMap
  pub reads : Each2 (λ f m. RowReads s f (entries m)) files lists
  pub stands : RowFileStands s made (compacted true (entries (all_rows lists)))
