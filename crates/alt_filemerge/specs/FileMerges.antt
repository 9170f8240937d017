-- A merge of row files that is kept between two calls.
use Rattle.std.specs.Prelude.{◌≡◌, ◌==◌, ◌++◌, ◌||◌, ℕ, Bool, false, List, [], ◌∷◌}
use Rattle.std.specs.FinMap.{entries}
use Rattle.alt_disk.specs.Disk.{DiskState}
use Rattle.alt_cells.specs.Compacted.{compacted}
use Rattle.alt_cells.specs.Walks.{RowMap, RowList, SameFiles}
use Rattle.alt_compact.specs.Jobs.{HasTaken, purges}
use Rattle.alt_merge.specs.Merges.{Each2, all_rows}
use Rattle.alt_rowfile.specs.InHand.{ReadsRows, file_of}
use Rattle.alt_rowfile.specs.Walking.{walk_holds, walk_reads}
use Rattle.alt_rowfile.specs.Writing.{WritesRows, writer_file, writer_writes}
use Rattle.alt_rowfile.specs.declared.rowfile.RowFile.{RowFile}
use Rattle.alt_rowfile.specs.declared.walk.RowFileWalk.{RowFileWalk}
use Rattle.alt_filemerge.specs.declared.filemerge.FileMerge.{FileMerge}

-- each row file in hand reads as these rows
abbrev pub ReadEach : DiskState → List RowFile → List RowMap → Type 0
ReadEach s files lists = Each2 (λ file rows. ReadsRows s file (entries rows)) files lists

-- the number is one of these files
abbrev pub any_file : List RowFile → ℕ → Bool
any_file [] f = false
any_file (file ∷ files) f = (f == file_of file) || any_file files f

-- the number of the file that a merge writes
abbrev pub output_of : FileMerge → ℕ
output_of merge = writer_file merge.writer

-- the number is that file's
abbrev pub is_output : FileMerge → ℕ → Bool
is_output merge = writer_writes merge.writer

-- it drops tombstones
abbrev pub drops : FileMerge → Bool
drops merge = purges merge.job

-- the files that a merge reads and the one that it writes
abbrev pub is_touched : List RowFile → FileMerge → ℕ → Bool
is_touched files merge f = any_file files f || is_output merge f

-- a walk over a row file
pub record IsWalkOf (file : RowFile) (walk : RowFileWalk) : Type 0 where
  pub holds : (s : DiskState) (rows : RowMap) → ReadsRows s file (entries rows)
      → walk_holds s walk rows
  pub reads : (f : ℕ) → walk_reads walk f ≡ (f == file_of file)

-- A merge of these files, joined: these of their rows were taken and these are left, and its file has exactly the compaction of those
-- that were taken. It is none of the files that are read.
pub record MergeStands (s : DiskState) (files : List RowFile) (merge : FileMerge)
    (taken left : RowList) : Type 0 where
  pub lists : List RowMap
  pub reads : ReadEach s files lists
  pub are : entries (all_rows lists) ≡ taken ++ left
  pub at : HasTaken merge.job taken
  pub written : WritesRows s merge.writer (compacted (drops merge) taken)
  pub apart : any_file files (output_of merge) ≡ false

-- it stands as it stood where these files and its own read as they did
abbrev pub StaysApart : Type 0
StaysApart = (a b : DiskState) (files : List RowFile) (merge : FileMerge) (taken left : RowList)
    → SameFiles (is_touched files merge) a b → MergeStands a files merge taken left
    → MergeStands b files merge taken left
