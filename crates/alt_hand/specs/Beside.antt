-- What an engine and a merge under way are to calls on a file that isn't the store's.
use Rattle.std.specs.Prelude.{◌≡◌, ◌<◌, ℕ, List}
use Rattle.std.specs.FinMap.{entries}
use Rattle.std.specs.List.{AllByRecursion}
use Rattle.alt_cells.specs.Walks.{Anything}
use Rattle.alt_disk.specs.Disk.{DiskState}
use Rattle.alt_disk.specs.Runs.{Spans}
use Rattle.alt_layout.specs.Files.{IsOf}
use Rattle.alt_layout.specs.Layout.{Layout, RowMap}
use Rattle.alt_layout.specs.Moments.{Has, IsIt}
use Rattle.alt_merge.specs.Merges.{Each2}
use Rattle.alt_rowfile.specs.InHand.{file_of as row_file, ReadsRows as RowReads}
use Rattle.alt_hand.specs.InHand.{HandReadsLayout, HandStandsForLayout, next_file_of}
use Rattle.alt_hand.specs.Merging.{IsMerging, files_at, version_in}
use Rattle.alt_hand.specs.declared.hand.Hand.{Hand}

-- Calls on a file of a number that was taken, and that isn't the store's, leave an engine as it stands; each image on the way has its layout.
abbrev pub StandsBeside : Type 0
StandsBeside = (a b : DiskState) (e : Hand) (l : Layout) (file : ℕ) → HandStandsForLayout a e l
    → file < next_file_of e → (IsOf (version_in e) file → ⊥) → Spans a b (IsIt file) Anything
    → HandStandsForLayout b e l × Spans a b (IsIt file) (Has l)

-- They leave the row files in hand as they read.
abbrev pub FilesBeside : Type 0
FilesBeside = (a b : DiskState) (e : Hand) (l : Layout) (file : ℕ) → HandStandsForLayout a e l
    → (IsOf (version_in e) file → ⊥) → Spans a b (IsIt file) Anything → (family : ℕ)
    → AllByRecursion (λ f. b.file (row_file f) ≡ a.file (row_file f)) (files_at e family)

-- A merge under way stays one where the family's files read as they read.
abbrev pub MergingStays : Type 0
MergingStays = (a b : DiskState) (e : Hand) (family taken number file : ℕ)
    → AllByRecursion (λ f. b.file (row_file f) ≡ a.file (row_file f)) (files_at e family)
    → IsMerging a e family taken number file → IsMerging b e family taken number file

-- The files of a family in hand read as maps of rows.
abbrev pub FilesRead : Type 0
FilesRead = (s : DiskState) (e : Hand) (l : Layout) (family : ℕ) → HandReadsLayout s e l
    → (maps : List RowMap) × Each2 (λ f m. RowReads s f (entries m)) (files_at e family) maps
