-- A merge of a family's files under way.
use Rattle.std.specs.Prelude.{◌≡◌, ◌∷◌, ℕ, false, true, take, drop}
use Rattle.std.specs.FinMap.{entries}
use Rattle.alt_cells.specs.Walks.{RowList, RowMap}
use Rattle.alt_disk.specs.Disk.{DiskState}
use Rattle.alt_filemerge.specs.FileMerges.{MergeStands, drops, output_of}
use Rattle.alt_rowfile.specs.InHand.{ReadsRows as RowReads}
use Rattle.alt_rowfile.specs.Summaries.{any_tombstone}
use Rattle.alt_rowfile.specs.declared.rowfile.RowFile.{RowFile}
use Rattle.alt_hand.specs.Merging.{IsMerging, files_at}
use Rattle.alt_hand.specs.declared.hand.Hand.{Hand}
use Rattle.alt_merging.specs.declared.merging.Merging.{Merging}

-- The family, how many of its files are merged, from the first one on, and the number of the file that is made.
abbrev pub family_of_merging : Merging → ℕ
family_of_merging j = j.family

abbrev pub taken_of : Merging → ℕ
taken_of j = j.taken

abbrev pub file_of_merging : Merging → ℕ
file_of_merging j = j.file

-- The merge is one of the first files of a family in hand: of their joined rows these are left, and its file has what a compaction without tombstones
-- leaves of the others.
pub record MergingStands (s : DiskState) (e : Hand) (j : Merging) (left : RowList) : Type 0 where
  pub number : ℕ
  pub merging : IsMerging s e j.family j.taken number j.file
  pub output : output_of j.merge ≡ j.file
  pub purges : drops j.merge ≡ true
  pub done : RowList
  pub stands : MergeStands s (take j.taken (files_at e j.family)) j.merge done left

-- The file has no tombstone, and so no cell that one hides.
abbrev pub FileIsPurged : DiskState → RowFile → Type 0
FileIsPurged s file = (m : RowMap) → RowReads s file (entries m) → any_tombstone (entries m) ≡ false

-- One file without tombstones stands in the place of the first of a family's files, and the others behind it.
pub record GivesWay (s : DiskState) (old new : Hand) (family taken : ℕ) : Type 0 where
  pub made : RowFile
  pub files : files_at new family ≡ made ∷ drop taken (files_at old family)
  pub purged : FileIsPurged s made
