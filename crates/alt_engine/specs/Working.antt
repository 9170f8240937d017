-- What work between requests does: flushes, and merges.
use Rattle.std.specs.Prelude.{◌≡◌, ◌≢◌, ◌⊎◌, ◌<◌, ◌≤◌, ◌+◌, ℕ, List, [], ◌∷◌, drop, length, Some, None, false}
use Rattle.std.specs.FinMap.{empty, entries}
use Rattle.alt_cells.specs.Walks.{RowList, RowMap}
use Rattle.alt_disk.specs.Disk.{DiskState}
use Rattle.alt_layout.specs.Families.{files_of}
use Rattle.alt_layout.specs.Files.{Image}
use Rattle.alt_layout.specs.Fresh.{versions_file}
use Rattle.alt_manifest.specs.Versions.{HasVersion, IsIn}
use Rattle.alt_manifest.specs.declared.version.Version.{Version}
use Rattle.alt_families.specs.Families.{rows_in}
use Rattle.alt_rowfile.specs.Format.{IsRowFile}
use Rattle.alt_rowfile.specs.Summaries.{any_tombstone}
use Rattle.alt_merging.specs.HandDrafting.{IsSpentFor, EngineFaultIsOutside}
use Rattle.alt_merging.specs.HandInHand.{family_of}
use Rattle.alt_merging.specs.HandMerging.{HasMany, IsFirstMany, files_at}
use Rattle.alt_merging.specs.HandWorking.{AreAllFlushed, HasEntries, IsAllFor, IsCalm, IsDueFor, IsFirstFull, IsOneFlushed, most_entries}
use Rattle.alt_merging.specs.HandDeclaredEngineFault.{EngineFault}
use Rattle.alt_merging.specs.HandDeclaredHand.{Hand}
use Rattle.alt_merging.specs.Merged.{AreMerged}
use Rattle.alt_merging.specs.Mergings.{GivesWay, MergingStands, family_of_merging as merged_family, file_of_merging, taken_of}
use Rattle.alt_merging.specs.declared.merging.Merging.{Merging}
use Rattle.alt_engine.specs.InHand.{hand_of, limits_of_engine, merge_of, next_file_of_engine}
use Rattle.alt_engine.specs.declared.engine.Engine.{Engine}
use Rattle.alt_engine.specs.declared.work.Task.{Task}
use Rattle.alt_engine.specs.declared.work.Task.TheVariants.{Step, FlushAll, MergeAll}

-- ---- A merge under way.

-- This one is under way, of a live family. One of any other is given up.
abbrev pub MergingIsUnderWay : List ℕ → Engine → Merging → Type 0
MergingIsUnderWay live e j = (merge_of e ≡ Some j) × IsIn live (merged_family j)

-- No such merge is under way.
abbrev pub IsFree : List ℕ → Engine → Type 0
IsFree live e = (j : Merging) → MergingIsUnderWay live e j → ⊥

-- Nor is one of a family that isn't live, so that none is given up.
abbrev pub KeepsMerge : List ℕ → Engine → Type 0
KeepsMerge live e = (j : Merging) → merge_of e ≡ Some j → IsIn live (merged_family j)

-- What becomes of the merge under way before a task: it stays and nothing is done, or it is given up. Private contracts alone cite these words.
pub record WasKept (a b : DiskState) (live : List ℕ) (old new : Engine) : Type 0 where
  pub keeps : KeepsMerge live old
  pub disk : b ≡ a
  pub engine : new ≡ old

pub record WasGivenUp (live : List ℕ) (old new : Engine) : Type 0 where
  pub job : Merging
  pub was : merge_of old ≡ Some job
  pub dead : IsIn live (merged_family job) → ⊥
  pub none : merge_of new ≡ None
  pub few : old.many ≡ new.many

-- No file below the next one is there that wasn't, but for that of the merge under way.
abbrev pub MakesNoOther : DiskState → DiskState → Engine → Type 0
MakesNoOther a b old = (f : ℕ) → ((j : Merging) → merge_of old ≡ Some j → f ≢ file_of_merging j)
    → f < next_file_of_engine old → a.file f ≡ None → b.file f ≡ None

-- ---- What applies.

-- The files of each live family are merged: there is one at most, without tombstones.
abbrev pub AllMerged : DiskState → List ℕ → Hand → Type 0
AllMerged s live e = (family : ℕ) → IsIn live family → AreMerged s (files_at e family)

-- No live family has so many files that a step merges them.
abbrev pub NoneMany : List ℕ → Engine → Type 0
NoneMany live e = (family : ℕ) → IsIn live family → HasMany (hand_of e) family → ⊥

-- No flush applies to a step: the log is short, and no live family is full.
abbrev pub NeedsNoFlush : Image → List ℕ → Engine → Type 0
NeedsNoFlush files live e =
    ((n : ℕ) → HasEntries files n → n < most_entries (limits_of_engine e).flush) × IsCalm live (hand_of e)

-- Nothing applies. For a step, moreover, no merge is under way and no live family has many files; for a flush of all no family has rows in memory, and
-- the log no entry; for merges of all no merge is under way, and the files of each live family are merged.
abbrev pub IsIdle : Task → DiskState → List ℕ → Engine → Type 0
IsIdle Step s live e = NeedsNoFlush s.file live e × (IsFree live e × NoneMany live e)
IsIdle FlushAll s live e = ((n : ℕ) → HasEntries s.file n → n ≡ 0)
    × ((family : ℕ) → rows_in (family_of (hand_of e) family) ≡ empty)
IsIdle MergeAll s live e = IsFree live e × AllMerged s live (hand_of e)

-- ---- What goes on.

-- A merge of all files of the lowest live family with many files has begun: it takes one number of a file.
pub record BeginsMerge (live : List ℕ) (old new : Engine) : Type 0 where
  pub free : IsFree live old
  pub family : ℕ
  pub first : IsFirstMany live (hand_of old) family
  pub job : Merging
  pub is : merge_of new ≡ Some job
  pub of : merged_family job ≡ family
  pub all : taken_of job ≡ length (files_at (hand_of old) family)
  pub next_file : next_file_of_engine new ≡ next_file_of_engine old + 1

-- A merge has taken 256 rows more, and more are left. It takes no number of a file, nor does its end.
pub record Furthered (a b : DiskState) (old new : Engine) (job : Merging) : Type 0 where
  pub after : Merging
  pub is : merge_of new ≡ Some after
  pub further : (left : RowList) → MergingStands a (hand_of old) job left
      → MergingStands b (hand_of new) after (drop 256 left) × (drop 256 left ≡ [] → ⊥)
  pub next_file : next_file_of_engine new ≡ next_file_of_engine old

-- So has the one under way.
abbrev pub FurthersMerge : DiskState → DiskState → List ℕ → Engine → Engine → Type 0
FurthersMerge a b live old new = (job : Merging) × MergingIsUnderWay live old job × Furthered a b old new job

-- A step began a merge, or brought one further.
abbrev pub Went : DiskState → DiskState → List ℕ → Engine → Engine → Type 0
Went a b live old new =
    NeedsNoFlush a.file live old × (BeginsMerge live old new ⊎ FurthersMerge a b live old new)

-- ---- What is done.

-- A merge had no rows left after 256 more: what was made of its files stands in their place.
pub record MergeEnded (a b : DiskState) (old new : Engine) (job : Merging) : Type 0 where
  pub none : merge_of new ≡ None
  pub last : (left : RowList) → MergingStands a (hand_of old) job left → drop 256 left ≡ []
  pub gives : GivesWay b (hand_of old) (hand_of new) (merged_family job) (taken_of job)
  pub next_file : next_file_of_engine new ≡ next_file_of_engine old

-- So had the one under way.
abbrev pub EndsMerge : DiskState → DiskState → List ℕ → Engine → Engine → Type 0
EndsMerge a b live old new = (job : Merging) × MergingIsUnderWay live old job × MergeEnded a b old new job

-- A step flushed all, where the log was long; else the lowest live family that was full; else it ended the merge under way.
abbrev pub DidStep : DiskState → DiskState → List ℕ → Engine → Engine → Type 0
DidStep a b live old new =
    (((n : ℕ) → HasEntries a.file n → most_entries (limits_of_engine old).flush ≤ n)
    × AreAllFlushed live (hand_of old) (hand_of new))
    ⊎ ((((n : ℕ) → HasEntries a.file n → n < most_entries (limits_of_engine old).flush)
    × ((family : ℕ) × IsFirstFull live (hand_of old) family
    × IsOneFlushed live (hand_of old) (hand_of new) family))
    ⊎ (NeedsNoFlush a.file live old × EndsMerge a b live old new))

-- What a task did. After merges of all nothing is left to merge.
abbrev pub Did : Task → DiskState → DiskState → List ℕ → Engine → Engine → Type 0
Did Step a b live old new = DidStep a b live old new
Did FlushAll a b live old new = AreAllFlushed live (hand_of old) (hand_of new)
Did MergeAll a b live old new = IsIdle MergeAll b live new

-- Each live family that the last version names has one row file at most, and that has no tombstone, and so no hidden cell.
abbrev pub IsMergedFile : Image → List ℕ → Type 0
IsMergedFile files [] = Unit {0}
IsMergedFile files (f ∷ []) = (m : RowMap) (bytes : List ℕ) → files f ≡ Some bytes
    → IsRowFile (entries m) bytes → any_tombstone (entries m) ≡ false
IsMergedFile files (f ∷ g ∷ fs) = ⊥

abbrev pub LiveFamiliesAreMerged : List ℕ → Image → Type 0
LiveFamiliesAreMerged live files = (v : Version) → HasVersion v (files versions_file) → (family : ℕ)
    → IsIn live family → IsMergedFile files (files_of v.families family)

-- ---- Faults.

-- A spent number is told only where the files that the task needs go beyond file 2^32 - 1: those of a flush that is due to a step, or one for a merge that
-- it begins; those of a flush of all; and for merges of all one for each live family at most.
abbrev pub IsNeeded : Task → List ℕ → Engine → EngineFault → Type 0
IsNeeded Step live e fault = EngineFaultIsOutside fault ⊎ (IsDueFor live (hand_of e) fault
    ⊎ (IsFree live e × ((family : ℕ) × IsFirstMany live (hand_of e) family)
    × IsSpentFor (next_file_of_engine e + 1) fault))
IsNeeded FlushAll live e fault = IsAllFor live (hand_of e) fault
IsNeeded MergeAll live e fault = IsSpentFor (next_file_of_engine e + length live) fault

-- As many numbers of files as a task takes at most: one for each live family, and one for the log.
abbrev pub most_files_of_task : List ℕ → ℕ
most_files_of_task live = length live + 1
