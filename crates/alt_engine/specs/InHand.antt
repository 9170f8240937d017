-- An engine in hand: the rows over files, and a merge of files that is under way.
use Rattle.std.specs.Prelude.{◌≡◌, ℕ, false, Option, Some, None}
use Rattle.alt_cells.specs.Walks.{RowList}
use Rattle.alt_disk.specs.Disk.{DiskState}
use Rattle.alt_layout.specs.Layout.{Layout}
use Rattle.alt_gatelog.specs.declared.form.Form.{Form}
use Rattle.alt_merging.specs.HandInHand.{last_form_of as hand_form, limits_of as hand_limits, next_file_of as hand_file, next_of as hand_number, work_file_of, HandReadsLayout as HandReads, HandStandsForLayout as HandStands}
use Rattle.alt_merging.specs.HandMerging.{HasMany}
use Rattle.alt_merging.specs.HandDeclaredHand.{Hand}
use Rattle.alt_merging.specs.HandDeclaredLimits.{Limits}
use Rattle.alt_merging.specs.Mergings.{MergingStands}
use Rattle.alt_merging.specs.declared.merging.Merging.{Merging}
use Rattle.alt_engine.specs.declared.engine.Engine.{Engine}

-- The rows over files.
abbrev pub hand_of : Engine → Hand
hand_of e = e.hand

-- The merge under way, if there is one.
abbrev pub merge_of : Engine → Option Merging
merge_of e = e.merging

-- The number of the engine's next write.
abbrev pub next_write_of_engine : Engine → ℕ
next_write_of_engine e = hand_number e.hand

-- The number of the next file that it makes.
abbrev pub next_file_of_engine : Engine → ℕ
next_file_of_engine e = hand_file e.hand

-- The form of its last segment.
abbrev pub last_form_of_engine : Engine → Form
last_form_of_engine e = hand_form e.hand

-- From how many bytes on a family is flushed, and from how many files on merged.
abbrev pub limits_of_engine : Engine → Limits
limits_of_engine e = hand_limits e.hand

-- What work goes by: these limits, and the number of the first file that it makes, which is one more than the next while a write makes a segment
-- before.
pub record Bounds : Type 0 where
  pub limits : Limits
  pub file : ℕ

-- Those of the engine.
abbrev pub bounds_of_engine : Engine → Bounds
bounds_of_engine e = record { limits = limits_of_engine e; file = work_file_of e.hand }

-- The engine is that of this layout, as the disk reads.
abbrev pub ReadsLayout : DiskState → Engine → Layout → Type 0
ReadsLayout s e l = HandReads s e.hand l

-- A merge that is under way stands: some rows are left to it.
abbrev pub IsGoing : DiskState → Hand → Option Merging → Type 0
IsGoing s e None = Unit {0}
IsGoing s e (Some j) = (left : RowList) × MergingStands s e j left

-- Where it says that no family has many files, none has.
abbrev pub IsFew : Engine → Type 0
IsFew e = e.many ≡ false → (family : ℕ) → HasMany e.hand family → ⊥

-- The engine is that of this layout, and a stop now leaves of each of its files what reads give. A merge that is under way stands. Where it says that no
-- family has many files, none has.
pub record StandsForLayout (s : DiskState) (e : Engine) (l : Layout) : Type 0 where
  pub hand : HandStands s e.hand l
  pub merging : IsGoing s e.hand e.merging
  pub few : IsFew e
