-- What follows of engines in hand from their definitions, for those who use them.
use Rattle.std.specs.Prelude.{ℕ, List, Option}
use Rattle.alt_cells.specs.declared.batch.RowChange.{RowChange}
use Rattle.alt_disk.specs.Disk.{DiskState, IsImage}
use Rattle.alt_disk.specs.Runs.{Quiet, Run, Spans}
use Rattle.alt_gatelog.specs.InHand.{file_of_gate_log as log_file, form_of}
use Rattle.alt_gatelog.specs.Log.{BeforeOrAfter}
use Rattle.alt_layout.specs.Layout.{Layout, IsPast}
use Rattle.alt_layout.specs.Entries.{IsEntry}
use Rattle.alt_layout.specs.Files.{IsLayout}
use Rattle.alt_hand.specs.InHand.{HandReadsLayout, HandStandsForLayout, batch_writes, BeforeOrAll, IsWritten}
use Rattle.alt_hand.specs.declared.hand.Hand.{Hand}

-- Each timestamp of an engine's rows is below its next number.
abbrev pub EnginesArePast : Type 0
EnginesArePast = (s : DiskState) (e : Hand) (l : Layout) → HandReadsLayout s e l → IsPast l

-- The files, as they read, have the layout of the engine.
abbrev pub FilesHold : Type 0
FilesHold = (s : DiskState) (e : Hand) (l : Layout) → HandReadsLayout s e l → IsLayout s.file l

-- And so has whatever a stop now leaves.
abbrev pub ImagesHold : Type 0
ImagesHold = (s : DiskState) (e : Hand) (l : Layout) → HandStandsForLayout s e l
    → (image : ℕ → Option (List ℕ)) → IsImage s s.moment image → IsLayout image l

-- It reads as it read while calls leave every file.
abbrev pub ReadsQuiet : Type 0
ReadsQuiet = (a b : DiskState) (e : Hand) (l : Layout) → HandReadsLayout a e l → Quiet a b → HandReadsLayout b e l

-- And stands as it stood.
abbrev pub HandStaysQuiet : Type 0
HandStaysQuiet = (a b : DiskState) (e : Hand) (l : Layout) → HandStandsForLayout a e l → Quiet a b → HandStandsForLayout b e l

-- While batches are added to the last segment as one entry each image has the layout before, or the one with all of them.
abbrev pub WritesImages : Type 0
WritesImages = (a b : DiskState) (e : Hand) (l : Layout) (batches : List (List RowChange))
    (entry : List ℕ) → (stands : HandStandsForLayout a e l)
    → IsEntry (form_of e.log) entry (batch_writes l batches)
    → Run a b (log_file e.log) (BeforeOrAfter (form_of e.log) stands.reads.log.entries entry)
    → Spans a b IsWritten (BeforeOrAll l batches)
