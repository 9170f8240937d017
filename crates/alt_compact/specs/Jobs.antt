-- How far a merge has come.
use Rattle.std.specs.Prelude.{◌≡◌, ◌++◌, ℕ, Bool, true, false, IsTrue, List, [], ◌∷◌, Option, Some, None}
use Rattle.std.specs.FinMap.{entries}
use Rattle.alt_disk.specs.Disk.{DiskState, IsTrusted, Goes}
use Rattle.alt_disk.specs.Runs.{Spans}
use Rattle.alt_cells.specs.Compacted.{compacted}
use Rattle.alt_cells.specs.Walks.{RowMap, RowList, Anything}
use Rattle.alt_cells.specs.declared.row.RowCells.{RowCells}
use Rattle.alt_compact.specs.declared.job.Job.{Job}
use Rattle.alt_compact.specs.declared.job.Stepped.{Stepped}
use Rattle.alt_compact.specs.declared.job.Stepped.TheVariants.{More, Done}

-- the key of the last row, the first of which is this one
abbrev pub last_key_from : List ℕ × RowCells → RowList → List ℕ
last_key_from e [] = e.0
last_key_from e (f ∷ es) = last_key_from f es

-- the key of the last of these rows, none where there are none
abbrev pub last_row_key : RowList → Option (List ℕ)
last_row_key [] = None
last_row_key (e ∷ es) = Some (last_key_from e es)

-- it drops tombstones
abbrev pub purges : Job → Bool
purges job = job.purge

-- it goes on behind these rows
abbrev pub HasTaken : Job → RowList → Type 0
HasTaken job taken = job.last ≡ last_row_key taken

-- A merge of a source into a writer: these of the source's rows were taken and these are left, and the writer has exactly the
-- compaction of those that were taken. It writes no file that the source reads.
pub record IsUnderWay {S W : Type 0} (Holds : DiskState → S → RowMap → Type 0)
    (reads : S → ℕ → Bool) (Written : DiskState → W → RowList → Type 0) (writes : W → ℕ → Bool)
    (s : DiskState) (job : Job) (source : S) (into : W) (taken left : RowList) : Type 0 where
  pub rows : RowMap
  pub holds : Holds s source rows
  pub are : entries rows ≡ taken ++ left
  pub at : HasTaken job taken
  pub written : Written s into (compacted job.purge taken)
  pub apart : (f : ℕ) → IsTrue (reads source f) → IsTrue (writes into f) → ⊥

-- the same, and the source gives the rows that are left
pub record TakesRows {S W : Type 0} (Holds : DiskState → S → RowMap → Type 0)
    (reads : S → ℕ → Bool) (Left : DiskState → S → RowList → Type 0)
    (Written : DiskState → W → RowList → Type 0) (writes : W → ℕ → Bool)
    (s : DiskState) (job : Job) (source : S) (into : W) (taken left : RowList) : Type 0 where
  pub under : IsUnderWay Holds reads Written writes s job source into taken left
  pub next : Left s source left

-- what a step says of the rows that are left
abbrev pub StepSays : Stepped → RowList → Type 0
StepSays Done left = left ≡ []
StepSays More left = left ≡ [] → ⊥

-- one row was taken, or none was left
abbrev pub Took : (RowList → RowList → Type 0) → RowList → RowList → Bool → Type 0
Took After taken [] false = After taken []
Took After taken [] true = ⊥
Took After taken (e ∷ left) false = ⊥
Took After taken (e ∷ left) true = After (taken ++ e ∷ []) left

-- what every such call keeps: all files but those that the writer writes, in reads and in what a stop leaves at each moment
pub record MovesOnlyTouched (touched : ℕ → Bool) (old new : DiskState) : Type 0 where
  pub goes : Goes old new
  pub others : IsTrusted old → Spans old new (λ f. IsTrue (touched f)) Anything
