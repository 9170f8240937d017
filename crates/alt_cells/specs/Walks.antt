-- Walks over rows: where one stands, and what it gives next.
use Rattle.std.specs.Prelude.{◌≡◌, ℕ, Bool, true, false, IsTrue, List, [], ◌∷◌, Option, Some, None, Result, Ok, Err, reverse}
use Rattle.std.specs.declared.cmp.Ordering.{Ordering}
use Rattle.std.specs.declared.ops.Bound.{Bound}
use Rattle.std.specs.declared.ops.Bound.TheVariants.{Included, Excluded, Unbounded}
use Rattle.std.specs.Ordering.{flip_args}
use Rattle.std.specs.BTreeMap.Range.{entries_between}
use Rattle.std.specs.FinMap.{FinMap, entries}
use Rattle.alt_base.specs.Counts.{Rose}
use Rattle.alt_disk.specs.Disk.{DiskState, Goes}
use Rattle.alt_disk.specs.Runs.{Quiet}
use Rattle.alt_cells.specs.declared.source.SourceFault.{SourceFault}
use Rattle.alt_cells.specs.declared.source.SourceFault.TheVariants.{Damaged, Failed, NoMemory}
use Rattle.alt_cells.specs.Keys.{key_cmp}
use Rattle.alt_cells.specs.declared.row.RowCells.{RowCells}

-- the rows of a source, by key
abbrev pub RowMap : Type 0
RowMap = FinMap key_cmp RowCells

-- rows in the order of a walk
abbrev pub RowList : Type 0
RowList = List (List ℕ × RowCells)

-- the order in which a walk goes: rising where it goes forward
abbrev pub walk_cmp : Bool → List ℕ → List ℕ → Ordering
walk_cmp true = key_cmp
walk_cmp false = flip_args key_cmp

-- forward from a place are the keys at or above it, backward those below it; with no place all
abbrev pub first_bound : Bool → Option (List ℕ) → Bound (List ℕ)
first_bound true (Some from) = Included from
first_bound true None = Unbounded
first_bound false from = Unbounded

-- and the bound on the other side
abbrev pub last_bound : Bool → Option (List ℕ) → Bound (List ℕ)
last_bound false (Some from) = Excluded from
last_bound false None = Unbounded
last_bound true from = Unbounded

-- a list as it is, or the other way round
abbrev pub turned : {A : Type 0} → Bool → List A → List A
turned true xs = xs
turned false xs = reverse xs

-- the rows that a walk gives after it sought a place
abbrev pub rows_from : RowMap → Option (List ℕ) → Bool → RowList
rows_from rows from forward =
    turned forward
    (entries_between key_cmp (first_bound forward from) (last_bound forward from)
    (entries rows))

-- what `next` answers where these rows are left, and that afterwards the others are
abbrev pub Gives : (RowList → Type 0) → RowList → Option (List ℕ × RowCells) → Type 0
-- at the end it stays at the end
Gives After [] None = After []
Gives After [] (Some row) = ⊥
Gives After (row ∷ rows) None = ⊥
Gives After (row ∷ rows) (Some given) = (given ≡ row) × After rows

-- why a call may fail: the file that isn't right is one of those that are read
abbrev pub HasCause : (ℕ → Bool) → DiskState → DiskState → SourceFault → Type 0
HasCause reads old new (Damaged f at) = IsTrue (reads f)
HasCause reads old new Failed = Rose old.faults new.faults
HasCause reads old new NoMemory = Unit {0}

-- a fault that says that a file isn't right
abbrev pub IsDamaged : SourceFault → Type 0
IsDamaged (Damaged f at) = Unit {0}
IsDamaged Failed = ⊥
IsDamaged NoMemory = ⊥

-- the files that are read stay as they read
abbrev pub SameFiles : (ℕ → Bool) → DiskState → DiskState → Type 0
SameFiles reads old new = (f : ℕ) → IsTrue (reads f) → new.file f ≡ old.file f

-- of the files that a writer writes nothing is promised on the way
abbrev pub Anything : ℕ → (ℕ → Option (List ℕ)) → Type 0
Anything t image = Unit {0}

-- what a call on a source keeps: its rows, the files that it reads, and all files of the disk
pub record KeepsSource {S M : Type 0} (Holds : DiskState → S → M → Type 0) (reads_of : S → ℕ → Bool)
    (old new : DiskState) (before after : S) : Type 0 where
  pub holds : IsTrue old.tells → (rows : M) → Holds old before rows → Holds new after rows
  pub reads : reads_of after ≡ reads_of before
  pub goes : Goes old new
  pub quiet : IsTrue old.tells → Quiet old new

-- an answer other than Failed
abbrev pub answered_by : {A : Type 0} → Result A SourceFault → Bool
answered_by (Ok given) = true
answered_by (Err (Damaged f at)) = true
answered_by (Err Failed) = false
answered_by (Err NoMemory) = true

-- why a call failed: never by damage where the disk tells its contents and the source holds rows
pub record Fails {S M : Type 0} (Holds : DiskState → S → M → Type 0) (reads_of : S → ℕ → Bool)
    (old new : DiskState) (before : S) (fault : SourceFault) : Type 0 where
  pub cause : HasCause (reads_of before) old new fault
  pub sound : IsTrue old.tells → (rows : M) → Holds old before rows → IsDamaged fault → ⊥
