-- What a call of the tables leaves at each of its moments: files that stand for a state.
use Rattle.std.specs.Prelude.{ℕ, List, [], ◌∷◌, Option, IsTrue, ⊤}
use Rattle.alt_disk.specs.Disk.{DiskState, IsImage}
use Rattle.alt_disk.specs.Runs.{Quiet, Spans}
use Rattle.alt_machine.specs.Outcomes.{state_after}
use Rattle.alt_machine.specs.State.{State}
pub use Rattle.alt_rowchanges.specs.OpeningImages.{StandsFor}

-- What a disk holds stands for the state: its files as they read, and whatever a stop now leaves.
pub record StateLasts (disk : DiskState) (s : State) : Type 0 where
  pub reads : StandsFor disk.file s
  pub left : (image : ℕ → Option (List ℕ)) → IsImage disk disk.moment image → StandsFor image s

-- The disk keeps what was synced, and whatever a stop at the moment leaves stands for a state; the states may differ. So is what a finished
-- `init` leaves, and any run of another command, whole or stopped.
pub record ImagesAreWhole (disk : DiskState) (moment : ℕ) : Type 0 where
  pub honest : IsTrue disk.honest
  pub each : (image : ℕ → Option (List ℕ)) → IsImage disk moment image
      → (s : State) × StandsFor image s

-- files that stand for the state, whatever the moment
abbrev pub FilesStandFor : State → ℕ → (ℕ → Option (List ℕ)) → Type 0
FilesStandFor s moment image = StandsFor image s

-- files that stand for the state after the first of these writes, so many of them, whatever the moment
abbrev pub AfterSome : State → List State → ℕ → (ℕ → Option (List ℕ)) → Type 0
AfterSome s atoms moment image = (k : ℕ) × StandsFor image (state_after k s atoms)

-- What a call leaves that makes these writes of a state, or the first of them. Where there are none, it leaves every file, in reads
-- and in what a stop leaves at each moment. Else a stop at any moment, also inside the call, leaves files that stand for the state
-- after some of the writes.
abbrev pub Leaves : DiskState → DiskState → State → List State → Type 0
Leaves old new s [] = Quiet old new
Leaves old new s (t ∷ ts) = Spans old new (λ _. ⊤) (AfterSome s (t ∷ ts))
