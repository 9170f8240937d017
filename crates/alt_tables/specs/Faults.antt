-- What a call that gives no answer tells, and what it leaves.
use Rattle.std.specs.Prelude.{take, length, ◌≡◌, ◌⊎◌, ◌≤◌, ◌<◌, ◌+◌, ◌-◌, ◌^◌, ℕ, List, Some, None, Result, Ok, Err}
use Rattle.alt_disk.specs.Disk.{DiskState}
use Rattle.alt_faults.specs.Faults.{OnlySpent}
use Rattle.alt_machine.specs.declared.TheConstants.{NUMBERS_END}
use Rattle.alt_machine.specs.Outcomes.{Wants, last_state, state_after}
use Rattle.alt_machine.specs.State.{State}
use Rattle.alt_machine.specs.Wanted.{lack_among}
use Rattle.alt_tables.specs.Images.{StateLasts}
pub use Rattle.alt_rowchanges.specs.Faults.{IsFindFault, IsReadFault, TableFaultIsUnspent, told_by_tables}
use Rattle.alt_rowchanges.specs.declared.faults.TableFault.{TableFault}

-- Below, `now` says for which states the tables stand after a call, `s` is a state for which they stood before it, and `file` is the number of
-- the first file that work made before it.

-- These writes are made: the tables stand for the state after the last of them, and none of them lacked a number or a family.
pub record AreMade (now : State → Type 0) (wants : Wants) (s : State)
    (atoms : List State) : Type 0 where
  pub state : now (last_state s atoms)
  pub enough : lack_among wants s atoms ≡ None

-- so many of these writes, and not all of them where there are any
abbrev pub AreSome : ℕ → List State → Type 0
AreSome k atoms = k ≤ length atoms - 1

-- This number of a file is wanted: it is the last one, which is never given out, since so many reach past it.
abbrev pub IsLastFile : ℕ → ℕ → Type 0
IsLastFile reach number = (number ≡ 2 ^ 32 - 1) × (2 ^ 32 ≤ reach)

-- These writes want the file of that number, of the segment that the first one makes on a store of the first form: where nothing is written
-- no file is wanted.
abbrev pub WantFile : ℕ → List State → ℕ → Type 0
WantFile file writes number = (1 ≤ length writes) × IsLastFile file number

-- The writes lack this number behind so many of them: a number or a family, of which that one is the first that does, or else, before any of
-- them, that of a file.
abbrev pub AreLacking : ℕ → Wants → State → List State → ℕ → ℕ → Type 0
AreLacking file wants s atoms number before =
    (lack_among wants s atoms ≡ Some (record { number = number; before = before }))
    ⊎ ((before ≡ 0) × (lack_among wants s atoms ≡ None) × WantFile file atoms number)

-- The writes broke off: where a number, a family or a file can't be had, just before the one that lacks it, and then the tables stand for
-- the state after those before it. Where the device failed or memory was wanting they stand for no state from then on, and what is left is
-- told of the disk. Rows that stand for a state are never damaged or bad.
abbrev pub BreakOff : ℕ → (State → Type 0) → Wants → State → List State → TableFault → Type 0
BreakOff file now wants s atoms fault = OnlySpent (λ number. (before : ℕ)
    × AreLacking file wants s atoms number before × now (state_after before s atoms))
    (told_by_tables fault)

-- Memory was wanting, at any time before the last of these writes was made: some of them are made, none of which lacked a number or a
-- family, and what the disk holds stands for the state after those.
pub record WantsMemory (disk : DiskState) (wants : Wants) (s : State) (atoms : List State)
    : Type 0 where
  pub made : ℕ
  pub some : AreSome made atoms
  pub enough : lack_among wants s (take made atoms) ≡ None
  pub lasts : StateLasts disk (state_after made s atoms)

-- A call that makes these writes makes them all, or breaks off with the fault.
abbrev pub Writes : {A : Type 0} → ℕ → (State → Type 0) → Wants → State → List State
    → Result A TableFault → Type 0
Writes file now wants s atoms (Ok x) = AreMade now wants s atoms
Writes file now wants s atoms (Err fault) = BreakOff file now wants s atoms fault

-- These writes are made together: the tables stand for the state after the last of them, and there were numbers for all of them.
pub record AreAllMade (now : State → Type 0) (s : State) (writes : List State) : Type 0 where
  pub state : now (last_state s writes)
  pub enough : s.next_number + length writes ≤ NUMBERS_END

-- They broke off, and none of them is made: where there aren't numbers for all of them, or else no file for their segment, the
-- tables stand for the state from before.
abbrev pub BreakOffAll : ℕ → (State → Type 0) → State → List State → TableFault → Type 0
BreakOffAll file now s writes fault = OnlySpent (λ number.
    (((number ≡ NUMBERS_END) × (NUMBERS_END < s.next_number + length writes))
    ⊎ ((s.next_number + length writes ≤ NUMBERS_END) × WantFile file writes number)) × now s)
    (told_by_tables fault)

-- A call that makes these writes together makes them all, or breaks off with the fault.
abbrev pub WritesAll : {A : Type 0} → ℕ → (State → Type 0) → State → List State
    → Result A TableFault → Type 0
WritesAll file now s writes (Ok x) = AreAllMade now s writes
WritesAll file now s writes (Err fault) = BreakOffAll file now s writes fault

-- a fault of work between requests on tables that stand for a state: the last number of a file is wanted, which so many from the next one
-- on reach, the device failed, or memory was wanting
abbrev pub IsWorkFault : ℕ → TableFault → Type 0
IsWorkFault reach fault = OnlySpent (IsLastFile reach) (told_by_tables fault)
