-- Why requests have no answer, and why work between them breaks off.
use Rattle.std.specs.Prelude.{◌≡◌, ◌⊎◌, ◌≤◌, ◌+◌, ◌-◌, ◌*◌, ◌^◌, ℕ, List, length, Option, Some, None, option_map}
use Rattle.alt_faults.specs.Faults.{Fault, failed, no_memory, spent, damaged, bad_bytes, bad_digest, bad_row, OnlySpent}
use Rattle.alt_machine.specs.State.{State}
use Rattle.alt_machine.specs.Wanted.{Lack}
use Rattle.alt_tables.specs.FilesLeft.{most_files}
use Rattle.alt_talks.specs.declared.fault.RunFault.{RunFault}
use Rattle.alt_talks.specs.declared.fault.RunFault.TheVariants.{Failed, NoMemory, Spent, Damaged, DigestDiffers, BadRow}

-- What each variant tells: all that tables and an opening tell.
abbrev pub told_by_run : RunFault → Fault
told_by_run (Spent number) = spent number
told_by_run (Damaged file at) = damaged (bad_bytes file at)
told_by_run (DigestDiffers file kept found) = damaged (bad_digest file kept found)
told_by_run (BadRow family key) = damaged (bad_row family key)
told_by_run Failed = failed
told_by_run NoMemory = no_memory

-- Why requests have no answer: they lack that number or family, the device failed, or memory was refused. A store that stands for a
-- state is never damaged.
abbrev pub IsCausedBy : Option Lack → RunFault → Type 0
IsCausedBy lack fault = OnlySpent (λ number. option_map (λ l. l.number) lack ≡ Some number)
    (told_by_run fault)

-- Why work breaks off: it wants file 2^32 - 1, which is never given out, since so many numbers reach it; the device failed, or memory was
-- refused.
abbrev pub IsFileFault : ℕ → RunFault → Type 0
IsFileFault reach fault = OnlySpent (λ number. (number ≡ 2 ^ 32 - 1) × (2 ^ 32 ≤ reach))
    (told_by_run fault)

-- Why a request has no answer that makes these writes, where this is the first file that work makes before it: so, or else, where it lacks
-- neither a number nor a family, the segment that its first write makes wants file 2^32 - 1, and so it writes something.
abbrev pub IsAnswerFault : ℕ → Option Lack → List State → RunFault → Type 0
IsAnswerFault file lack atoms fault =
    IsCausedBy lack fault ⊎ ((lack ≡ None) × (1 ≤ length atoms) × IsFileFault file fault)

-- How far the numbers of files reach from this one on where a task, with a write before it, takes as many as it does at most at each of these
-- moments.
abbrev pub reach : ℕ → List ℕ → ℕ
reach next told = next + length told * most_files
