-- A disk in memory as its user sees it.
use Rattle.std.specs.Prelude.{◌==◌, ℕ, Bool, true, false, List, []}
use Rattle.std.specs.List.{list_any}
use Rattle.alt_disk.specs.Disk.{DiskState}
use Rattle.alt_disk.specs.Memory.{nothing, replay, at_moment}
use Rattle.alt_disk.specs.declared.made.Made.{Made}
use Rattle.alt_disk.specs.declared.memory.MemoryDisk.{MemoryDisk}

-- by its calls: reads see all of them, a stop at a moment those that show by then
abbrev pub memory_state : List Made → ℕ → ℕ → ℕ → DiskState
memory_state calls moment faults reads = record {
  tells = true;
  honest = true;
  file = λ f. (replay f nothing calls).bytes;
  fates = λ t f. (at_moment t f calls).fates;
  moment = moment;
  faults = faults;
  reads = reads;
  beside = [];
  cached = λ f at most. false;
  anchors = [];
}

-- the disk's own state
abbrev pub state_of : MemoryDisk → DiskState
state_of d = memory_state d.history.calls.items d.moment d.faults d.reads

-- whether the call made at a moment is to fail
abbrev pub fails_at : MemoryDisk → ℕ → Bool
fails_at d moment = list_any (λ t. t == moment) d.fails.items
