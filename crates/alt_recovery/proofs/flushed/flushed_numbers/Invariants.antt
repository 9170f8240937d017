-- The last families so far are in the map.
use Rattle.std.proofs.Common.{◌≡◌, ◌-◌, ℕ, drop, length}
use Rattle.alt_layout.specs.Families.{flushed_of}
use Rattle.alt_recovery.specs.Flushed.{flushed_in}
use Rattle.alt_recovery.proofs.flushed.flushed_numbers.Given as goal

abbrev pub invariant-loop-i : goal.invariant-loop-i
invariant-loop-i l = (family : ℕ)
    → flushed_in l.numbers family ≡ flushed_of (drop (length l.families - l.i) l.families) family
