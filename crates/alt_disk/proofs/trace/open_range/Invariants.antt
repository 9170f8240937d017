use Rattle.std.proofs.Common.{◌≡◌, ◌-◌}
use Rattle.alt_disk.specs.Fates.{opened}
use Rattle.alt_disk.proofs.trace.open_range.Given as goal

-- the bytes from the range's start on are open so far
abbrev pub invariant-loop-i : goal.invariant-loop-i
invariant-loop-i l = l.known.items ≡ opened l.from (l.i - l.from) l.fn.outline.known.items
