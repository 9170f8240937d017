-- The attributes so far are written.
use Rattle.std.proofs.Common.{◌≡◌, ◌++◌, take}
use Rattle.std.specs.List.{flat_map}
use Rattle.alt_cellbytes.specs.Places.{entry_bytes}
use Rattle.alt_changes.proofs.changes.put_attributes.Given as goal

abbrev pub invariant-loop-place : goal.invariant-loop-place
invariant-loop-place l = l.out.items ≡ l.fn.out.items ++ flat_map entry_bytes (take l.place l.item)
