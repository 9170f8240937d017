-- The members so far are written.
use Rattle.std.proofs.Common.{◌≡◌, ◌++◌, take}
use Rattle.std.specs.List.{flat_map}
use Rattle.alt_decimal.specs.Spelled.{spelled}
use Rattle.alt_cellbytes.proofs.writing.put_each_number.Given as goal

abbrev pub invariant-loop-place : goal.invariant-loop-place
invariant-loop-place l = l.out.items ≡ l.fn.out.items ++ flat_map spelled (take l.place l.set)
