-- The members so far, and the bytes behind them.
use Rattle.std.proofs.Common.{◌≡◌, ◌++◌, length}
use Rattle.std.specs.List.{flat_map}
use Rattle.std.specs.Ordering.{int_cmp}
use Rattle.alt_cellbytes.specs.Values.{AreSetMembers}
use Rattle.alt_decimal.specs.Number.{FitsDecimal}
use Rattle.alt_decimal.specs.Spelled.{spelled}
use Rattle.alt_cellbytes.proofs.members.take_numbers.Given as goal

abbrev pub invariant-loop-done : goal.invariant-loop-done
invariant-loop-done l = record {
  count : length l.set ≡ l._done;
  members : AreSetMembers FitsDecimal int_cmp l.set;
  bytes : l.bytes ≡ flat_map spelled l.set ++ l.rest;
}
