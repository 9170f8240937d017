-- The changes so far, and the bytes behind them.
use Rattle.std.proofs.Common.{◌≡◌, ◌++◌, length}
use Rattle.alt_writes.specs.Bytes.{changes_bytes, AreHeldChanges}
use Rattle.alt_writes.proofs.read.take_changes.Given as goal

abbrev pub invariant-loop-done : goal.invariant-loop-done
invariant-loop-done l = record {
  count : length l.changes.items ≡ l._done;
  held : AreHeldChanges l.changes.items;
  bytes : l.bytes ≡ changes_bytes l.changes.items ++ l.rest;
}
