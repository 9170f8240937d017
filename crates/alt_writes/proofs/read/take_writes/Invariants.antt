-- The writes so far, the least number of the next, and the bytes behind them.
use Rattle.std.proofs.Common.{◌≡◌, ◌++◌, length}
use Rattle.alt_writes.specs.Bytes.{writes_bytes, AllHeld}
use Rattle.alt_writes.specs.Reading.{writes_of}
use Rattle.alt_writes.specs.Writes.{AreRising, past}
use Rattle.alt_writes.proofs.read.take_writes.Given as goal

abbrev pub invariant-loop-done : goal.invariant-loop-done
invariant-loop-done l = record {
  count : length (writes_of l.reads.items) ≡ l._done;
  held : AllHeld (writes_of l.reads.items);
  rising : AreRising l.least (writes_of l.reads.items);
  next : l.next ≡ past l.least (writes_of l.reads.items);
  bytes : l.bytes ≡ writes_bytes (writes_of l.reads.items) ++ l.rest;
}
