-- The bytes so far, and those to come.
use Rattle.std.proofs.Common.{◌≡◌, ◌+◌, ◌++◌, drop}
use Rattle.alt_writes.specs.Bytes.{writes_bytes, AllHeld}
use Rattle.alt_writes.specs.Writes.{numbered}
use Rattle.alt_writes.proofs.format.put_writes.Given as goal

-- what is out and the bytes of the writes from here on stay together, and if those from here on fit, all do
abbrev pub invariant-loop-batch : goal.invariant-loop-batch
invariant-loop-batch l = record {
  next : l.next ≡ l.number + l.batch-index;
  together : l.out.items ++ writes_bytes (numbered l.next (drop l.batch-index l.batches))
      ≡ l.fn.out.items ++ writes_bytes (numbered l.number l.batches);
  held : AllHeld (numbered l.next (drop l.batch-index l.batches))
      → AllHeld (numbered l.number l.batches);
}
