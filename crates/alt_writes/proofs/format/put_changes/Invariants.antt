-- The bytes so far, and those to come.
use Rattle.std.proofs.Common.{◌≡◌, ◌++◌, drop}
use Rattle.alt_writes.specs.Bytes.{changes_bytes, AreHeldChanges}
use Rattle.alt_writes.proofs.format.put_changes.Given as goal

-- what is out and the bytes of the changes from here on stay together, and if those from here on fit, all do
abbrev pub invariant-loop-change : goal.invariant-loop-change
invariant-loop-change l = record {
  together : l.out.items ++ changes_bytes (drop l.change-index l.changes)
      ≡ l.fn.out.items ++ changes_bytes l.changes;
  held : AreHeldChanges (drop l.change-index l.changes) → AreHeldChanges l.changes;
}
