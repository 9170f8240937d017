-- What the batches to come give, all give.
use Rattle.std.proofs.Common.{◌≡◌, ◌+◌, ℕ, drop}
use Rattle.std.specs.BTreeMap.{get}
use Rattle.std.specs.Ordering.{nat_cmp}
use Rattle.alt_families.specs.Families.{Families}
use Rattle.alt_families.specs.Memory.{AreChanged, AreWrittenTo}
use Rattle.alt_writes.specs.Writes.{numbered}
use Rattle.alt_families.proofs.memory.put_batches.Given as goal

abbrev pub invariant-loop-batch : goal.invariant-loop-batch
invariant-loop-batch l = record {
  next : l.next ≡ l.number + l.batch-index;
  written : (z : Families)
      → AreWrittenTo l.families z (numbered l.next (drop l.batch-index l.batches))
      → AreWrittenTo l.fn.families z (numbered l.number l.batches);
  others : (z : Families) → ((family : ℕ) → (AreChanged (drop l.batch-index l.batches) family → ⊥)
      → get nat_cmp z family ≡ get nat_cmp l.families family) → (family : ℕ)
      → (AreChanged l.batches family → ⊥) → get nat_cmp z family ≡ get nat_cmp l.fn.families family;
}
