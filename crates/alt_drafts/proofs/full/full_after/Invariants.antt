-- All are below where those to come are.
use Rattle.std.proofs.Common.{◌<◌, ℕ, take}
use Rattle.std.specs.BTreeMap.{get}
use Rattle.std.specs.Ordering.{nat_cmp}
use Rattle.alt_families.specs.Memory.{AreChanged}
use Rattle.alt_drafts.specs.InHand.{bytes_in_memory}
use Rattle.alt_drafts.proofs.full.full_after.Given as goal

abbrev pub invariant-loop-batch : goal.invariant-loop-batch
invariant-loop-batch l = (family : ℕ) → AreChanged (take l.batch-index l.batches) family
    → bytes_in_memory (get nat_cmp l.families family) < l.flush
