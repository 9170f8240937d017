-- All are below where those to come are.
use Rattle.std.proofs.Common.{◌<◌, ℕ, take}
use Rattle.std.specs.BTreeMap.{get}
use Rattle.std.specs.Ordering.{nat_cmp}
use Rattle.alt_families.specs.Memory.{IsChanged}
use Rattle.alt_drafts.specs.InHand.{bytes_in_memory}
use Rattle.alt_drafts.proofs.full.fills.Given as goal

abbrev pub invariant-loop-change : goal.invariant-loop-change
invariant-loop-change l = (family : ℕ) → IsChanged (take l.change-index l.changes) family
    → bytes_in_memory (get nat_cmp l.families family) < l.flush
