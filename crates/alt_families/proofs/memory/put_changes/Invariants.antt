-- The changes so far are joined.
use Rattle.std.proofs.Common.{◌≡◌, ℕ, take}
use Rattle.std.specs.BTreeMap.{get}
use Rattle.std.specs.Ordering.{nat_cmp}
use Rattle.alt_families.specs.Memory.{IsChanged, IsWrittenTo}
use Rattle.alt_families.proofs.memory.put_changes.Given as goal

abbrev pub invariant-loop-change : goal.invariant-loop-change
invariant-loop-change l = record {
  written : IsWrittenTo l.fn.families l.families l.number (take l.change-index l.changes);
  others : (family : ℕ) → (IsChanged (take l.change-index l.changes) family → ⊥)
      → get nat_cmp l.families family ≡ get nat_cmp l.fn.families family;
}
