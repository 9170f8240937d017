-- The names before `low` are below the name, and those from `high` on are above it.
use Rattle.std.proofs.Common.{◌≡◌, ℕ, ◌<◌, ◌≤◌, ◌-◌, length, get_or}
use Rattle.std.specs.declared.cmp.Ordering.TheVariants.{Less, Greater}
use Rattle.alt_schema.specs.declared.schema.TableSchema.{TableSchema}
use Rattle.alt_value.specs.Members.{text_order}
use Rattle.alt_opening.proofs.catalog.seek.Given as goal

abbrev pub invariant-loop-low : goal.invariant-loop-low
invariant-loop-low l = record {
  ordered : l.low ≤ l.high;
  within : l.high ≤ length l.entries.items;
  before : (k : ℕ) (d : TableSchema) → k < l.low
      → text_order (get_or l.entries.items k d).name l.name ≡ Less;
  after : (k : ℕ) (d : TableSchema) → l.high ≤ k → k < length l.entries.items
      → text_order (get_or l.entries.items k d).name l.name ≡ Greater;
}

abbrev pub decreases-loop-low : goal.decreases-loop-low
decreases-loop-low l = l.high - l.low
