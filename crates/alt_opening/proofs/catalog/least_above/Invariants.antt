-- Of the tables so far this is the one with the least family above, if one is.
use Rattle.std.proofs.Common.{◌≡◌, ◌<◌, ◌≤◌, ℕ, length, get_or}
use Rattle.alt_schema.specs.declared.schema.TableSchema.{TableSchema}
use Rattle.alt_opening.proofs.catalog.least_above.Given as goal

abbrev pub invariant-loop-i : goal.invariant-loop-i
invariant-loop-i l = record {
  within : l.best ≤ length l.entries;
  least : (d e : TableSchema) (k : ℕ) → l.best < length l.entries → k < l.i
      → l.family < (get_or l.entries k e).family
      → (get_or l.entries l.best d).family ≤ (get_or l.entries k e).family;
  above : (d : TableSchema) → l.best < length l.entries
      → l.family < (get_or l.entries l.best d).family;
  none : (k : ℕ) (e : TableSchema) → l.best ≡ length l.entries → k < l.i
      → (get_or l.entries k e).family ≤ l.family;
}
