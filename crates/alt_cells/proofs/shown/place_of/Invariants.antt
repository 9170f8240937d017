-- All names before `low` are below the name, and all from `high` on are above it.
use Rattle.std.proofs.Common.{◌≡◌, ◌-◌, ◌<◌, ◌≤◌, ℕ, List, length, get_or}
use Rattle.std.specs.declared.cmp.Ordering.TheVariants.{Less, Greater}
use Rattle.alt_cells.specs.Keys.{key_cmp}
use Rattle.alt_cells.proofs.shown.place_of.Given as goal

abbrev pub invariant-loop-low : goal.invariant-loop-low
invariant-loop-low l = record {
  within : l.high ≤ length l.entries;
  order : l.low ≤ l.high;
  before : (k : ℕ) (d : List ℕ × List ℕ) → k < l.low
      → key_cmp (get_or l.entries k d).0 l.name ≡ Less;
  after : (k : ℕ) (d : List ℕ × List ℕ) → l.high ≤ k → k < length l.entries
      → key_cmp (get_or l.entries k d).0 l.name ≡ Greater;
}

abbrev pub decreases-loop-low : goal.decreases-loop-low
decreases-loop-low l = l.high - l.low
