-- The words before `low` are below the word, and those from `high` on are above it.
use Rattle.std.proofs.Common.{◌≡◌, ℕ, ◌<◌, ◌≤◌, ◌-◌, length, get_or}
use Rattle.std.specs.declared.cmp.Ordering.TheVariants.{Less, Greater}
use Rattle.alt_expr.specs.declared.word_values.WordValue.{WordValue}
use Rattle.alt_value.specs.Members.{text_order}
use Rattle.alt_expr.proofs.word_values.place.Given as goal

abbrev pub invariant-loop-low : goal.invariant-loop-low
invariant-loop-low g l = record {
  ordered : l.low ≤ l.high;
  within : l.high ≤ length l.entries.items;
  before : (k : ℕ) (d : WordValue _) → k < l.low → text_order (get_or l.entries.items k d).word l.word
      ≡ Less;
  after : (k : ℕ) (d : WordValue _) → l.high ≤ k → k < length l.entries.items
      → text_order (get_or l.entries.items k d).word l.word ≡ Greater;
}

abbrev pub decreases-loop-low : goal.decreases-loop-low
decreases-loop-low g l = l.high - l.low
