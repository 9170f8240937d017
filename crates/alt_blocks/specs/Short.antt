-- How long the reads are that a cache keeps.
use Rattle.std.specs.Prelude.{◌≤◌, ℕ, List, length, Contains}
use Rattle.alt_blocks.specs.declared.cache.TheConstants.{LONGEST_KEPT}

-- each place has that many bytes at most
abbrev pub AreShort : List ((ℕ × ℕ × ℕ) × List ℕ) → Type 0
AreShort entries =
    (p : ℕ × ℕ × ℕ) (bytes : List ℕ) → Contains entries (p, bytes) → length bytes ≤ LONGEST_KEPT
