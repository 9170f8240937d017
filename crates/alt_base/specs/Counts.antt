-- Counts of calls and of faults, which stop at the end of 64 bits.
use Rattle.std.specs.Prelude.{ℕ, ◌+◌, ◌-◌, ◌^◌, ◌≤◌, min, max}

-- a count of faults has risen, or stands at its end, which counts as risen
abbrev pub Rose : ℕ → ℕ → Type 0
Rose before now = min (before + 1) (2 ^ 64 - 1) ≤ now

-- the moment after a call; the last one stays
abbrev pub next_moment : ℕ → ℕ
next_moment t = max t (min (t + 1) (2 ^ 64 - 1))
