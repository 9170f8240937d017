-- Flushed numbers by family.
use Rattle.std.specs.Prelude.{ℕ, Option, Some, None}
use Rattle.std.specs.BTreeMap.{BTreeMap, get}
use Rattle.std.specs.Ordering.{nat_cmp}

-- The number, or 0 where there is none.
abbrev pub or_zero : Option ℕ → ℕ
or_zero None = 0
or_zero (Some number) = number

-- The flushed number that a family has, 0 where it has none.
abbrev pub flushed_in : BTreeMap ℕ ℕ → ℕ → ℕ
flushed_in numbers family = or_zero (get nat_cmp numbers family)
