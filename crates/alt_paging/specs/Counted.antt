-- Counts of examined items, for private contracts.
use Rattle.std.specs.Prelude.{ℕ, Bool, false, nat_le, Option}
use Rattle.std.specs.Option.{option_map_or}

-- so many items reach the limit, if there is one
abbrev pub reached : Option ℕ → ℕ → Bool
reached limit count = option_map_or (λ most. nat_le most count) limit false
