-- The moments that a clock in memory told.
use Rattle.std.specs.Prelude.{ℕ, List, ◌++◌, replicate}
use Rattle.std.specs.List.{flat_map}
use Rattle.alt_shell.specs.declared.clock.Told.{Told}

-- moments, each told so often in a row
abbrev pub told_past : List Told → List ℕ
told_past past = flat_map (λ told. replicate told.times told.moment) past

-- with the last one, told so often up to now
abbrev pub told_in : List Told → ℕ → ℕ → List ℕ
told_in past times last = told_past past ++ replicate times last
