-- Pairs on their way into an item.
use Rattle.std.specs.Prelude.{◌<◌, length}
use Rattle.alt_value.specs.declared.attr.Pair.{Pair as Entry}

-- the name of an entry isn't empty
abbrev pub IsNamed : Entry → Type 0
IsNamed e = 0 < length e.name
