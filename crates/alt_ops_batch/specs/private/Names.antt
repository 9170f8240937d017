-- The names that a table of a BatchGetItem gives for its projection, and those that it gives in the place of one.
use Rattle.std.specs.Prelude.{◌≡◌, false}
use Rattle.std.specs.Option.{option_map_or}
use Rattle.serde_json.specs.Data.{Members}
use Rattle.serde_json.specs.Written.{items_have_float, members_have_float}
use Rattle.alt_machine.specs.Expressions as machine
use Rattle.alt_machine.specs.Ops.BatchGetItem.{attributes_member}

-- The names that are given are texts, so no float stands among them.
abbrev pub ArePlainNames : Members → Type 0
ArePlainNames ms = option_map_or members_have_float (machine.names_member ms) false ≡ false

-- The names of attributes that are given are texts too.
pub record ArePlain (ms : Members) : Type 0 where
  pub names : ArePlainNames ms
  pub attributes : option_map_or items_have_float (attributes_member ms) false ≡ false
