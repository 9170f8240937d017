-- The values of a key as they stand in an item.
use Rattle.std.specs.Prelude.{option_map, IfSome}
use Rattle.alt_keyorder.specs.KeyBytes.{IsKey}
use Rattle.alt_machine.specs.Indexed as machine
use Rattle.alt_value.specs.Stands.{tree_of}
use Rattle.alt_views.specs.declared.place.KeyValues.{KeyValues}

-- as the machine has them
abbrev pub machine_key_values : KeyValues → machine.KeyValues
machine_key_values values = record {
  hash = tree_of values.hash.now;
  range = option_map (λ a. tree_of a.now) values.range;
}

-- each is a text, a number or a binary
pub record AreKeys (values : KeyValues) : Type 0 where
  pub hash : IsKey (tree_of values.hash.now)
  pub range : IfSome values.range (λ a. IsKey (tree_of a.now))
