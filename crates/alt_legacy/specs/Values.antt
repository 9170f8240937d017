-- The values of an entry, by how many its operator has (API Reference, "Condition", AttributeValueList).
use Rattle.std.specs.Prelude.{◌&&◌, nat_lt, nat_le, List, [], ◌∷◌, length, Option, Some, None, option_map, option_and_then, Ok, Err, if◌then◌else◌}
use Rattle.serde_json.specs.Data.{Data, Items, no_items, item}
use Rattle.alt_codec.specs.Reading.{ValueOrFault, value_in}
use Rattle.alt_expr.specs.Given.{attr_of}
use Rattle.alt_value.specs.declared.attr.Attr.{Attr}

-- a value that was read; nothing of a faulty one
abbrev pub sound : ValueOrFault → Option Attr
sound (Ok t) = Some (attr_of t)
sound (Err f) = None

-- the value that a JSON tree stands for
abbrev pub json_value : Data → Option Attr
json_value d = sound (value_in 32 d)

-- no value
abbrev pub no_value : Items → Option (Unit {0})
no_value no_items = Some tt
no_value (item d ds) = None

-- one value
abbrev pub one_value : Items → Option Attr
one_value (item d no_items) = json_value d
one_value _ = None

-- both, where both are there
abbrev pub both : Option Attr → Option Attr → Option (Attr × Attr)
both (Some a) (Some b) = Some (a, b)
both _ _ = None

-- two values
abbrev pub two_values : Items → Option (Attr × Attr)
two_values (item d (item e no_items)) = both (json_value d) (json_value e)
two_values _ = None

-- a value in front of others
abbrev pub value_then : Option Attr → Option (List Attr) → Option (List Attr)
value_then (Some a) more = option_map (λ vs. a ∷ vs) more
value_then None more = None

-- the values of a list
abbrev pub all_values : Items → Option (List Attr)
all_values no_items = Some []
all_values (item d ds) = value_then (json_value d) (all_values ds)

-- IN has from 1 to 100 values
abbrev pub if_some : List Attr → Option (List Attr)
if_some vs = if nat_lt 0 (length vs) && nat_le (length vs) 100 then Some vs else None

-- the values of IN
abbrev pub some_values : Items → Option (List Attr)
some_values ds = option_and_then if_some (all_values ds)
