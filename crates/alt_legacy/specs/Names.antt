-- The names of AttributesToGet (API Reference, "GetItem", AttributesToGet): one at least, each a text that isn't empty, none twice.
use Rattle.std.specs.Prelude.{ℕ, List, [], ◌∷◌, Option, Some, None, option_map, option_and_then, if◌then◌else◌}
use Rattle.serde_json.specs.Data.{Data, Items, no_items, item}
use Rattle.serde_json.specs.Find.{as_array, as_str}
use Rattle.alt_value.specs.Members.{text_order, are_apart}

-- a text that isn't empty
abbrev pub if_name : List ℕ → Option (List ℕ)
if_name [] = None
if_name (b ∷ bs) = Some (b ∷ bs)

-- the name that an element is
abbrev pub element_name : Data → Option (List ℕ)
element_name d = option_and_then if_name (as_str d)

-- a name in front of others
abbrev pub name_then : Option (List ℕ) → Option (List (List ℕ)) → Option (List (List ℕ))
name_then (Some n) more = option_map (λ ns. n ∷ ns) more
name_then None more = None

-- the names of a list
abbrev pub element_names : Items → Option (List (List ℕ))
element_names no_items = Some []
element_names (item d ds) = name_then (element_name d) (element_names ds)

-- one at least, and none twice
abbrev pub if_apart : List (List ℕ) → Option (List (List ℕ))
if_apart [] = None
if_apart (n ∷ ns) = if are_apart text_order (n ∷ ns) then Some (n ∷ ns) else None

-- the names of a member
abbrev pub names_of_member : Data → Option (List (List ℕ))
names_of_member d = option_and_then if_apart (option_and_then element_names (as_array d))
